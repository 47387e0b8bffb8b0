use Rattle.std.proofs.Common.{rules, [], ◌∷◌, ◌++◌, sym, ap, ◌∙◌, append_assoc, append-nil}
use Rattle.std.specs.Str.Iter.{split_whitespace_rest}
use Rattle.lines.specs.Words.{Writes}
use Rattle.lines.proofs.WordLaws.{a_word, one_word_more, one_number_more}
use Rattle.lines.proofs.words.read_bytes.Goals as goal

-- no word is seen yet, and the whole text is left
pub loop-word-init : goal.loop-word-init
loop-word-init c = ([], [], sym (ap split_whitespace_rest c.into_iter-word-iterator.ensures.into_iter_gives ∙ c.split_whitespace-word-items.ensures.rest), tt, sym (append-nil c.args.bytes.now.items))

pub loop-word-preserved : goal.loop-word-preserved
loop-word-preserved c =
    let so = c.loop-word.invariant in
    let w = c.in-Some.word.now in
    let n = c.in-Ok.byte in
    let writes : Writes 8 w n = search rules in (
      so.0 ++ (w ∷ []),
      so.1 ++ (n ∷ []),
      one_word_more _ so.0 _ w _ so.2 (a_word _ w _ c.in-Some.ensures.steps),
      one_number_more 8 so.0 so.1 w n so.3 writes,
      c.in_ok-push.ensures.items ∙ ap (λ xs. xs ++ (n ∷ [])) so.4 ∙ append_assoc c.args.bytes.now.items so.1 (n ∷ []),
    )

pub returns-in_default : goal.returns-in_default
returns-in_default c =
    let so = c.loop-word.invariant in
    (so.0, c.in-Some.word.now, split_whitespace_rest c.loop-word.word-iterator, split_whitespace_rest c.next.new.self, so.2, a_word _ _ _ c.in-Some.ensures.steps, search rules)

pub returns : goal.returns
returns c = let so = c.loop-word.invariant in (so.0, so.1, (split_whitespace_rest c.loop-word.word-iterator, so.2, c.in-None.ensures.steps.1), so.3, so.4)
