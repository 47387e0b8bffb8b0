use Rattle.std.proofs.Common.{rules, sym, subst, inl, inr}
use Rattle.std.specs.Str.Iter.{split_whitespace_rest}
use Rattle.lines.specs.Words.{ReadsCapped}
use Rattle.lines.proofs.WordLaws.{a_word, first_word, two_words}
use Rattle.lines.proofs.words.read_pair.Goals as goal

pub returns-in_default : goal.returns-in_default
returns-in_default c =
    let v = c.in_default.field-0-0.now in
    let w = c.in_default.field-0-1.now in
    let z = c.in_default.field-0-2.now in
    let mid = split_whitespace_rest c.next-2.new.self in
    let rest = split_whitespace_rest c.next-3.new.self in
    inr (inl (v, w, z, mid, rest, two_words v w c.split_whitespace-words.ensures.rest c.in_default.ensures.steps c.in_default.ensures'.steps, a_word mid z rest c.in_default.ensures''.steps))

pub returns-in_default-4 : goal.returns-in_default-4
returns-in_default-4 c =
    let v = c.in_default.field-0-0.now in
    inl (inr (v, (split_whitespace_rest c.next.new.self, first_word v c.split_whitespace-words.ensures.rest c.in_default.ensures.steps, c.in_default.ensures'.steps.1)))

pub returns-in_default-3 : goal.returns-in_default-3
returns-in_default-3 c = inl (inl (split_whitespace_rest c.split_whitespace-words.result, sym c.split_whitespace-words.ensures.rest, c.in_default.ensures.steps.1))

pub returns : goal.returns
returns c =
    let h = c.in-Some-Some-None in
    let v = h.first.now in
    let w = h.second.now in
    (v, w, (split_whitespace_rest c.next-2.new.self, two_words v w c.split_whitespace-words.ensures.rest h.ensures.steps h.ensures'.steps, h.ensures''.steps.1), search rules, search rules)

pub returns-in_default-2 : goal.returns-in_default-2
returns-in_default-2 c =
    let h = c.in-Some-Some-None in
    let v = h.first.now in
    let w = h.second.now in
    inr (inr (v, w, (split_whitespace_rest c.next-2.new.self, two_words v w c.split_whitespace-words.ensures.rest h.ensures.steps h.ensures'.steps, h.ensures''.steps.1), inr c.in_default-2.ensures'))

pub returns-in_default-2-2 : goal.returns-in_default-2-2
returns-in_default-2-2 c =
    let h = c.in-Some-Some-None in
    let v = h.first.now in
    let w = h.second.now in
    inr (inr (v, w, (split_whitespace_rest c.next-2.new.self, two_words v w c.split_whitespace-words.ensures.rest h.ensures.steps h.ensures'.steps, h.ensures''.steps.1), inl (subst (ReadsCapped v) c.in_default-2.is-0 c.read_capped.ensures)))
