use Rattle.std.proofs.Common.{◌≡◌, ℕ, ◌+◌, ap, sym, ◌∙◌, ⊎_elim, arith}
use Rattle.std.proofs.lemmas.Bool.{cases_lt}
use Rattle.std.proofs.lemmas.List.{get_or_past}
use Rattle.sheets.specs.Format.{byte, word}
use Rattle.sheets.proofs.words.word_at.Goals as goal

pub returns : goal.returns
unfolding word
returns c =
    let bs = c.args.bytes.now in
    let next : byte bs c.saturating_add.result ≡ byte bs (c.args.i + 1) = ⊎_elim
    (λ l. let e : c.saturating_add.result ≡ c.args.i + 1 = omega arith in ap (λ (n : ℕ). byte bs n) e)
    (λ g. get_or_past bs _ 0 (omega arith) ∙ sym (get_or_past bs _ 0 (omega arith)))
    (cases_lt c.args.i 18446744073709551615) in
    omega (arith, next)
