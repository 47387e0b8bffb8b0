-- Filling the front of a buffer, byte by byte.
use Rattle.std.proofs.Common.{◌≡◌, ℕ, ◌+◌, ◌<◌, ◌≤◌, leb, List, [], ◌∷◌, ◌++◌, map, length, drop, set, Ok, Err, sym, ap, ◌∙◌, append_assoc, arith}
use Rattle.std.specs.List.{range_with_len}
use Rattle.std.proofs.lemmas.List.FromFn.{length-map-range_with_len, map-range_with_len_more}
use Rattle.std.proofs.lemmas.List.{drop_more, set_at}
use Rattle.std.proofs.lemmas.Bool.{le-leb, lt-leb, cond-true, cond-false}
use Rattle.planner.specs.declared.fault.WriteFault.TheVariants.{TooShort}
use Rattle.planner.specs.Writing.{written_answer, fronted, written_buffer}

-- one more byte
pub filled_more : (f : ℕ → ℕ) (old : List ℕ) (i v : ℕ) → i < length old → v ≡ f i → set (map f (range_with_len 0 i) ++ drop i old) i v ≡ map f (range_with_len 0 (i + 1)) ++ drop (i + 1) old
filled_more f old i v h w =
    ap (λ (t : List ℕ). set (map f (range_with_len 0 i) ++ t) i v) (drop_more old i 0 h)
    ∙ set_at (map f (range_with_len 0 i)) _ (drop (i + 1) old) v i (length-map-range_with_len f 0 i)
    ∙ ap (λ (z : ℕ). map f (range_with_len 0 i) ++ z ∷ drop (i + 1) old) w
    ∙ sym (append_assoc (map f (range_with_len 0 i)) (f i ∷ []) (drop (i + 1) old))
    ∙ ap (λ (t : List ℕ). t ++ drop (i + 1) old) (sym (map-range_with_len_more f 0 i i (omega arith)))

module _ (bs old : List ℕ) where
  pub short_answer : length old < length bs → written_answer bs old ≡ Err TooShort
  short_answer h = cond-false (leb (length bs) (length old)) _ _ (lt-leb _ _ h)

  pub short_buffer : length old < length bs → written_buffer bs old ≡ old
  short_buffer h = cond-false (leb (length bs) (length old)) _ _ (lt-leb _ _ h)

  pub long_answer : length bs ≤ length old → written_answer bs old ≡ Ok tt
  long_answer h = cond-true (leb (length bs) (length old)) _ _ (le-leb _ _ h)

  pub long_buffer : length bs ≤ length old → written_buffer bs old ≡ fronted bs old
  long_buffer h = cond-true (leb (length bs) (length old)) _ _ (le-leb _ _ h)
