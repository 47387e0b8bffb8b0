-- One text more.
use Rattle.std.proofs.Common.{◌≡◌, ℕ, zero, suc, ◌+◌, ◌<◌, List, ◌++◌, refl, sym, ap, ap₂, ◌∙◌, append_assoc, add-one, arith}
use Rattle.lines.specs.Texts.{texts}

-- one turn of a loop that writes one text after another
pub texts_more : (m : ℕ) (f : ℕ → List ℕ) (start : List ℕ) {sofar here now : List ℕ} → sofar ≡ start ++ texts m f → now ≡ sofar ++ here → here ≡ f m → now ≡ start ++ texts (m + 1) f
texts_more m f start {here = here} e d h =
    d ∙ ap (λ t. t ++ here) e ∙ append_assoc start (texts m f) here ∙ ap (λ t. start ++ (texts m f ++ t)) h ∙ sym (ap (λ k. start ++ texts k f) (add-one m))

-- equal texts, one behind another, are equal
pub texts_same : (m : ℕ) (f g : ℕ → List ℕ) → ((i : ℕ) → i < m → f i ≡ g i) → texts m f ≡ texts m g
texts_same zero f g h = refl
texts_same (suc m) f g h = ap₂ ◌++◌ (texts_same m f g (λ i l. h i (omega arith))) (h m (omega arith))
