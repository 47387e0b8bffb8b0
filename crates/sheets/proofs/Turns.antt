-- A turn of the loops that ask one number after another.
use Rattle.std.proofs.Common.{◌≡◌, ℕ, ◌+◌, Bool, ◌&&◌, sym, ap, ◌∙◌, ap₂, add-one}
use Rattle.ranges.specs.Ranges.{all}

pub all_more : (m : ℕ) (f : ℕ → Bool) (sofar here : Bool) → sofar ≡ all m f → here ≡ f m → (here && sofar) ≡ all (m + 1) f
all_more m f sofar here e h = ap₂ ◌&&◌ h e ∙ sym (ap (λ k. all k f) (add-one m))
