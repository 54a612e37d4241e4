-- A pass over two lists, number by number.
use Rattle.std.proofs.Common.{◌≡◌, List, ◌∷◌, sym, ◌∙◌, ap, true, false}
use Rattle.std.specs.Prelude.{ℤ, int_le, ◌&&◌}
use Rattle.ph_specs.specs.Coordinate.{at_most}

pub ordered_so_far : (a b : ℤ) (us vs ps qs low high : List ℤ) → ps ≡ a ∷ us → qs ≡ b ∷ vs → int_le a b ≡ true →
    at_most ps qs ≡ at_most low high → at_most us vs ≡ at_most low high
ordered_so_far a b us vs ps qs low high e f t h =
    sym (ap (λ s. s && at_most us vs) t) ∙ sym (λ i. at_most (e i) (f i)) ∙ h

pub reversed_here : (a b : ℤ) (us vs ps qs low high : List ℤ) → ps ≡ a ∷ us → qs ≡ b ∷ vs → int_le a b ≡ false →
    at_most ps qs ≡ at_most low high → false ≡ at_most low high
reversed_here a b us vs ps qs low high e f t h =
    sym (ap (λ s. s && at_most us vs) t) ∙ sym (λ i. at_most (e i) (f i)) ∙ h
