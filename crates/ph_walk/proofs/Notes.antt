-- What is noted, and what is found.
use Rattle.std.proofs.Common.{◌≡◌, ℕ, List, subst}
use Rattle.std.specs.Prelude.{Option, Some, None, MatchOption, IfSome}
use Rattle.ph_walk.specs.Area.{Area, IsNote}
use Rattle.ph_walk.specs.declared.area.Masks.{Masks}

pub none_of : {X : Type 0} (A : Type 0) (B : X → Type 0) {o : Option X} → o ≡ None → MatchOption o A B → A
none_of A B e h = subst (λ o. MatchOption o A B) e h

pub some_of : {X : Type 0} (A : Type 0) (B : X → Type 0) {o : Option X} {x : X} → o ≡ Some x → MatchOption o A B → B x
some_of A B e h = subst (λ o. MatchOption o A B) e h

pub if-some : {X : Type 0} (P : Type 0) (o : Option X) → P → IfSome o (λ x. P)
if-some P None p = tt
if-some P (Some x) p = p

-- at the node's level
pub noted-at : (a : Area) (IsNoted : ℕ → List ℕ → Masks → Type 0) (digits : List ℕ) (m : Option Masks) {l k : ℕ} →
    l ≡ k → IsNote a IsNoted l digits m → IsNote a IsNoted k digits m
noted-at a IsNoted digits m e h = subst (λ l. IsNote a IsNoted l digits m) e h
