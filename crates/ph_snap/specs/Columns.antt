-- The columns of tables, as rows of digits of the words, and the rules on them.
use Rattle.std.specs.Prelude.{ℕ, zero, suc, ◌+◌, ◌*◌, ◌&&◌, ◌||◌, ◌==◌, nat_le, nat_lt, Bool, List, [], ◌∷◌, count_by}
use Rattle.std.specs.List.{list_all}
use Rattle.ph_bits.specs.Fields.{digits_row}

-- n bodies of fields, one behind the other
abbrev pub body_rows : List ℕ → ℕ → ℕ → ℕ → ℕ → List (List ℕ)
body_rows words at level dims zero = []
body_rows words at level dims (suc n) =
    digits_row words at level dims ∷ body_rows words (at + dims * level) level dims n

-- kinds from 0 to 2, with so many entries and children
abbrev pub kinds_fit : List ℕ → ℕ → ℕ → Bool
kinds_fit ks entries children =
    list_all (λ k. nat_le k 2) ks && (count_by (λ k. nat_lt 0 k) ks == entries) && (count_by (λ k. k == 2) ks == children)

-- a body is zeros where there is no entry
abbrev pub place_fits : ℕ → List ℕ → Bool
place_fits kind body = nat_lt 0 kind || list_all (λ x. x == 0) body
