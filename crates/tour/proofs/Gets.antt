-- What is found behind a put.
use Rattle.std.proofs.Common.{◌≡◌, ℕ, List, ◌∙◌, ap, refl, cond}
use Rattle.std.specs.Prelude.{ℤ, Some}
use Rattle.ph_specs.specs.Table.{Row, find, put}
use Rattle.ph_specs.proofs.laws.Put.{find-put, test_from_same}

-- the value that was put at a point is found there
pub find_after_put : (w : ℕ) (rows : List Row) (p : List ℤ) (v : ℕ) → find (put w rows p v) p ≡ Some v
find_after_put w rows p v =
    find-put w rows p p v ∙ ap (λ b. cond b (Some v) (find rows p)) (test_from_same p p refl)
