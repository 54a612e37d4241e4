-- The line of a faulty record, part by part.
use Rattle.std.proofs.Common.{◌≡◌, ℕ, List, [], ◌∷◌, ◌++◌, append_assoc}
use Rattle.std.specs.Prelude.{codes}
use Rattle.ph_specs.specs.Reply.{line_of}

pub fault-line : (number fault : List ℕ) → (((codes "bad record" ++ (32 ∷ number)) ++ codes " ") ++ fault) ++ 10 ∷
    [] ≡ line_of (codes "bad" ∷ codes "record" ∷ number ∷ fault ∷ [])
fault-line number fault = simp append_assoc
