use Rattle.std.proofs.Common.{◌≡◌, ℕ, List, ◌++◌, map, take, drop}
use Rattle.ph_specs.specs.Named.{enter}
use Rattle.ph_io.specs.Storing.{file_of}
use Rattle.ph_io.proofs.stored.place_of.Given as goal

abbrev pub invariant-loop-i : goal.invariant-loop-i
invariant-loop-i l =
    (bytes : List ℕ) → enter l.name bytes (map file_of l.stored) ≡ take l.i (map file_of l.stored) ++ enter l.name bytes (drop l.i (map file_of l.stored))
