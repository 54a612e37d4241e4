use Rattle.std.proofs.Common.{◌≡◌, map, drop}
use Rattle.ph_specs.specs.Named.{lookup}
use Rattle.ph_io.specs.Storing.{file_of}
use Rattle.ph_io.proofs.stored.bytes_of.Given as goal

abbrev pub invariant-loop-file : goal.invariant-loop-file
invariant-loop-file l = lookup l.name (map file_of l.stored) ≡ lookup l.name (drop l.file-index (map file_of l.stored))
