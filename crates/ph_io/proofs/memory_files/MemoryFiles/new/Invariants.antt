use Rattle.std.proofs.Common.{◌≡◌, All, vec_len}
use Rattle.ph_io.specs.Storing.{IsRoomy}
use Rattle.ph_io.proofs.memory_files.MemoryFiles.new.Given as goal

abbrev pub invariant-loop : goal.invariant-loop
invariant-loop l = record {
  roomy : All (IsRoomy l.room) l.spare.items;
  count : vec_len l.spare ≡ l.counter;
}
