use Rattle.std.proofs.Common.{◌≡◌, ◌+◌, ◌++◌, replicate}
use Rattle.ph_bits.specs.Filled.{IsSameValues}
use Rattle.ph_node.proofs.rewrites.push_zeros.Given as goal

abbrev pub invariant-loop : goal.invariant-loop
invariant-loop g l = record {
  words : l.block.words ≡ l.initial.block.words ++ replicate l.counter 0;
  spare : l.initial.block.spare ≡ l.block.spare + l.counter;
  same : IsSameValues l.initial.block l.block;
}
