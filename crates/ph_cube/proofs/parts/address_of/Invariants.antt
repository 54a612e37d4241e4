use Rattle.std.proofs.Common.{◌≡◌, ◌+◌, ◌*◌, ◌^◌, ◌<◌, ◌≤◌}
use Rattle.ph_bits.specs.Fields.{ones_in}
use Rattle.ph_cube.proofs.parts.address_of.Given as goal

-- the entry is among the next 2^k addresses
abbrev pub invariant-loop-k : goal.invariant-loop-k
invariant-loop-k l =
    record {
      few : l.k ≤ l.fn.dims;
      within : l.addr + 2 ^ l.k ≤ 2 ^ l.fn.dims;
      before : ones_in l.fn.words 64 (l.addr * 2) + l.left ≡ l.fn.i;
      here : l.left < ones_in l.fn.words (64 + l.addr * 2) (2 ^ l.k * 2);
    }

abbrev pub decreases-loop-k : goal.decreases-loop-k
decreases-loop-k l = l.k
