use Rattle.std.proofs.Common.{◌≡◌, ◌+◌, ◌-◌, ◌*◌, ◌^◌, ◌<◌, ◌≤◌, length}
use Rattle.ph_model.specs.Digits.{digits_at}
use Rattle.ph_bits.specs.Fields.{ones_in}
use Rattle.ph_cube.proofs.parts.next_present.Given as goal

-- the kinds from an address on that lie in one word; no entry is in front of it but those up to the one that was left
abbrev pub invariant-loop-left : goal.invariant-loop-left
invariant-loop-left l =
    record {
      within : l.first < 2 ^ l.fn.dims;
      before : ones_in l.fn.words 64 (l.first * 2) ≡ l.fn.i + 1;
      inside : l.place < length l.fn.words;
      some : l.first < 32 * l.place;
      few : 32 * l.place ≤ l.first + 32;
      fits : l.left < 2 ^ 64;
      kinds : l.left ≡ digits_at l.fn.words (64 + l.first * 2) ((32 * l.place - l.first) * 2) * 2 ^ (64 - (32 * l.place - l.first) * 2);
    }

abbrev pub decreases-loop-left : goal.decreases-loop-left
decreases-loop-left l = 2 ^ l.fn.dims - l.first
