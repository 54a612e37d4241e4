-- The parts of a block once its places have other words.
use Rattle.std.proofs.Common.{◌≡◌, ◌+◌, ℕ, sym, ◌∙◌, length}
use Rattle.std.specs.declared.alloc.Global.{Global}
use Rattle.ph_bits.specs.Parts.{IsBlock}
use Rattle.ph_bits.specs.Slots.{AreWritten}
use Rattle.ph_bits.specs.declared.places.Start.{Start}
use Rattle.ph_bits.specs.declared.places.Places.{Places}
use Rattle.ph_bits.specs.declared.places.Right.{Right}

-- they belong together as before, where there are as many places and the first of them have words
pub other-words : (s : Start) (p q : Places) (r : Right Global) (n m room : ℕ) (alloc : Global) → IsBlock s p r n room alloc →
    q.at ≡ p.at → length q.slots ≡ length p.slots → AreWritten (m + 1) q.slots → IsBlock s q r m room alloc
other-words s p q r n m room alloc h at long written = record {
  start = h.start ∙ sym at;
  right = h.right ∙ sym at;
  whole = h.whole;
  heap = h.heap;
  places = long ∙ h.places;
  small = h.small;
  written = written;
}
