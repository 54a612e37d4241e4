use Rattle.std.proofs.Common.{◌≡◌, ◌+◌, length, Some, None, sym, ◌∙◌, ap, subst, arith}
use Rattle.std.proofs.lemmas.List.{length-set, length-replicate}
use Rattle.ph_bits.specs.Slots.{AreWritten}
use Rattle.ph_bits.proofs.SlotLists.{one_written}
use Rattle.ph_bits.proofs.words.Words.with_room.Goals as goal

pub invariant_of-result : goal.invariant_of-result
invariant_of-result c =
    let t = c.in_ok-start.ensures in let w = c.write.ensures in let cs = c.in_ok-start.places.slots in
    let long : length cs ≡ c.args.room + 1 = ap length t.1 ∙ length-replicate (c.args.room + 1) None in
    record {
      start = sym t.0 ∙ sym w.0;
      right = t.2 ∙ sym t.0 ∙ sym w.0;
      whole = t.3;
      heap = t.4;
      places = ap length w.1 ∙ length-set cs 0 (Some 0) ∙ long;
      small = c.requires;
      written = subst (AreWritten (0 + 1)) (sym w.1) (one_written cs 0 (omega (arith, long)));
    }
