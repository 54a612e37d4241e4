use Rattle.std.proofs.Common.{◌≡◌, ◌∙◌, Bool, true, false, arith, refl, rules}
use Rattle.ph_io.specs.Causes.{Rose}
use Rattle.ph_slot.specs.Drafting.{Drafted, Follows, failed_writes}
use Rattle.ph_slot.proofs.filing.append_tree.Goals as goal

-- a write to the file has failed, where the count of those that did rose
fell : (a b : Drafted) (works : Bool) → Follows a b → a.works ≡ true → a.late ≡ 0 → b.works ≡ works →
    Rose (failed_writes a.works a.late) (failed_writes b.works b.late) → b.works ≡ false
fell a b false f works none is rose = is
fell a b true f works none is rose =
    let same : b.late ≡ 0 = (f.none is).1 ∙ none in
    let no : Rose 0 0 = rw (works, none, is, same) at rose in
    absurd (omega (arith, no))

pub returns-in-Err-clause-filled : goal.returns-in-Err-clause-filled
returns-in-Err-clause-filled g c =
    let f = c.save_tree.ensures.follows in
    let no : c.save_tree.new.out.works ≡ false = fell _ _ _ f c.new-sink.ensures.works c.new-sink.ensures.late refl c.in-Err.ensures.cause.failed in
    let rose = f.fell c.new-sink.ensures.works no in
    search (rules, no, rose)
