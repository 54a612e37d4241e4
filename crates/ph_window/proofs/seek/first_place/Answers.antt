use Rattle.std.proofs.Common.{◌≡◌, length, arith, sym, subst}
use Rattle.std.specs.Prelude.{MatchOption}
use Rattle.ph_model.specs.EntryList.{entries}
use Rattle.ph_node.specs.Shown.{shown}
use Rattle.ph_window.specs.Seek.{AreShut, IsPassed}
use Rattle.ph_window.proofs.Seeks.{lower-passed}
use Rattle.ph_window.proofs.seek.first_place.Goals as goal

pub returns : goal.returns
returns g c =
    let f = c.args.frame in
    let start : f.place ≡ 0 = omega arith in
    subst (λ p. MatchOption c.next_at_or_after.result
    (AreShut f.note.lower f.note.upper (entries (shown f.node)) p (length (entries (shown f.node))))
    (λ i. IsPassed f.note.lower f.note.upper (entries (shown f.node)) p i)) (sym start)
    (lower-passed f.note.lower f.note.upper (entries (shown f.node)) c.next_at_or_after.result c.next_at_or_after.ensures)
