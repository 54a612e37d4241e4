use Rattle.std.proofs.Common.{◌+◌, refl, arith, eqb-true}
use Rattle.ph_model.specs.EntryList.{entries}
use Rattle.ph_node.specs.Shown.{shown}
use Rattle.ph_path.proofs.Paths.{read-entry}
use Rattle.ph_path.proofs.Rising.{lawful-rising}
use Rattle.ph_window.proofs.Areas.{none-left, out-none}
use Rattle.ph_window.proofs.Between.{at-seen}
use Rattle.ph_window.proofs.Seeks.{behind-upper}
use Rattle.ph_window.proofs.corners.CornersOf.is_last_to_fit.Goals as goal

pub returns : goal.returns
returns g c e =
    let t = at-seen c.self.invariant c.self.view_is c.requires.width c.digits-digits.ensures.body
    c.digits-digits.ensures.value (shown c.args.node).level c.requires.level in
    let n = shown c.args.node in
    none-left t c.requires.masks n c.requires.lawful (c.args.spot.place + 1)
    (c.args.spot.place + 1) (omega arith) (out-none t c.requires.masks (entries n) (c.args.spot.place + 1))
    (behind-upper c.args.note.lower c.args.note.upper (entries n)
    (lawful-rising g.P.Dims.D n.level 0 n.chain c.requires.lawful) c.args.spot.place _
    (read-entry (entries n) c.args.spot refl c.requires.spot refl)
    (eqb-true c.args.spot.addr c.args.note.upper e))
