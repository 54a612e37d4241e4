use Rattle.std.proofs.Common.{arith}
use Rattle.ph_bits.specs.Edits.{new_flat}
use Rattle.ph_node.proofs.EditReads.{longer}
use Rattle.ph_node.proofs.edited.EditedOfEntries.count.Goals as goal

pub returns : goal.returns
returns g c =
    let s = c.args.self.now in
    omega (
      arith,
      c.count.ensures,
      s.within,
      longer g.P.Dims.D s.old.now s.edit.place s.edit.less s.edit.more
          (new_flat g.P.Dims.D s.edit.entry s.edit.value) s.source s.within,
    )
