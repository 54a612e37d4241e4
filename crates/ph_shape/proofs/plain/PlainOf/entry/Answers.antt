use Rattle.std.proofs.Common.{arith}
use Rattle.ph_shape.proofs.Views.{length_is, get_is, filled_is}
use Rattle.ph_shape.proofs.plain.PlainOf.entry.Goals as goal

pub index-requires : goal.index-requires
index-requires g c = omega (arith, c.requires, c.self.inside.entries.ok.0, length_is _ _ _ _ c.self.view_is)

pub returns-clause-shows : goal.returns-clause-shows
returns-clause-shows g c = get_is _ _ _ _ c.self.view_is c.args.i c.index.result.now c.requires c.index.ensures

pub returns-clause-filled : goal.returns-clause-filled
returns-clause-filled g c = filled_is _ _ _ _ c.self.view_is c.args.i c.index.result.now c.self.invariant c.requires c.index.ensures
