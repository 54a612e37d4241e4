use Rattle.std.proofs.Common.{sym, ◌∙◌, ap, map}
use Rattle.ph_shape.specs.View.{entry_of}
use Rattle.ph_shape.proofs.Views.{entries_are}
use Rattle.ph_shape.proofs.plain.PlainOf.entries.Goals as goal

pub returns : goal.returns
returns g c = ap (map (entry_of g.P.Dims.D)) c.deref.ensures.value ∙ sym (entries_are _ _ _ _ c.self.view_is)
