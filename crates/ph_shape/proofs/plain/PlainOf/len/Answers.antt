use Rattle.std.proofs.Common.{sym, ◌∙◌}
use Rattle.ph_shape.proofs.Views.{length_is}
use Rattle.ph_shape.proofs.plain.PlainOf.len.Goals as goal

pub returns : goal.returns
returns g c = c.len.ensures ∙ c.self.inside.entries.ok.0 ∙ sym (length_is _ _ _ _ c.self.view_is)
