use Rattle.std.proofs.Common.{◌∙◌, ap, take, length}
use Rattle.ph_tree.proofs.Offsets.{offsets_are}
use Rattle.ph_tree.proofs.key.KeyOf.offsets.Goals as goal

pub returns-clause-value : goal.returns-clause-value
returns-clause-value g c = ap (λ n. take n c.self.inside.offsets) c.D.ensures ∙ offsets_are _ _ _ _ c.self.view_is

pub returns-clause-dims : goal.returns-clause-dims
returns-clause-dims g c = ap (λ n. length (take n c.self.inside.offsets)) c.D.ensures ∙ c.self.invariant.body.fields.0
