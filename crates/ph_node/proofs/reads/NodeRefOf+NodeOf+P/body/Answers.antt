use Rattle.std.proofs.Common.{take, ap, sym, subst, ◌∙◌}
use Rattle.ph_model.specs.Lawful.{IsBody}
use Rattle.ph_bits.specs.Packed.{IsPadded}
use Rattle.ph_node.specs.Shown.{shown}
use Rattle.ph_node.proofs.BodyArrays.{filled-behind}
use Rattle.ph_node.proofs.Reading.{same-row}
use Rattle.ph_node.proofs.reads.NodeRefOf+NodeOf+P.body.Goals as goal

pub returns-clause-fields : goal.returns-clause-fields
returns-clause-fields g c =
    ap (λ d. take d c.row.result) (sym c.D.ensures) ∙ c.row.ensures.fields
    ∙ same-row _ _ _ _ _ _ _ _ c.words.ensures c.level.ensures.value c.D.ensures c.body_place-at.ensures.body

pub returns-clause-body : goal.returns-clause-body
returns-clause-body g c = record {
  fields = subst (IsBody g.P.Dims.D (shown c.args.self.now).level) (sym (returns-clause-fields g c)) c.body_place-at.ensures.digits;
  filled = filled-behind g.P.Dims.D c.row.result (subst (λ d. IsPadded d c.row.result) c.D.ensures c.row.ensures.zeros);
}
