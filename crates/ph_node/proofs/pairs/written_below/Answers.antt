use Rattle.std.proofs.Common.{ℕ, List, ap, sym, subst, ◌∙◌, take}
use Rattle.std.specs.Prelude.{Some, None, if◌then◌else◌}
use Rattle.ph_digits.proofs.Cuts.{take-below}
use Rattle.ph_specs.specs.Node.{Flat}
use Rattle.ph_model.specs.PutTree.{body_address}
use Rattle.ph_bits.specs.Packed.{IsPadded}
use Rattle.ph_node.proofs.BodyArrays.{padded-below}
use Rattle.ph_node.proofs.pairs.written_below.Goals as goal

pub returns-clause-padded : goal.returns-clause-padded
returns-clause-padded c = subst (λ b. IsPadded c.args.dims b) (sym c.body_below.ensures) (padded-below c.args.dims c.args.place c.args.body.now c.requires.padded)

pub returns-clause-entry : goal.returns-clause-entry
returns-clause-entry c =
    ap {B = Flat} (λ (a : ℕ). record {
      addr = a;
      body = take c.args.dims c.body_below.result;
      value = if c.args.child then None else
          Some c.args.value;
    }) c.body_address.ensures.value
    ∙ ap {B = Flat} (λ (b : List ℕ).
    record {
      addr = body_address c.args.place (take c.args.dims c.args.body.now);
      body = b;
      value = if c.args.child then None else Some c.args.value;
    })
    (ap (λ u. take c.args.dims u) c.body_below.ensures ∙ take-below c.args.place c.args.dims c.args.body.now)
