use Rattle.std.proofs.Common.{◌≡◌, ◌<◌, ◌^◌, drop}
use Rattle.ph_model.specs.PutTree.{body_address_from, body_address}
use Rattle.ph_digits.proofs.bodies.body_address.Given as goal

abbrev pub invariant-loop-field : goal.invariant-loop-field
invariant-loop-field l = record {
  small : l.address < 2 ^ l.field-index;
  is : body_address_from l.address l.place (drop l.field-index l.fields) ≡ body_address l.place l.fields;
}
