use Rattle.std.proofs.Common.{◌≤◌, ◌^◌, ◌<◌, ap, sym, ◌∙◌, arith}
use Rattle.std.specs.Prelude.{Some}
use Rattle.std.proofs.Math.Nat.{pow-le-pow_right}
use Rattle.ph_model.proofs.laws.WordDigits.{each-fits}
use Rattle.ph_cube.proofs.Entries.{kind-is}
use Rattle.ph_cube.proofs.Ranks.{room}
use Rattle.ph_cube.proofs.Stood.{stands-at}
use Rattle.ph_cube.proofs.known.is_child_at.Goals as goal

pub child_at-requires-clause-few : goal.child_at-requires-clause-few
child_at-requires-clause-few c =
    let r = c.requires in
    let o : 0 < 2 = omega arith in
    let p : 2 ^ c.args.dims ≤ 2 ^ 16 = pow-le-pow_right o r.record.few in
    omega (arith, p, (stands-at c.args.dims c.args.words.now c.args.addr c.args.i r.record (each-fits c.args.words.now c.type_inv.words) r.within r.address).limit)

pub child_at-requires-clause-inside : goal.child_at-requires-clause-inside
child_at-requires-clause-inside c =
    let r = c.requires in
    omega (
      arith,
      room c.args.dims c.args.words.now r.record,
      (stands-at c.args.dims c.args.words.now c.args.addr c.args.i r.record
          (each-fits c.args.words.now c.type_inv.words) r.within r.address).limit,
    )

pub returns : goal.returns
returns c =
    let r = c.requires in
    let h = each-fits c.args.words.now c.type_inv.words in
    kind-is c.args.dims c.args.words.now c.args.addr c.args.i r.record h r.within
    (stands-at c.args.dims c.args.words.now c.args.addr c.args.i r.record h r.within r.address)
    ∙ ap Some (sym c.child_at.ensures)
