use Rattle.std.proofs.Common.{◌≡◌, ◌+◌, ℕ, Bool, true, false, not, arith, ap, sym, ◌∙◌, subst, map}
use Rattle.std.specs.Prelude.{Some, slice_get}
use Rattle.ph_model.specs.Layout.{is_child}
use Rattle.ph_specs.specs.Record.{entries_in}
use Rattle.ph_model.proofs.laws.WordDigits.{each-fits}
use Rattle.ph_linear.proofs.Writing.{byte, byte-few}
use Rattle.ph_node.proofs.Full.{both-before}
use Rattle.ph_node.proofs.Marked.{points-next}
use Rattle.ph_node.proofs.marks.next.Goals as goal

pub overflow_add-result-2 : goal.overflow_add-result-2
overflow_add-result-2 c =
    let m = c.requires.mark in
    omega (
      arith,
      byte-few (not c.is_child-child.result),
      m.points,
      m.within,
      both-before c.args.dims c.args.words.now m.laid (each-fits c.args.words.now c.type_inv.words) c.args.last.place m.within,
    )

pub returns-clause-mark : goal.returns-clause-mark
returns-clause-mark c =
    let m = c.requires.mark in
    let rs = entries_in c.args.dims c.args.words.now in
    let kind : slice_get (map is_child (entries_in c.args.dims c.args.words.now)) c.args.last.place ≡ Some c.is_child-child.result =
    subst (λ i. slice_get (map is_child (entries_in c.args.dims c.args.words.now)) i ≡ Some c.is_child-child.result) c.spot_of.ensures.place c.is_child-child.ensures in
    record {
      laid = m.laid;
      within = c.requires.within;
      address = c.next_address.ensures;
      points = omega (arith, m.points, byte (not c.is_child-child.result), points-next rs c.args.last.place c.is_child-child.result kind);
    }
