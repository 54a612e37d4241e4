use Rattle.std.proofs.Common.{◌≡◌, ◌≤◌, ◌++◌, ◌∙◌, ℕ, List, length, arith}
use Rattle.std.proofs.lemmas.Result.{err_from_is_err_and}
use Rattle.std.specs.Option.{option_copied}
use Rattle.ph_specs.specs.declared.Kind.{Kind}
use Rattle.ph_specs.specs.Node.{nodes}
use Rattle.ph_specs.specs.Snapshot.{snap}
use Rattle.ph_specs.specs.Table.{Row, IsTable}
use Rattle.ph_specs.specs.WorkSets.{all_nodes}
use Rattle.ph_tree.proofs.Sizes.{nodes-few}
use Rattle.ph_snap.specs.Saving.{saved}
use Rattle.ph_snap.proofs.SavedNodes.{stopped, visited}
use Rattle.ph_snap.proofs.Snaps.{snap-saved, snap-size, node-count, front-behind, front-whole, given-whole, snap-unique}
use Rattle.ph_snap.proofs.saves.save.Given.{Over}
use Rattle.ph_snap.proofs.saves.save.Goals.{In_ok-push}
use Rattle.ph_snap.proofs.saves.save.Goals as goal

pub save_tree-requires : goal.save_tree-requires
save_tree-requires g c =
    let w : 1 ≤ c.args.tree.now.width = omega (arith, c.bits-bits.ensures.value, c.bits-bits.ensures.some, c.width.ensures) in
    omega (
      arith,
      nodes-few c.args.tree.now.width g.row.D c.args.tree.now.table _ w c.root-root.ensures.table
          c.root-root.ensures.shape,
      c.len-rows.ensures.value,
      c.len-rows.type_inv,
    )

module _ (g : Over) (c : In_ok-push g) where
  -- the snapshot is the header and the records of the nodes, which are those of the table
  split : snap c.args.kind g.row.D c.args.tree.now.width c.args.tree.now.table ≡
      c.header.result ++ saved g.row.D (nodes (option_copied c.root-root.result))
  split = snap-saved c.args.kind g.row.D c.args.tree.now.width c.args.tree.now.table c.root-root.result
      c.is_some.result c.bits-bits.result c.header.result (c.bits-bits.ensures.value ∙ c.width.ensures)
      c.root-root.ensures.shape c.is_some.ensures c.header.ensures

  counted : length (nodes (option_copied c.root-root.result)) ≡ length (all_nodes c.args.tree.now.width g.row.D c.args.tree.now.table)
  counted = node-count g.row.D c.args.tree.now.width c.args.tree.now.table c.root-root.result c.root-root.ensures.shape

  -- it is that of no other tree
  unique : (m : Kind) (other width : ℕ) (t : List Row) → IsTable width other t →
      snap c.args.kind g.row.D c.args.tree.now.width c.args.tree.now.table ≡ snap m other width t →
      (c.args.kind ≡ m) × (g.row.D ≡ other) × (c.args.tree.now.width ≡ width) × (c.args.tree.now.table ≡ t)
  unique = snap-unique c.args.kind g.row.D c.args.tree.now.width c.args.tree.now.table
      (omega (arith, c.bits-bits.ensures.value, c.bits-bits.ensures.some, c.width.ensures))
      (omega (arith, c.bits-bits.ensures.value, c.bits-bits.ensures.limit, c.width.ensures)) c.root-root.ensures.few
      c.root-root.ensures.table

-- ---- what was given

pub returns-in_err-size-clause-front : goal.returns-in_err-size-clause-front
returns-in_err-size-clause-front g c =
    let is = err_from_is_err_and c.from_residual-in_err-size.result c.from_residual-in_err-size.ensures.1 in
    let whole = split g (goal.at.returns-in_err-size-clause-front g c).In_ok-push in
    rw is.1 (front-behind _ _ _ _ _ _ _ _ c.new-block.ensures whole c.in_ok-push.ensures.passed c.in_err-size.ensures.records.front)

pub returns-in_err-give-clause-front : goal.returns-in_err-give-clause-front
returns-in_err-give-clause-front g c =
    let is = err_from_is_err_and c.from_residual-in_err-give.result c.from_residual-in_err-give.ensures.1 in
    let whole = split g (goal.at.returns-in_err-give-clause-front g c).In_ok-push in
    rw is.1 (front-whole _ _ _ _ _ _ _ _ c.new-block.ensures whole c.in_ok-push.ensures.passed _ _ c.in_ok-size.ensures.records.passed c.in_err-give.ensures.front)

pub returns-clause-saved : goal.returns-clause-saved
returns-clause-saved g c =
    let whole = split g (goal.at.returns-clause-saved g c).In_ok-push in
    given-whole _ _ _ _ _ _ _ _ c.new-block.ensures whole c.in_ok-push.ensures.passed _ _ c.in_ok-size.ensures.records.passed c.in_ok-give.ensures.given

pub returns-clause-size : goal.returns-clause-size
returns-clause-size g c =
    snap-size c.args.kind g.row.D c.args.tree.now.width c.args.tree.now.table c.root-root.result c.is_some.result
    c.bits-bits.result c.header.result (c.bits-bits.ensures.value ∙ c.width.ensures) c.root-root.ensures.shape
    c.is_some.ensures c.header.ensures c.in_ok-size.size c.in_ok-size.ensures.records.size

-- ---- the nodes that were visited

pub returns-in_err-size-clause-visits : goal.returns-in_err-size-clause-visits
returns-in_err-size-clause-visits g c =
    let is = err_from_is_err_and c.from_residual-in_err-size.result c.from_residual-in_err-size.ensures.1 in
    stopped is.1 c.in_err-size.ensures.visits.kept
    (omega (arith, c.in_err-size.ensures.visits.most, counted g (goal.at.returns-in_err-size-clause-visits g c).In_ok-push))

pub returns-in_err-give-clause-visits : goal.returns-in_err-give-clause-visits
returns-in_err-give-clause-visits g c =
    let is = err_from_is_err_and c.from_residual-in_err-give.result c.from_residual-in_err-give.ensures.1 in
    stopped is.1 c.in_ok-size.ensures.visits.kept
    (omega (arith, c.in_ok-size.ensures.visits.most, counted g (goal.at.returns-in_err-give-clause-visits g c).In_ok-push))

pub returns-clause-visits : goal.returns-clause-visits
returns-clause-visits g c =
    visited (omega (arith, c.in_ok-size.ensures.visits.all, counted g (goal.at.returns-clause-visits g c).In_ok-push))

-- ---- no other tree

pub returns-in_err-size-clause-unique : goal.returns-in_err-size-clause-unique
returns-in_err-size-clause-unique g c = unique g (goal.at.returns-in_err-size-clause-unique g c).In_ok-push

pub returns-in_err-give-clause-unique : goal.returns-in_err-give-clause-unique
returns-in_err-give-clause-unique g c = unique g (goal.at.returns-in_err-give-clause-unique g c).In_ok-push

pub returns-clause-unique : goal.returns-clause-unique
returns-clause-unique g c = unique g (goal.at.returns-clause-unique g c).In_ok-push
