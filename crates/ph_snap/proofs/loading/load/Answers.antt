use Rattle.std.proofs.Common.{length, ap, sym, subst, ◌∙◌, arith}
use Rattle.ph_specs.specs.SnapshotOf.{IsSnapshotOf}
use Rattle.ph_specs.specs.WorkSets.{all_nodes}
use Rattle.ph_model.proofs.laws.Snapshots.{none-from_snapshot}
use Rattle.ph_snap.proofs.Asked.{empty-is, root-asked, body-asked}
use Rattle.ph_snap.proofs.Headings.{given-fault, other-fault, header-dims}
use Rattle.ph_snap.proofs.Sizes.{rows-points, nodes-size}
use Rattle.ph_snap.proofs.Stepping.{bytes-are}
use Rattle.ph_snap.proofs.loading.load.Goals as goal

pub returns-in-Err-clause-fault : goal.returns-in-Err-clause-fault
returns-in-Err-clause-fault g c =
    given-fault c.args.bytes.now c.in-Err.fault c.args.kind g.row.D c.args.w c.in-Err.ensures.fault

pub returns-then-not-is_asked-clause-fault : goal.returns-then-not-is_asked-clause-fault
returns-then-not-is_asked-clause-fault g c =
    other-fault c.args.bytes.now c.in-Ok.header c.in-Ok.ensures.header c.args.kind g.row.D c.args.w (c.is_asked.ensures.no c.if-not-is_asked.true)

pub returns-then-not-header-clause-snapshot : goal.returns-then-not-header-clause-snapshot
returns-then-not-header-clause-snapshot g c =
    let asked = c.is_asked.ensures.yes c.if-not-is_asked.false in
    let r = empty-is c.in-Ok.ensures.header asked (bytes-are c.args.bytes.now c.type_inv.bytes) c.if-not-header.true
    (omega (arith, c.if-bytes-gt8.false)) in
    subst (IsSnapshotOf c.args.kind g.row.D c.args.w c.args.bytes.now) (sym c.adopt.ensures.table) r.snapshot

pub adopt-requires-in-Ok-load_root : goal.adopt-requires-in-Ok-load_root
adopt-requires-in-Ok-load_root g c =
    let asked = c.is_asked.ensures.yes c.if-not-is_asked.false in
    let r = root-asked c.in-Ok.ensures.header asked c.if-not-header.false c.bits.ensures.value
    (bytes-are c.args.bytes.now c.type_inv.bytes) c.in-Ok-load_root.ensures.none c.in-Ok-load_root.ensures.tree in
    let d = header-dims c.args.bytes.now c.in-Ok.header c.in-Ok.ensures.header in (
      omega arith,
      (
        omega arith,
        (
          omega (arith, d.0, asked.1),
          (
            omega (arith, d.1, asked.1),
            (
              r.lawful,
              c.in-Ok-load_root.ensures.rows ∙
                  sym (rows-points c.args.w g.row.D c.in-Ok-load_root.root.node),
            ),
          ),
        ),
      ),
    )

pub returns-in-Ok-load_root-clause-snapshot : goal.returns-in-Ok-load_root-clause-snapshot
returns-in-Ok-load_root-clause-snapshot g c =
    let asked = c.is_asked.ensures.yes c.if-not-is_asked.false in
    let r = root-asked c.in-Ok.ensures.header asked c.if-not-header.false c.bits.ensures.value
    (bytes-are c.args.bytes.now c.type_inv.bytes) c.in-Ok-load_root.ensures.none c.in-Ok-load_root.ensures.tree in
    subst (IsSnapshotOf c.args.kind g.row.D c.args.w c.args.bytes.now) (sym c.adopt-in-Ok-load_root.ensures.table) r.snapshot

pub returns-in-Ok-load_root-clause-nodes : goal.returns-in-Ok-load_root-clause-nodes
returns-in-Ok-load_root-clause-nodes g c =
    let asked = c.is_asked.ensures.yes c.if-not-is_asked.false in
    let r = root-asked c.in-Ok.ensures.header asked c.if-not-header.false c.bits.ensures.value
    (bytes-are c.args.bytes.now c.type_inv.bytes) c.in-Ok-load_root.ensures.none c.in-Ok-load_root.ensures.tree in
    omega (
      arith,
      c.in-Ok-load_root.ensures.nodes,
      ap (λ x. length (all_nodes c.args.w g.row.D x)) c.adopt-in-Ok-load_root.ensures.table,
      r.nodes_are,
      nodes-size c.in-Ok-load_root.root.node,
    )

pub returns-in-Err-load_root-clause-fault : goal.returns-in-Err-load_root-clause-fault
returns-in-Err-load_root-clause-fault g c =
    body-asked c.in-Ok.ensures.header (c.is_asked.ensures.yes c.if-not-is_asked.false) c.if-not-header.false c.bits.ensures.value
    c.in-Err-load_root.fault c.in-Err-load_root.ensures.err

pub returns-in-Err-clause-accepts : goal.returns-in-Err-clause-accepts
returns-in-Err-clause-accepts g c t h = none-from_snapshot c.args.kind g.row.D c.args.w c.args.bytes.now t h

pub returns-then-not-is_asked-clause-accepts : goal.returns-then-not-is_asked-clause-accepts
returns-then-not-is_asked-clause-accepts g c t h = none-from_snapshot c.args.kind g.row.D c.args.w c.args.bytes.now t h

pub returns-in-Err-load_root-clause-accepts : goal.returns-in-Err-load_root-clause-accepts
returns-in-Err-load_root-clause-accepts g c t h = none-from_snapshot c.args.kind g.row.D c.args.w c.args.bytes.now t h
