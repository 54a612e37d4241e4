use Rattle.std.proofs.Common.{◌∙◌, ap, sym, subst, arith}
use Rattle.std.specs.Option.{option_copied}
use Rattle.ph_table.specs.Hits.{hits_of}
use Rattle.ph_path.proofs.Roots.{shape-lawful, same-point}
use Rattle.ph_walk.specs.Area.{IsArea, TouchesRoot}
use Rattle.ph_walk.proofs.Notes.{if-some}
use Rattle.ph_near.specs.BallSphere.{Sphere, center_of, points_of}
use Rattle.ph_near.proofs.BallStarts.{center-is, sphere-points, within-exact, root-within, table-rows, table-nodes}
use Rattle.ph_near.proofs.ball.BallOf+Dim+D.new.Goals as goal

pub new-requires : goal.new-requires
new-requires g c =
    let point = same-point c.width-w.result c.args.tree.now.width g.row.D c.as_slice.result.now c.args.q c.width-w.ensures c.as_slice.ensures.value c.requires.point in
    let are = sphere-points g.row.D c.width-w.result c.args.r c.as_slice.result.now c.new-sphere.result point c.new-sphere.ensures in (
      omega arith,
      (
        c.root-root.ensures.some,
        (
          c.root-root.ensures.few,
          (
            ap (λ (s : Sphere). s.width) c.new-sphere.ensures,
            (
              subst (IsArea g.row.D) (sym are) (within-exact g.row.D c.width-w.result c.args.r c.as_slice.result.now point),
              (
                shape-lawful g.row.D c.width-w.result c.args.tree.now.width (option_copied c.root-root.result)
                    c.args.tree.now.table (omega (arith, c.bits-bits.ensures.value, c.bits-bits.ensures.some))
                    c.width-w.ensures c.root-root.ensures.table c.root-root.ensures.shape,
                if-some (TouchesRoot g.row.D (points_of c.new-sphere.result)) c.root-root.result
                    (subst (TouchesRoot g.row.D) (sym are)
                    (root-within g.row.D c.width-w.result c.args.r c.as_slice.result.now
                    (omega (arith, c.bits-bits.ensures.value, c.bits-bits.ensures.some)) point)),
              ),
            ),
          ),
        ),
      ),
    )

pub returns-clause-hits : goal.returns-clause-hits
returns-clause-hits g c =
    let point = same-point c.width-w.result c.args.tree.now.width g.row.D c.as_slice.result.now c.args.q c.width-w.ensures c.as_slice.ensures.value c.requires.point in
    let are = sphere-points g.row.D c.width-w.result c.args.r c.as_slice.result.now c.new-sphere.result point c.new-sphere.ensures in
    let center = ap center_of c.new.ensures.area ∙ center-is g.row.D c.width-w.result c.args.r c.as_slice.result.now
    c.new-sphere.result point c.new-sphere.ensures ∙ c.as_slice.ensures.value in
    let rest = c.new.ensures.rest ∙ table-rows g.row.D c.width-w.result c.args.tree.now.width c.args.r
    (option_copied c.root-root.result) c.args.tree.now.table c.args.q c.as_slice.result.now c.new-sphere.result
    (omega (arith, c.bits-bits.ensures.value, c.bits-bits.ensures.some)) c.width-w.ensures
    c.root-root.ensures.table c.root-root.ensures.shape c.as_slice.ensures.value are in
    λ i. hits_of (center i) (rest i)

pub returns-clause-visits : goal.returns-clause-visits
returns-clause-visits g c =
    let point = same-point c.width-w.result c.args.tree.now.width g.row.D c.as_slice.result.now c.args.q c.width-w.ensures c.as_slice.ensures.value c.requires.point in
    let are = sphere-points g.row.D c.width-w.result c.args.r c.as_slice.result.now c.new-sphere.result point c.new-sphere.ensures in
    c.new.ensures.visits
    ∙ table-nodes g.row.D c.width-w.result c.args.tree.now.width c.args.r (option_copied c.root-root.result)
    c.args.tree.now.table c.args.q c.as_slice.result.now c.new-sphere.result
    (omega (arith, c.bits-bits.ensures.value, c.bits-bits.ensures.some)) c.width-w.ensures
    c.root-root.ensures.table c.root-root.ensures.shape c.as_slice.ensures.value are
