use Rattle.std.proofs.Common.{◌≡◌, ◌<◌, ◌≤◌, ◌∙◌, length, arith, rules, sym, ap, subst, get_or, take}
use Rattle.std.specs.List.{insert}
use Rattle.ph_specs.specs.Coordinate.{IsPoint}
use Rattle.ph_specs.specs.Table.{IsTable}
use Rattle.ph_specs.specs.Distance.{distance}
use Rattle.ph_table.specs.Hits.{TableHit, IsPlaceFor}
use Rattle.ph_table.proofs.Nearest.{taken_in, left_out, wide-point, row-point}
use Rattle.ph_table.proofs.table.Table.near.Goals.{then-place-most+in_ok-insert, else-place-most}
use Rattle.ph_table.proofs.table.Table.near.Goals as goal

pub distance-requires : goal.distance-requires
distance-requires g c =
    let t : IsTable c.args.self.now.width g.row.D c.args.self.now.rows = subst (IsTable c.args.self.now.width g.row.D)
    c.rows-row-items.ensures.rows c.rows-row-items.ensures.table in
    let l : c.loop-row.row-index < length c.args.self.now.rows = subst (λ rs. c.loop-row.row-index < length rs) c.rows-row-items.ensures.rows c.loop-row-test.true in
    let e : c.row-item.result ≡ get_or c.args.self.now.rows c.loop-row.row-index c.row-item.result = c.row-item.is ∙
    ap (λ rs. get_or rs c.loop-row.row-index c.row-item.result) c.rows-row-items.ensures.rows in
    let n : c.args.self.now.width ≤ 62 = omega (arith, ap (λ t. t.width) c.self.view_is, c.bits-bits.ensures.value, c.bits-bits.ensures.limit) in (
      search rules,
      (
        c.requires.dims,
        (
          subst (λ r. IsPoint 62 g.row.D r.point) (sym c.row.view_is)
              (row-point c.args.self.now.width g.row.D c.loop-row.row-index c.args.self.now.rows c.row-item.result n t l e),
          wide-point c.args.self.now.width g.row.D c.args.q.now n c.requires.point,
        ),
      ),
    )

pub loop-row-preserved : goal.loop-row-preserved
loop-row-preserved g c =
    let l : c.loop-row.row-index < length c.args.self.now.rows = subst (λ rs. c.loop-row.row-index < length rs) c.rows-row-items.ensures.rows c.loop-row-test.true in
    let e : c.row-item.result ≡ get_or c.args.self.now.rows c.loop-row.row-index c.row-item.result = c.row-item.is ∙
    ap (λ rs. get_or rs c.loop-row.row-index c.row-item.result) c.rows-row-items.ensures.rows in
    let d : c.distance.result ≡ distance c.row-item.result.point c.args.q.now = c.distance.ensures ∙ ap (λ r. distance r.point c.args.q.now) c.row.view_is in
    let b : IsPlaceFor c.loop-row.hits.items (distance c.row-item.result.point c.args.q.now)
    c.hits_before-place.result = subst (λ x. IsPlaceFor c.loop-row.hits.items x c.hits_before-place.result) d
    (subst (λ hs. IsPlaceFor hs c.distance.result c.hits_before-place.result) c.deref.ensures.value
    c.hits_before-place.ensures) in
    elim c.if-place-most.branch [
      | then-place-most+in_ok-insert w ↦
          ap (λ v. v.items) w.hits-is ∙ w.truncate.ensures.items
          ∙ ap (take c.args.n) (w.in_ok-insert.ensures.items ∙
          (λ i. insert {X = TableHit} c.loop-row.hits.items c.hits_before-place.result
          (record { row = c.row.view_is i; distance = d i })))
          ∙ taken_in c.args.q.now c.args.n c.loop-row.row-index c.hits_before-place.result c.args.self.now.rows
          c.row-item.result c.loop-row.hits.items l e c.loop-row.invariant b
      | else-place-most w ↦
          ap (λ v. v.items) w.hits-is
          ∙ left_out c.args.q.now c.args.n c.loop-row.row-index c.hits_before-place.result c.args.self.now.rows
          c.row-item.result c.loop-row.hits.items l e c.loop-row.invariant b w.if-place-most.false
    ]
