use Rattle.std.proofs.Common.{◌≡◌, List, arith, ap, sym, ◌∙◌, get_or, length, pos, map, rules}
use Rattle.std.specs.Prelude.{ℤ}
use Rattle.std.proofs.lemmas.List.{length-map, get_or-map}
use Rattle.ph_coord.proofs.Signed.{passed}
use Rattle.ph_coord.proofs.Filled.{filled-next}
use Rattle.ph_bulk.specs.Order.{any_offset}
use Rattle.ph_bulk.proofs.order.any_offsets.Goals as goal

pub loop-i-preserved : goal.loop-i-preserved
loop-i-preserved g c =
    let items : List ℤ = c.as_slice-c-items.result.now in
    let long : length (map (any_offset c.args.w) c.args.p.now) ≡ length c.as_slice-c-items.result.now =
    length-map c.args.p.now (any_offset c.args.w) ∙ ap (λ (xs : List ℤ). length xs) (sym c.as_slice-c-items.ensures.value) in
    let e = get_or-map (any_offset c.args.w) c.as_slice-c-items.result.now c.loop-i.i (pos 0) 0 c.loop-i-test.true in
    filled-next g.row.D 0 (map (any_offset c.args.w) c.args.p.now) c.loop-i.offsets c.loop-i.i c.any_offset.result 0
    c.loop-i.invariant (omega (arith, long)) (omega (arith, long, c.as_slice-c-items.ensures.dims))
    (passed (any_offset c.args.w) (get_or c.as_slice-c-items.result.now c.loop-i.i (pos 0)) c.any_offset.result
    (search rules) c.any_offset.ensures ∙ sym e ∙
    ap (λ (xs : List ℤ). get_or (map (any_offset c.args.w) xs) c.loop-i.i 0) c.as_slice-c-items.ensures.value)
