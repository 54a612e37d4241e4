use Rattle.std.proofs.Common.{◌≡◌, arith, map, length, sym, ◌∙◌, ap, subst, take}
use Rattle.std.proofs.lemmas.List.{length-map}
use Rattle.std.specs.Prelude.{true}
use Rattle.ph_specs.specs.Coordinate.{is_point}
use Rattle.ph_specs.specs.Shape.{row_address}
use Rattle.ph_shape.specs.Groups.{HaveAddress}
use Rattle.ph_shape.proofs.Fronts.{each-item, each-more, item-is, cut-here, cut-all}
use Rattle.ph_shape.proofs.cuts.group_len.Goals as goal

pub address-requires-clause-point : goal.address-requires-clause-point
address-requires-clause-point g c =
    each-item (λ r. is_point c.args.w g.P.Dims.D r.point ≡ true) g.P.Space.row_of c.args.rows.now c.loop-i.i
    c.index-rows-i.result c.requires.rows.points (omega (arith, length-map c.args.rows.now g.P.Space.row_of))
    c.index-rows-i.is

pub returns-then-address-addr : goal.returns-then-address-addr
returns-then-address-addr g c =
    cut-here c.args.w c.args.place c.args.addr (map g.P.Space.row_of c.args.rows.now) c.loop-i.i
    (g.P.Space.row_of c.index-rows-i.result) (omega (arith, length-map c.args.rows.now g.P.Space.row_of))
    c.loop-i.invariant (item-is g.P.Space.row_of c.args.rows.now c.loop-i.i c.index-rows-i.result
    c.index-rows-i.is) (λ e. c.if-address-addr.true (c.address.ensures ∙ e))

pub loop-i-preserved : goal.loop-i-preserved
loop-i-preserved g c =
    let e = item-is g.P.Space.row_of c.args.rows.now c.loop-i.i c.index-rows-i.result c.index-rows-i.is in
    each-more (λ r. row_address c.args.w c.args.place r ≡ c.args.addr) (map g.P.Space.row_of c.args.rows.now)
    c.loop-i.i (g.P.Space.row_of c.index-rows-i.result)
    (omega (arith, length-map c.args.rows.now g.P.Space.row_of)) c.loop-i.invariant
    (ap (row_address c.args.w c.args.place) e ∙ sym c.address.ensures ∙ c.if-address-addr.false)

pub returns : goal.returns
returns g c =
    let e : c.loop-i.i ≡ length c.args.rows.now = omega arith in
    let l = sym (length-map c.args.rows.now g.P.Space.row_of) in
    cut-all c.args.w c.args.place c.args.addr (map g.P.Space.row_of c.args.rows.now) (length c.args.rows.now) l
    (subst (λ i. HaveAddress c.args.w c.args.place c.args.addr (take i (map g.P.Space.row_of c.args.rows.now))) e
    c.loop-i.invariant)
