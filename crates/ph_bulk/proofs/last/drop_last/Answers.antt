use Rattle.std.proofs.Common.{◌≡◌, arith, ◌∙◌, ap, sym, take, ◌-◌, length}
use Rattle.std.specs.Vec.{vec_len}
use Rattle.ph_bulk.specs.Order.{is_last}
use Rattle.ph_bulk.proofs.Lasts.{last-gone, last-stays}
use Rattle.ph_bulk.proofs.last.drop_last.Goals as goal

pub returns-then-has_last : goal.returns-then-has_last
returns-then-has_last g c =
    let e : vec_len c.args.rows.now ≡ length c.args.rows.now.items = omega (arith, c.as_slice.ensures.len, ap (λ t. length t) c.as_slice.ensures.value) in
    c.pop.ensures.rest ∙ ap (λ n. take (n - 1) c.args.rows.now.items) e ∙ last-gone c.args.rows.now.items c.args.p.now
    (ap (λ rs. is_last rs c.args.p.now) (sym c.as_slice.ensures.value) ∙ sym c.has_last.ensures ∙ c.if-has_last.true)

pub returns-else-has_last : goal.returns-else-has_last
returns-else-has_last g c =
    last-stays c.args.rows.now.items c.args.p.now (ap (λ rs. is_last rs c.args.p.now) (sym c.as_slice.ensures.value) ∙ sym c.has_last.ensures ∙ c.if-has_last.false)
