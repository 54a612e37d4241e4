use Rattle.std.proofs.Common.{◌≡◌, ◌^◌, sym, ◌∙◌, arith, eqb-true}
use Rattle.ph_specs.specs.Record.{first_in}
use Rattle.ph_model.proofs.laws.WordDigits.{each-fits}
use Rattle.ph_node.proofs.Full.{full-next, full-end}
use Rattle.ph_node.proofs.records.next_at_or_after.Goals as goal

pub returns-then-place-count : goal.returns-then-place-count
returns-then-place-count c =
    let full : (first_in c.args.words.now).entries ≡ 2 ^ c.args.dims = eqb-true _ _ (sym c.is_full.ensures ∙ c.if-is_full.true) in
    sym (full-next c.args.dims c.args.words.now c.requires.record (each-fits c.args.words.now c.type_inv.words) full
    c.args.addr (omega (arith, full, c.count.ensures, c.if-place-count.true)))

pub returns-else-place-count : goal.returns-else-place-count
returns-else-place-count c =
    let full : (first_in c.args.words.now).entries ≡ 2 ^ c.args.dims = eqb-true _ _ (sym c.is_full.ensures ∙ c.if-is_full.true) in
    sym (full-end c.args.dims c.args.words.now c.requires.record (each-fits c.args.words.now c.type_inv.words) full
    c.args.addr (omega (arith, full, c.count.ensures, c.if-place-count.false)))
