use Rattle.std.proofs.Common.{◌≡◌, ℕ, ◌-◌, List, arith, ap, sym, ◌∙◌, get_or, length, pos, map, rules, take, drop, replicate}
use Rattle.std.proofs.Math.Seq.{take-append_seam, drop-append_seam}
use Rattle.std.proofs.lemmas.List.{length-map, get_or-map}
use Rattle.ph_specs.specs.Coordinate.{offset}
use Rattle.ph_coord.proofs.Signed.{passed}
use Rattle.ph_coord.proofs.Filled.{padded, filled-next, filled-whole}
use Rattle.ph_coord.proofs.offsets.offsets_of.Given.{Over}
use Rattle.ph_coord.proofs.offsets.offsets_of.Goals as goal

pub loop-i-preserved : goal.loop-i-preserved
loop-i-preserved g c =
    let long : length (map (offset c.args.w) c.args.coords.now) ≡ length c.args.coords.now = length-map c.args.coords.now (offset c.args.w) in
    let e = get_or-map (offset c.args.w) c.args.coords.now c.loop-i.i (pos 0) 0 c.loop-i-test.true in
    filled-next g.row.N 0 (map (offset c.args.w) c.args.coords.now) c.loop-i.offsets c.loop-i.i c.offset.result 0
    c.loop-i.invariant (omega arith) (omega arith)
    (passed (offset c.args.w) (get_or c.args.coords.now c.loop-i.i (pos 0)) c.offset.result (search rules)
    c.offset.ensures ∙ sym e)

abbrev values : (g : Over) → goal.After-loop-i g → List ℕ
values g c = map (offset c.args.w) c.args.coords.now

long : (g : Over) (c : goal.After-loop-i g) → length (values g c) ≡ length c.args.coords.now
long g c = length-map c.args.coords.now (offset c.args.w)

whole : (g : Over) (c : goal.After-loop-i g) → c.loop-i.offsets ≡ padded g.row.N 0 (values g c)
whole g c =
    filled-whole g.row.N 0 (values g c) c.loop-i.offsets c.loop-i.i c.loop-i.invariant (omega (arith, long g c))

pub returns-clause-values : goal.returns-clause-values
returns-clause-values g c =
    ap (λ n. take n c.loop-i.offsets) (sym (long g c)) ∙ ap (λ xs. take (length (values g c)) xs) (whole g c)
    ∙ take-append_seam (values g c) (replicate (g.row.N - length (values g c)) 0)

pub returns-clause-zeros : goal.returns-clause-zeros
returns-clause-zeros g c =
    ap (λ n. drop n c.loop-i.offsets) (sym (long g c)) ∙ ap (λ xs. drop (length (values g c)) xs) (whole g c)
    ∙ drop-append_seam (values g c) (replicate (g.row.N - length (values g c)) 0)
    ∙ ap (λ n. replicate (g.row.N - n) 0) (long g c)
