use Rattle.std.proofs.Common.{◌≡◌, true, false, arith, rules}
use Rattle.std.proofs.lemmas.Bool.{and_parts}
use Rattle.ph_specs.specs.ZOrder.{before}
use Rattle.ph_table.proofs.Search.{earlier-up, later-down}
use Rattle.ph_table.proofs.place.rows_before.Goals as goal

pub loop-low-preserved-then-z_before : goal.loop-low-preserved-then-z_before
loop-low-preserved-then-z_before g c =
    let b : before c.args.w c.index-rows-middle.result.point c.args.p.now ≡ true = search rules in
    record {
      ordered = omega arith;
      within = omega arith;
      earlier = λ k d h. earlier-up c.args.w c.args.rows.now c.args.p.now c.index-rows-middle.result _ k d
          (and_parts _ _ c.requires.table).0 (omega arith) c.index-rows-middle.is b h;
      later = c.loop-low.invariant.later;
    }

pub loop-low-preserved : goal.loop-low-preserved
loop-low-preserved g c =
    let b : before c.args.w c.index-rows-middle.result.point c.args.p.now ≡ false = search rules in
    record {
      ordered = omega arith;
      within = omega arith;
      earlier = c.loop-low.invariant.earlier;
      later = λ k d i l. later-down c.args.w c.args.rows.now c.args.p.now c.index-rows-middle.result _ k d
          (and_parts _ _ c.requires.table).0 c.index-rows-middle.is b i l;
    }
