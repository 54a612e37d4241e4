-- A row is written behind those that are there, and where none is left all of them are.
use Rattle.std.proofs.Common.{◌≡◌, [], length, drop, sym, ap, ◌∙◌, arith}
use Rattle.std.specs.Prelude.{List, ℤ, Some}
use Rattle.ph_specs.specs.Table.{Row, row}
use Rattle.ph_c.specs.Balls.{behind}
use Rattle.ph_c.proofs.Filling.{none-left, take-end, drop-end, filling-more}
use Rattle.ph_c.proofs.balls.fill_behind.Goals as goal

pub returns-in_default-clause-rest : goal.returns-in_default-clause-rest
returns-in_default-clause-rest g c =
    let all = behind c.args.w c.args.last.now c.args.ball.now.hits in
    let empty : behind c.args.w c.args.last.now c.loop-i.ball.hits ≡ [] = none-left (behind c.args.w c.args.last.now c.loop-i.ball.hits) (sym c.in_default.ensures.row) in
    let left : drop c.loop-i.i all ≡ [] = sym c.loop-i.invariant.filling.rest ∙ empty in
    rw (c.next_behind.ensures.rest, empty) (sym (drop-end all c.loop-i.i c.args.room left (omega (arith, c.loop-i-test.true))))

pub returns-in_default-clause-values : goal.returns-in_default-clause-values
returns-in_default-clause-values g c =
    let all = behind c.args.w c.args.last.now c.args.ball.now.hits in
    let empty : behind c.args.w c.args.last.now c.loop-i.ball.hits ≡ [] = none-left (behind c.args.w c.args.last.now c.loop-i.ball.hits) (sym c.in_default.ensures.row) in
    let left : drop c.loop-i.i all ≡ [] = sym c.loop-i.invariant.filling.rest ∙ empty in
    rw (take-end all c.loop-i.i c.args.room left (omega (arith, c.loop-i-test.true))) c.loop-i.invariant.filling.values_are

pub returns-in_default-clause-points : goal.returns-in_default-clause-points
returns-in_default-clause-points g c =
    let all = behind c.args.w c.args.last.now c.args.ball.now.hits in
    let empty : behind c.args.w c.args.last.now c.loop-i.ball.hits ≡ [] = none-left (behind c.args.w c.args.last.now c.loop-i.ball.hits) (sym c.in_default.ensures.row) in
    let left : drop c.loop-i.i all ≡ [] = sym c.loop-i.invariant.filling.rest ∙ empty in
    rw (take-end all c.loop-i.i c.args.room left (omega (arith, c.loop-i-test.true))) c.loop-i.invariant.filling.points_are

pub loop-i-preserved : goal.loop-i-preserved
loop-i-preserved g c =
    let first = sym (ap (λ (r : Row). Some r) c.row.view_is ∙ c.in-Some.ensures.row) in
    let size : length c.row.inside.point ≡ g.row.D = ap (λ (l : List ℤ). length l) (sym c.as_slice.ensures.value) ∙ c.as_slice.ensures.dims in
    record {
      filling = rw (c.next_behind.ensures.rest, c.overlay_word.ensures, c.overlay.ensures, c.as_slice.ensures.value)
          (filling-more g.row.D (behind c.args.w c.args.last.now c.args.ball.now.hits) c.args.values.now c.args.points.now c.loop-i.i
          (behind c.args.w c.args.last.now c.loop-i.ball.hits) c.loop-i.values c.loop-i.points
          (row c.row.inside.point c.row.inside.value) c.loop-i.invariant.filling first size);
      inside = c.next_behind.ensures.points;
    }
