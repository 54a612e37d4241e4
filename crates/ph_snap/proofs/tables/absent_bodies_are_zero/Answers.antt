use Rattle.std.proofs.Common.{◌*◌, ◌%◌, ◌^◌}
use Rattle.ph_snap.proofs.Rules.{absent-off, absent-on, shifted}
use Rattle.ph_snap.proofs.tables.absent_bodies_are_zero.Goals as goal

pub returns-then-not-place_fits : goal.returns-then-not-place_fits
returns-then-not-place_fits c =
    let dims = c.args.dims in
    let m = 1 * 2 ^ dims % 2 ^ 64 in
    absent-off c.args.words.now c.args.level dims m c.loop-i.i c.field-kind.result c.from.result c.from.ensures
    c.loop-i-test.true c.field-kind.ensures (2 ^ dims) (shifted dims c.requires.few) c.if-not-place_fits.ensures
    c.loop-i.invariant

pub loop-i-preserved : goal.loop-i-preserved
loop-i-preserved c =
    let dims = c.args.dims in
    let m = 1 * 2 ^ dims % 2 ^ 64 in
    absent-on c.args.words.now c.args.level dims m c.loop-i.i c.field-kind.result c.from.result c.from.ensures
    c.loop-i-test.true c.field-kind.ensures c.if-not-place_fits.ensures c.loop-i.invariant
