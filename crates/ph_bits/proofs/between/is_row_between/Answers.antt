use Rattle.std.proofs.Common.{◌≡◌, ◌∙◌, ◌+◌, ◌&&◌, Bool, true, false, List, ℕ, ap, sym, arith, length, drop}
use Rattle.ph_specs.specs.TreeRows.{put_together}
use Rattle.ph_model.specs.PutTree.{body_above}
use Rattle.ph_bits.specs.Between.{each_between}
use Rattle.ph_bits.specs.Fields.{digits_row}
use Rattle.ph_bits.proofs.Betweens.{between-first}
use Rattle.ph_bits.proofs.JoinedNumbers.{joined-long}
use Rattle.ph_bits.proofs.between.is_row_between.Goals as goal
use Rattle.ph_bits.proofs.between.is_row_between.Goals.{After-is_between}

-- the numbers that are compared
abbrev whole : After-is_between → List ℕ
whole c =
    put_together c.args.level c.args.addr (body_above c.args.level c.args.known.now)
    (digits_row c.args.words.now c.args.at c.args.level (length c.args.known.now))

-- whether those behind the number that was compared lie between their bounds
abbrev rest : After-is_between → Bool
rest c =
    each_between (drop (c.loop-i.i + 1) c.args.low.now) (drop (c.loop-i.i + 1) c.args.high.now) (drop (c.loop-i.i + 1) (whole c))

compared : (c : After-is_between) (t : Bool) → c.is_between.result ≡ t → (t && rest c) ≡ each_between c.args.low.now c.args.high.now (whole c)
compared c t e =
    let l = c.loop-i-test.true in
    let long = joined-long c.args.words.now c.args.known.now c.args.at c.args.level c.args.addr in
    sym (ap (λ b. b && rest c) e)
    ∙ sym (between-first c.loop-i.i _ c.args.low.now c.args.high.now (whole c) (omega (arith, l, c.requires.low))
    (omega (arith, l, c.requires.high)) (omega (arith, l, long)) c.joined_number-number.ensures.value c.is_between.ensures)
    ∙ c.loop-i.invariant

pub returns-then-not-is_between : goal.returns-then-not-is_between
returns-then-not-is_between c =
    compared (goal.at.returns-then-not-is_between c).After-is_between false c.if-not-is_between.true

pub loop-i-preserved : goal.loop-i-preserved
loop-i-preserved c = compared (goal.at.loop-i-preserved c).After-is_between true c.if-not-is_between.false
