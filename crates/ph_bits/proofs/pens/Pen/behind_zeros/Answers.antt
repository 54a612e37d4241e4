use Rattle.std.proofs.Common.{◌≡◌, ℕ, ◌+◌, ◌-◌, ◌*◌, ◌%◌, ◌^◌, List, length, arith, ◌∙◌, sym, ap}
use Rattle.ph_bits.specs.Fields.{number_in}
use Rattle.ph_bits.specs.Written.{number_by}
use Rattle.ph_bits.proofs.PenSteps.{number-push, length-push, number-zeros, number-begun, zeros-runs}
use Rattle.ph_bits.proofs.pens.Pen.behind_zeros.Goals as goal

pub loop-preserved : goal.loop-preserved
loop-preserved c =
    let v = c.loop.invariant in
    let ws = c.loop.words.words in
    record {
      length = ap length c.push.ensures.words ∙ length-push ws 0 ∙ omega (arith, v.length);
      number = ap number_in c.push.ensures.words ∙ number-push ws 0 ∙ number-zeros _ _ c.loop.counter v.number;
      places = (c.push.ensures.places.0 ∙ v.places.0, c.push.ensures.places.1 ∙ v.places.1);
    }

-- the number through the three steps: the word begun, whole words, and what is left
pub returns-clause-number : goal.returns-clause-number
returns-clause-number c =
    let old = c.args.self in
    let pen = c.put.new.self in
    let first : ℕ = c.args.self.room % 64 in
    let left : ℕ = c.args.digits - c.args.self.room % 64 in
    let i : ℕ = c.loop.counter in
    let r : ℕ = number_by c.args.words.now.words c.args.self in
    let empty : c.put.new.self.room ≡ 64 =
    omega (arith, c.put.ensures.digits, c.put.ensures.pen.some, c.put.ensures.pen.most, c.requires.pen.some, c.requires.pen.most) in
    let begun : (ws : List ℕ) → number_by ws c.put.new.self ≡ number_in ws =
    λ ws. number-begun (number_in ws) pen.kept pen.room empty c.put.ensures.pen.kept in
    let all : c.args.self.room % 64 + 64 * c.loop.counter + (c.args.digits - c.args.self.room % 64) % 64 ≡ c.args.digits =
    omega (arith, c.loop-test.false, c.loop.auto.counter-end, c.requires.many) in
    c.put-2.ensures.number
    ∙ ap (λ t. t * 2 ^ (left % 64) + 0)
    (begun c.loop.words.words ∙ c.loop.invariant.number ∙ ap (λ t. t * 2 ^ (64 * i)) (sym (begun c.put.new.words.words) ∙ c.put.ensures.number))
    ∙ plain r (2 ^ first) (2 ^ (64 * i)) (2 ^ (left % 64))
    ∙ zeros-runs r first (64 * i) (left % 64) c.args.digits all
  where
    plain : (n a b c : ℕ) → (n * a + 0) * b * c + 0 ≡ n * a * b * c
    plain n a b c = omega arith
