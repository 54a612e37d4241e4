use Rattle.std.proofs.Common.{◌≡◌, ◌∷◌, ℕ, List, true, false, length, refl, sym, ◌∙◌, ap, subst, arith, inl, inr, rules}
use Rattle.std.specs.Int.Bits.{bit_xor}
use Rattle.ph_digits.specs.WordOrder.{words_cmp, IsHigher}
use Rattle.ph_digits.proofs.WordOrders.{words-begin, higher-decides, lower-goes, words-end}
use Rattle.ph_digits.proofs.order.words_cmp.Goals as goal

-- behind the next words there are as many left
long : (x y : ℕ) (us vs xs ys : List ℕ) → us ≡ x ∷ xs → vs ≡ y ∷ ys → length us ≡ length vs → length xs ≡ length ys
long x y us vs xs ys e f n = omega (arith, n, ap length e, ap length f)

pub loop-x-init : goal.loop-x-init
loop-x-init c =
    let first : c.into_iter-x-iterator.result.a.rest.now ≡ c.args.xs.now = search rules in
    let second : c.into_iter-x-iterator.result.b.rest.now ≡ c.args.ys.now = search rules in
    record {
      order = (λ i. words_cmp (0 ∷ first i) (0 ∷ second i)) ∙ words-begin c.args.xs.now c.args.ys.now c.requires;
      difference = refl;
      first_fits = omega arith;
      second_fits = omega arith;
      same = ap length first ∙ c.requires ∙ sym (ap length second);
    }

pub loop-x-preserved-then-is_higher : goal.loop-x-preserved-then-is_higher
loop-x-preserved-then-is_higher c =
    let s = c.in-Some.ensures.steps in
    let n : length c.next.new.self.a.rest.now ≡ length c.next.new.self.b.rest.now =
    long c.in-Some.x.now c.in-Some.y.now c.loop-x.x-iterator.a.rest.now c.loop-x.x-iterator.b.rest.now
    c.next.new.self.a.rest.now c.next.new.self.b.rest.now s.0 s.1 c.loop-x.invariant.same in
    record {
      order = sym (higher-decides c.loop-x.first c.loop-x.second c.in-Some.x.now c.in-Some.y.now
          c.next.new.self.a.rest.now c.next.new.self.b.rest.now n (omega arith) (omega arith)
          (subst (IsHigher (bit_xor c.in-Some.x.now c.in-Some.y.now)) c.loop-x.invariant.difference (c.is_higher.ensures.0 c.if-is_higher.true)))
          ∙ (λ i. words_cmp (c.loop-x.first ∷ sym s.0 i) (c.loop-x.second ∷ sym s.1 i))
          ∙ c.loop-x.invariant.order;
      difference = refl;
      first_fits = omega arith;
      second_fits = omega arith;
      same = n;
    }

pub loop-x-preserved : goal.loop-x-preserved
loop-x-preserved c =
    let s = c.in-Some.ensures.steps in
    let n : length c.next.new.self.a.rest.now ≡ length c.next.new.self.b.rest.now =
    long c.in-Some.x.now c.in-Some.y.now c.loop-x.x-iterator.a.rest.now c.loop-x.x-iterator.b.rest.now
    c.next.new.self.a.rest.now c.next.new.self.b.rest.now s.0 s.1 c.loop-x.invariant.same in
    record {
      order = sym (lower-goes c.loop-x.first c.loop-x.second c.in-Some.x.now c.in-Some.y.now
          c.next.new.self.a.rest.now c.next.new.self.b.rest.now n c.loop-x.invariant.first_fits c.loop-x.invariant.second_fits (omega arith) (omega arith)
          (λ h. let clash : true ≡ false = sym (c.is_higher.ensures.1
          (subst (IsHigher (bit_xor c.in-Some.x.now c.in-Some.y.now)) (sym c.loop-x.invariant.difference) h)) ∙ c.if-is_higher.false in cc))
          ∙ (λ i. words_cmp (c.loop-x.first ∷ sym s.0 i) (c.loop-x.second ∷ sym s.1 i))
          ∙ c.loop-x.invariant.order;
      difference = c.loop-x.invariant.difference;
      first_fits = c.loop-x.invariant.first_fits;
      second_fits = c.loop-x.invariant.second_fits;
      same = n;
    }

pub returns : goal.returns
returns c =
    let none : (length c.loop-x.x-iterator.a.rest.now ≡ 0) × (length c.loop-x.x-iterator.b.rest.now ≡ 0) = elim c.in-None.ensures.steps [
      | inl u ↦ (u.1.0, sym c.loop-x.invariant.same ∙ u.1.0)
      | inr u ↦ (c.loop-x.invariant.same ∙ u.1.0, u.1.0)
    ] in
    c.cmp.ensures
    ∙ words-end c.loop-x.first c.loop-x.second c.loop-x.x-iterator.a.rest.now c.loop-x.x-iterator.b.rest.now none.0 none.1
    c.loop-x.invariant.first_fits c.loop-x.invariant.second_fits
    ∙ c.loop-x.invariant.order
