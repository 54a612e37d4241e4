use Rattle.std.proofs.Common.{◌≡◌, ◌+◌, ◌*◌, ◌-◌, ◌/◌, ◌%◌, ◌<◌, ◌≤◌, ◌^◌, ℕ, sym, ◌∙◌, ap, subst, arith, List, length, slice_index_or, inl, inr}
use Rattle.ph_model.specs.Digits.{digits_at}
use Rattle.ph_specs.specs.Record.{first_in}
use Rattle.ph_model.proofs.laws.WordDigits.{each-fits}
use Rattle.ph_linear.specs.Linear.{addresses}
use Rattle.ph_linear.proofs.Columns.{length-addresses}
use Rattle.ph_linear.proofs.Entries.{split, rises-most, first-at}
use Rattle.ph_linear.proofs.Halving.{rise, below, above, one-of}
use Rattle.ph_linear.proofs.searches.place_of_many.Goals as goal
use Rattle.ph_linear.proofs.searches.place_of_many.Goals.{After-field-rest}

pub loop-high-preserved-then-address_at-addr : goal.loop-high-preserved-then-address_at-addr
loop-high-preserved-then-address_at-addr c =
    let v = c.loop-high.invariant in
    let xs : List ℕ = addresses c.args.dims c.args.words.now in
    let m : ℕ = c.loop-high.low + (c.loop-high.high - c.loop-high.low) / 2 in
    let n : length xs ≡ (first_in c.args.words.now).entries = length-addresses c.args.dims c.args.words.now in
    let t : c.loop-high.low < c.loop-high.high = more c.loop-high.low c.loop-high.high c.args.dims c.loop-high-test.true in
    let here : slice_index_or xs m 0 < c.args.addr = subst (λ t. t < c.args.addr) c.address_at.ensures.value c.if-address_at-addr.true in
    record {
      ordered = omega (arith, t);
      within = v.within;
      before = below xs m c.args.addr (rise c.args.dims c.args.words.now c.requires.record) (omega (arith, t, n, v.within, c.requires.count)) here;
      after = v.after;
    }
  where
    more : (low high d : ℕ) → 64 < (high - low) * d → low < high
    more low high d l = grind (arith, l)

pub loop-high-preserved : goal.loop-high-preserved
loop-high-preserved c =
    let v = c.loop-high.invariant in
    let xs : List ℕ = addresses c.args.dims c.args.words.now in
    let m : ℕ = c.loop-high.low + (c.loop-high.high - c.loop-high.low) / 2 in
    let n : length xs ≡ (first_in c.args.words.now).entries = length-addresses c.args.dims c.args.words.now in
    let here : c.args.addr ≤ slice_index_or xs m 0 = subst (λ t. c.args.addr ≤ t) c.address_at.ensures.value c.if-address_at-addr.false in
    record {
      ordered = omega arith;
      within = omega (arith, v.within, v.ordered);
      before = v.before;
      after = λ i b l. above xs m c.args.addr (rise c.args.dims c.args.words.now c.requires.record) here i b (omega (arith, l, n, c.requires.count));
    }

-- the addresses that are left were read at once
left : (c : After-field-rest) → c.loop-high.high ≤ (first_in c.args.words.now).entries
left c = omega (arith, c.loop-high.invariant.within, c.requires.count)

one : (c : After-field-rest) (i : ℕ) → i < c.loop-high.high - c.loop-high.low →
    c.field-rest.result / 2 ^ (c.args.dims * (c.loop-high.high - c.loop-high.low - 1 - i)) % 2 ^ c.args.dims ≡
    slice_index_or (addresses c.args.dims c.args.words.now) (c.loop-high.low + i) 0
one c i b =
    let words = c.args.words.now in
    let d : ℕ = c.args.dims in
    let low : ℕ = c.loop-high.low in
    let high : ℕ = c.loop-high.high in
    let e : c.field-rest.result ≡ digits_at words (64 + (first_in words).entries + low * d) ((high - low) * d) =
    c.field-rest.ensures ∙ ap (λ t. digits_at words (64 + t + low * d) ((high - low) * d)) c.requires.count in
    one-of d words low high c.field-rest.result i c.requires.record (each-fits words c.type_inv.words) (left c)
    c.loop-high.invariant.ordered e b

pub less_in-requires-clause-rise : goal.less_in-requires-clause-rise
less_in-requires-clause-rise c =
    let at = (goal.at.less_in-requires-clause-rise c).After-field-rest in
    let words = c.args.words.now in
    let d : ℕ = c.args.dims in
    let low : ℕ = c.loop-high.low in
    let high : ℕ = c.loop-high.high in
    let xs : List ℕ = addresses d words in
    λ i j b l. subst (λ t. t ≤ c.field-rest.result / 2 ^ (d * (high - low - 1 - j)) % 2 ^ d) (sym (one at i (omega (arith, b, l))))
    (subst (λ t. slice_index_or xs (low + i) 0 ≤ t) (sym (one at j l))
    (rises-most xs (low + i) (low + j) (rise d words c.requires.record) (omega (arith, b))
    (omega (arith, l, length-addresses d words, left at))))

pub returns-clause-value : goal.returns-clause-value
returns-clause-value c =
    let at = (goal.at.returns-clause-value c).After-field-rest in
    let v = c.loop-high.invariant in
    let low : ℕ = c.loop-high.low in
    let high : ℕ = c.loop-high.high in
    let k : ℕ = c.less_in.result in
    let xs : List ℕ = addresses c.args.dims c.args.words.now in
    let n : length xs ≡ (first_in c.args.words.now).entries = length-addresses c.args.dims c.args.words.now in
    first-at xs c.args.addr (low + k) (omega (arith, n, left at, v.ordered, c.less_in.ensures.within))
    (λ i b. elim (split i low) [
      | inl f ↦ v.before i f
      | inr f ↦
          let q : low + (i - low) ≡ i = omega (arith, f) in
          let l : i - low < high - low = omega (arith, f, b, c.less_in.ensures.within) in
          subst (λ t. slice_index_or xs t 0 < c.args.addr) q
          (subst (λ t. t < c.args.addr) (one at (i - low) l) (c.less_in.ensures.before (i - low) (omega (arith, f, b))))
    ])
    (λ b. elim (split k (high - low)) [
      | inl f ↦ subst (λ t. c.args.addr ≤ t) (one at k f) (c.less_in.ensures.after k (omega arith) f)
      | inr f ↦ v.after (low + k) (omega (arith, f, v.ordered)) (omega (arith, b, n, c.requires.count))
    ])
