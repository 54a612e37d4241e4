-- The records of lists of entries.
use Rattle.std.proofs.Common.{◌≡◌, ℕ, ◌+◌, ◌*◌, ◌^◌, ◌<◌, ◌≤◌, sym, ◌∙◌, ap, subst, arith, List, length, Bool}
use Rattle.std.proofs.Math.Nat.{mul-le-mul_left, pow-le-pow_right}
use Rattle.ph_specs.specs.Digits.{words_for}
use Rattle.ph_specs.specs.Pack.{linear_digits, cube_digits, values, record_in}
use Rattle.ph_specs.specs.Record.{first_in}
use Rattle.ph_model.specs.Layout.{IsRecord}
use Rattle.ph_model.proofs.lemmas.LayoutTables.{entries-few, children-few}
use Rattle.ph_model.proofs.laws.Layouts.{made}
use Rattle.ph_record_trials.specs.declared.items.Item.{Item}
use Rattle.ph_record_trials.specs.Listed.{IsWritable, flats}
use Rattle.ph_record_trials.proofs.Lists.{length-flats}

module _ (d b : ℕ) (es : List Item) (o : 1 ≤ d) (f : d ≤ 2) (w : IsWritable d b es) where
  four : 2 ^ d ≤ 4
  four = let p : 0 < 2 = omega arith in let m : 2 ^ d ≤ 2 ^ 2 = pow-le-pow_right p f in omega (arith, m)

  few : length (flats d es) ≤ 4
  few = omega (arith, four, entries-few d b 0 (flats d es) (omega arith) w.rising)

  pub linear-room : 1 + words_for (linear_digits d b (length (flats d es))) + length (values (flats d es)) ≤ 64
  linear-room =
      let n : ℕ = length (flats d es) in
      let p : d * b ≤ d * 61 = mul-le-mul_left d w.low in
      let q : n * (1 + d + d * b) ≤ n * 125 = mul-le-mul_left n (omega (arith, p, f)) in
      omega (arith, q, few, children-few (flats d es))

  pub cube-room : 1 + words_for (cube_digits d b) + length (values (flats d es)) ≤ 64
  cube-room =
      let p : d * b ≤ d * 61 = mul-le-mul_left d w.low in
      let q : 2 ^ d * (2 + d * b) ≤ 2 ^ d * 124 = mul-le-mul_left (2 ^ d) (omega (arith, p, f)) in
      omega (arith, q, four, few, children-few (flats d es))

  pub is-record : (cube : Bool) (words : List ℕ) → words ≡ record_in cube d b (flats d es) → IsRecord cube d words × ((first_in words).entries ≡ length es)
  is-record cube words e =
      let m = made cube d b (flats d es) o (omega (arith, f)) w.low w.least w.bottom w.rising in
      (subst (IsRecord cube d) (sym e) m.is_record, ap (λ t. (first_in t).entries) e ∙ ap (λ t. t.entries) m.first_is ∙ length-flats d es)
