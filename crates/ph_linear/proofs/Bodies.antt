-- Where the body of an entry begins.
use Rattle.std.proofs.Common.{◌≡◌, ◌+◌, ◌*◌, ◌<◌, ◌≤◌, ◌^◌, ℕ, ◌∙◌, ap, arith, refl, length, drop, true, false, get_or, slice_index_or, List, []}
use Rattle.std.specs.Prelude.{Some, Bool, ◌==◌}
use Rattle.std.specs.Option.{option_map}
use Rattle.std.specs.List.{AllByRecursion as Each}
use Rattle.std.proofs.lemmas.Option.{slice_get-map}
use Rattle.std.proofs.Math.Nat.{mul-le-mul_left}
use Rattle.ph_specs.specs.Digits.{words_for}
use Rattle.ph_specs.specs.Pack.{linear_digits}
use Rattle.ph_specs.specs.Record.{first_in, read}
use Rattle.ph_model.specs.Layout.{IsRecord, entries_as, fields_as}
use Rattle.ph_model.proofs.laws.TableFields.{parts-at}
use Rattle.ph_bits.specs.Fields.{digits_row}
use Rattle.ph_bits.specs.Packed.{read_body, IsBodyAt}
use Rattle.ph_linear.specs.Linear.{kinds, addresses, bodies}
use Rattle.ph_linear.proofs.Columns.{body-row}
use Rattle.ph_linear.proofs.Ranks.{entry-is}

pub body-read : (t : Bool) (a : ℕ) (b : List ℕ) → read_body (read t a b) ≡ b
body-read true a b = refl
body-read false a b = refl

within : (i n d : ℕ) → i < n → i * d + d ≤ n * d
within i n d l = grind (arith, l)

-- the digits of a body are in the words
inside : (n d b len i : ℕ) → i < n → 1 + words_for (linear_digits d b n) ≤ len → 64 + (n + n * d) + i * d * b + d * b ≤ 64 * len
inside n d b len i l m =
    let p : (d * b) * (i + 1) ≤ (d * b) * n = mul-le-mul_left (d * b) (omega (arith, l)) in
    let q : n + n * d + i * d * b + d * b ≤ linear_digits d b n = omega (arith, p) in
    omega (arith, q, m)

near : (n d b i : ℕ) → n < 2 ^ 24 → d ≤ 16 → b ≤ 61 → i < n → 64 + (n + n * d) + i * d * b ≤ 2 ^ 62
near n d b i h k m l =
    let p : i * d ≤ i * 16 = mul-le-mul_left i k in
    let q : (i * d) * b ≤ (i * d) * 61 = mul-le-mul_left (i * d) m in
    let r : n * d ≤ n * 16 = mul-le-mul_left n k in
    omega (arith, h, l, p, q, r)

module _ (d : ℕ) (words : List ℕ) (i : ℕ) (r : IsRecord false d words) (h : Each (λ x. x < 2 ^ 64) words) (l : i < (first_in words).entries) where
  abbrev n : ℕ
  n = (first_in words).entries

  abbrev b : ℕ
  b = (first_in words).level

  pub body-digits : get_or (bodies d words) i [] ≡
      digits_row words (64 + ((first_in words).entries + (first_in words).entries * d) + i * d *
      (first_in words).level) (first_in words).level d
  body-digits =
      parts-at n d (drop (n + n) (fields_as false d words)) i l ∙ body-row d words (i * d) d r h (within i n d l)

  pub begins : IsBodyAt d (first_in words).level words (entries_as false d words) i
      (64 + ((first_in words).entries + (first_in words).entries * d) + i * d * (first_in words).level)
  begins = record {
    body =
        slice_get-map read_body (entries_as false d words) i ∙ ap (option_map read_body) (entry-is d words i l)
        ∙ ap Some (body-read (slice_index_or (kinds d words) i 0 == 1) (slice_index_or (addresses d words) i 0) (get_or (bodies d words) i []) ∙ body-digits);
    inside = inside n d b (length words) i l (omega (arith, r.long));
    near = near n d b i (omega arith) r.few r.low l;
  }
