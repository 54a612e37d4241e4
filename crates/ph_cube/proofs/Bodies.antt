-- Where the body of an entry begins.
use Rattle.std.proofs.Common.{◌≡◌, ◌+◌, ◌*◌, ◌<◌, ◌≤◌, ◌^◌, ℕ, ◌∙◌, ap, arith, length, drop, true, get_or, List, []}
use Rattle.std.specs.Prelude.{Some, ◌==◌}
use Rattle.std.specs.Option.{option_map}
use Rattle.std.specs.List.{AllByRecursion as Each}
use Rattle.std.proofs.lemmas.Option.{slice_get-map}
use Rattle.std.proofs.Math.Nat.{mul-le-mul_left, pow-le-pow_right}
use Rattle.ph_specs.specs.Digits.{words_for}
use Rattle.ph_model.specs.Digits.{digits_at}
use Rattle.ph_specs.specs.Record.{first_in}
use Rattle.ph_model.specs.Layout.{IsRecord, entries_as, fields_as}
use Rattle.ph_model.proofs.laws.TableFields.{parts-at}
use Rattle.ph_bits.specs.Fields.{digits_row}
use Rattle.ph_bits.specs.Packed.{read_body, IsBodyAt}
use Rattle.ph_linear.proofs.Bodies.{body-read}
use Rattle.ph_cube.specs.Cube.{bodies}
use Rattle.ph_cube.specs.Stands.{StandsAt}
use Rattle.ph_cube.proofs.Columns.{body-row}
use Rattle.ph_cube.proofs.Entries.{entry-is}

within : (i n d : ℕ) → i < n → i * d + d ≤ n * d
within i n d l = grind (arith, l)

inside : (m d b len a : ℕ) → a < m → 1 + words_for (m * (2 + d * b)) ≤ len → 64 + m * 2 + a * d * b + d * b ≤ 64 * len
inside m d b len a l h =
    let p : (d * b) * (a + 1) ≤ (d * b) * m = mul-le-mul_left (d * b) (omega (arith, l)) in
    let q : m * 2 + a * d * b + d * b ≤ m * (2 + d * b) = omega (arith, p) in
    omega (arith, q, h)

near : (d b a : ℕ) → d ≤ 16 → b ≤ 61 → a < 2 ^ d → 64 + 2 ^ d * 2 + a * d * b ≤ 2 ^ 62
near d b a k m l =
    let o : 0 < 2 = omega arith in
    let p : 2 ^ d ≤ 2 ^ 16 = pow-le-pow_right o k in
    let q : a * d ≤ a * 16 = mul-le-mul_left a k in
    let r : (a * d) * b ≤ (a * d) * 61 = mul-le-mul_left (a * d) m in
    omega (arith, p, l, q, r)

module _ (d : ℕ) (words : List ℕ) (a i : ℕ) (r : IsRecord true d words) (h : Each (λ x. x < 2 ^ 64) words) where
  pub body-digits : a < 2 ^ d → get_or (bodies d words) a [] ≡ digits_row words (64 + 2 ^ d * 2 + a * d * (first_in words).level) (first_in words).level d
  body-digits l = parts-at (2 ^ d) d (drop (2 ^ d) (fields_as true d words)) a l ∙ body-row d words (a * d) d r h (within a (2 ^ d) d l)

  pub begins : i < (first_in words).entries → StandsAt d words a i →
      IsBodyAt d (first_in words).level words (entries_as true d words) i (64 + 2 ^ d * 2 + a * d * (first_in words).level)
  begins w s = record {
    body =
        slice_get-map read_body (entries_as true d words) i ∙ ap (option_map read_body) (entry-is d words a i r h w s)
        ∙ ap Some (body-read (digits_at words (64 + a * 2) 2 == 2) a (get_or (bodies d words) a []) ∙ body-digits s.limit);
    inside = inside (2 ^ d) d (first_in words).level (length words) a s.limit (omega (arith, r.long));
    near = near d (first_in words).level a r.few r.low s.limit;
  }
