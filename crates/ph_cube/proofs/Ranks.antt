-- Kinds are counted by the ones among their digits.
use Rattle.std.proofs.Common.{◌≡◌, ℕ, zero, suc, ◌+◌, ◌*◌, ◌/◌, ◌^◌, ◌<◌, ◌≤◌, refl, sym, ◌∙◌, ap, subst, arith}
use Rattle.std.proofs.Common.{List, [], ◌∷◌, length, true, slice_index_or, ne_eqb, cond, lt-ltb}
use Rattle.std.specs.Prelude.{◌==◌, ◌&&◌, nat_le, nat_lt, count_by, if◌then◌else◌}
use Rattle.std.specs.List.{AllByRecursion as Each, list_all}
use Rattle.std.specs.Int.RustNames.{count_ones}
use Rattle.std.proofs.lemmas.Bool.{leb-true, and_parts}
use Rattle.std.proofs.Common.{eqb-true}
use Rattle.std.proofs.lemmas.Nat.{ones_cat}
use Rattle.ph_specs.specs.Digits.{words_for}
use Rattle.ph_model.specs.Digits.{digits_at}
use Rattle.ph_specs.specs.Record.{first_in, absent_are_zero}
use Rattle.ph_model.proofs.lemmas.Counted.{ones, ones-count, kids-cube}
use Rattle.ph_bits.specs.Fields.{ones_in}
use Rattle.ph_model.specs.Layout.{IsRecord, entries_as}
use Rattle.ph_model.proofs.laws.WordDigits.{digits-parts, digits-below}
use Rattle.ph_model.proofs.lemmas.ReadColumns.{length-parts}
use Rattle.ph_cube.specs.Cube.{kinds, bodies, twos_in}
use Rattle.ph_cube.proofs.Columns.{length-kinds, kind-digits}
use Rattle.ph_cube.proofs.Places.{present, twos, present-more, twos-more}

-- ---- what a lawful table says

pub record Lawful (dims : ℕ) (words : List ℕ) : Type 0 where
  pub small : list_all (λ k. nat_le k 2) (kinds dims words) ≡ true
  pub many : count_by (λ k. nat_lt 0 k) (kinds dims words) ≡ (first_in words).entries

pub lawful : (dims : ℕ) (words : List ℕ) → IsRecord true dims words → Lawful dims words
lawful dims words r =
    let ks : List ℕ = kinds dims words in
    let a = and_parts (list_all (λ k. nat_le k 2) ks && (count_by (λ k. nat_lt 0 k) ks == (first_in words).entries) &&
    (count_by (λ k. k == 2) ks == (first_in words).children)) (absent_are_zero ks (bodies dims words)) r.tables in
    let b = and_parts (list_all (λ k. nat_le k 2) ks && (count_by (λ k. nat_lt 0 k) ks == (first_in words).entries))
    (count_by (λ k. k == 2) ks == (first_in words).children) a.0 in
    let c = and_parts (list_all (λ k. nat_le k 2) ks) (count_by (λ k. nat_lt 0 k) ks == (first_in words).entries) b.0 in
    record { small = c.0; many = eqb-true (count_by (λ k. nat_lt 0 k) ks) (first_in words).entries c.1 }

pub all-at : (ks : List ℕ) (j : ℕ) → list_all (λ k. nat_le k 2) ks ≡ true → j < length ks → slice_index_or ks j 0 ≤ 2
all-at [] j h l = absurd (omega (arith, l))
all-at (k ∷ ks) zero h l = leb-true k 2 (and_parts (nat_le k 2) (list_all (λ k. nat_le k 2) ks) h).0
all-at (k ∷ ks) (suc j) h l = all-at ks j (and_parts (nat_le k 2) (list_all (λ k. nat_le k 2) ks) h).1 (omega (arith, l))

pub length-entries : (dims : ℕ) (words : List ℕ) → IsRecord true dims words → length (entries_as true dims words) ≡ (first_in words).entries
length-entries dims words r =
    (kids-cube 0 (kinds dims words) (bodies dims words) (length-parts (2 ^ dims) dims _ ∙ sym (length-kinds dims words))).0
    ∙ ones-count (λ k. nat_lt 0 k) (kinds dims words) ∙ (lawful dims words r).many

present-all : (ks : List ℕ) → present ks (length ks) ≡ ones (λ k. nat_lt 0 k) ks
present-all [] = refl
present-all (zero ∷ ks) = omega (arith, present-all ks)
present-all (suc k ∷ ks) =
    ap (λ t. (if t then 0 else 1) + present ks (length ks)) (ne_eqb (suc k) 0 (λ q. omega (arith, q)))
    ∙ ap (λ t. 1 + t) (present-all ks)
    ∙ sym (ap (λ t. cond t (1 + ones (λ k. nat_lt 0 k) ks) (ones (λ k. nat_lt 0 k) ks)) (lt-ltb 0 (suc k) (omega arith)))

pub present-entries : (dims : ℕ) (words : List ℕ) → IsRecord true dims words → present (kinds dims words) (2 ^ dims) ≡ (first_in words).entries
present-entries dims words r =
    ap (present (kinds dims words)) (sym (length-kinds dims words)) ∙ present-all (kinds dims words) ∙
    ones-count (λ k. nat_lt 0 k) (kinds dims words) ∙ (lawful dims words r).many

-- ---- ones of a kind

pub ones-kind : (k : ℕ) → k ≤ 2 → count_ones k ≡ (if k == 0 then 0 else 1)
unfolding count_ones
ones-kind zero l = refl
ones-kind (suc zero) l = refl
ones-kind (suc (suc zero)) l = refl
ones-kind (suc (suc (suc k))) l = absurd (omega (arith, l))

half-kind : (k : ℕ) → k ≤ 2 → k / 2 ≡ (if k == 2 then 1 else 0)
half-kind zero l = refl
half-kind (suc zero) l = refl
half-kind (suc (suc zero)) l = refl
half-kind (suc (suc (suc k))) l = absurd (omega (arith, l))

inside : (n d b len j : ℕ) → j < n → 1 + words_for (n * (2 + d * b)) ≤ len → 64 + j * 2 + 2 ≤ 64 * len
inside n d b len j l m = let p : j * 2 + 2 ≤ n * (2 + d * b) = grind (arith, l) in omega (arith, p, m)

pub kind-small : (dims : ℕ) (words : List ℕ) (j : ℕ) → IsRecord true dims words → j < 2 ^ dims → slice_index_or (kinds dims words) j 0 ≤ 2
kind-small dims words j r l = all-at (kinds dims words) j (lawful dims words r).small (subst (λ t. j < t) (sym (length-kinds dims words)) l)

-- the entries in front of an address are the ones in front of its kind
pub present-ones : (dims : ℕ) (words : List ℕ) (j : ℕ) → IsRecord true dims words → Each (λ x. x < 2 ^ 64) words →
    j ≤ 2 ^ dims → ones_in words 64 (j * 2) ≡ present (kinds dims words) j
unfolding count_ones
present-ones dims words zero r h l = ap count_ones (none (digits_at words 64 0) (digits-below words 64 0))
  where
    none : (k : ℕ) → k < 2 ^ 0 → k ≡ 0
    none k l = omega (arith, l)
present-ones dims words (suc j) r h l =
    let k : ℕ = slice_index_or (kinds dims words) j 0 in
    let e : slice_index_or (kinds dims words) j 0 ≡ digits_at words (64 + j * 2) 2 = kind-digits dims words j r h l in
    let s : suc j * 2 ≡ j * 2 + 2 = omega arith in
    ap (λ t. ones_in words 64 t) s
    ∙ ap count_ones (digits-parts words 64 (j * 2) 2 (inside (2 ^ dims) dims (first_in words).level (length words) j l (omega (arith, r.long))))
    ∙ ones_cat 2 (digits_at words 64 (j * 2)) (digits_at words (64 + j * 2) 2) (digits-below words (64 + j * 2) 2)
    ∙ ap (λ t. ones_in words 64 (j * 2) + count_ones t) (sym e)
    ∙ ap (λ t. t + count_ones k) (present-ones dims words j r h (omega (arith, l)))
    ∙ ap (λ t. present (kinds dims words) j + t) (ones-kind k (kind-small dims words j r l))
    ∙ sym (present-more (kinds dims words) j (subst (λ t. j < t) (sym (length-kinds dims words)) l))

pub twos-digits : (dims : ℕ) (words : List ℕ) (j : ℕ) → IsRecord true dims words → Each (λ x. x < 2 ^ 64) words →
    j ≤ 2 ^ dims → twos_in words 64 j ≡ twos (kinds dims words) j
twos-digits dims words zero r h l = refl
twos-digits dims words (suc j) r h l =
    let k : ℕ = slice_index_or (kinds dims words) j 0 in
    ap (λ t. t + digits_at words (64 + j * 2) 2 / 2) (twos-digits dims words j r h (omega (arith, l)))
    ∙ ap (λ t. twos (kinds dims words) j + t / 2) (sym (kind-digits dims words j r h l))
    ∙ ap (λ t. twos (kinds dims words) j + t) (half-kind k (kind-small dims words j r l))
    ∙ sym (twos-more (kinds dims words) j (subst (λ t. j < t) (sym (length-kinds dims words)) l))

-- ---- sums

pub none-in : (ws : List ℕ) (at : ℕ) → ones_in ws at 0 ≡ 0
unfolding count_ones
none-in ws at = ap count_ones (none (digits_at ws at 0) (digits-below ws at 0))
  where
    none : (k : ℕ) → k < 2 ^ 0 → k ≡ 0
    none k l = omega (arith, l)

pub ones-add : (ws : List ℕ) (at m w : ℕ) → at + m + w ≤ 64 * length ws → ones_in ws at (m + w) ≡ ones_in ws at m + ones_in ws (at + m) w
ones-add ws at m w l = ap count_ones (digits-parts ws at m w l) ∙ ones_cat w (digits_at ws at m) (digits_at ws (at + m) w) (digits-below ws (at + m) w)

pub twos-add : (ws : List ℕ) (at m w : ℕ) → twos_in ws at (m + w) ≡ twos_in ws at m + twos_in ws (at + m * 2) w
twos-add ws at m zero = let e : m + 0 ≡ m = omega arith in ap (twos_in ws at) e ∙ omega arith
twos-add ws at m (suc w) =
    let e : m + suc w ≡ suc (m + w) = omega arith in
    let f : at + (m + w) * 2 ≡ at + m * 2 + w * 2 = omega arith in
    let h : digits_at ws (at + (m + w) * 2) 2 / 2 ≡ digits_at ws (at + m * 2 + w * 2) 2 / 2 = ap (λ t. digits_at ws t 2 / 2) f in
    ap (twos_in ws at) e ∙ omega (arith, twos-add ws at m w, h)

pub twos-few : (ws : List ℕ) (at m : ℕ) → twos_in ws at m ≤ m
twos-few ws at zero = omega arith
twos-few ws at (suc m) =
    let h : digits_at ws (at + m * 2) 2 < 2 ^ 2 = digits-below ws (at + m * 2) 2 in
    omega (arith, twos-few ws at m, h)

-- the kinds are all there
pub room : (dims : ℕ) (words : List ℕ) → IsRecord true dims words → 64 + 2 ^ dims * 2 ≤ 64 * length words
room dims words r = enough (2 ^ dims) dims (first_in words).level (length words) (omega (arith, r.long))
  where
    enough : (n d b len : ℕ) → 1 + words_for (n * (2 + d * b)) ≤ len → 64 + n * 2 ≤ 64 * len
    enough n d b len m = let p : n * 2 ≤ n * (2 + d * b) = grind arith in omega (arith, p, m)

pub kind-one : (dims : ℕ) (words : List ℕ) (a : ℕ) → IsRecord true dims words → Each (λ x. x < 2 ^ 64) words → a < 2 ^ dims
    → ones_in words (64 + a * 2) 2 ≡ (if slice_index_or (kinds dims words) a 0 == 0 then 0 else 1)
kind-one dims words a r h l = ap count_ones (sym (kind-digits dims words a r h l)) ∙ ones-kind (slice_index_or (kinds dims words) a 0) (kind-small dims words a r l)
