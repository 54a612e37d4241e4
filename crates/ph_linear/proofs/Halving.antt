-- Places of addresses that rise.
use Rattle.std.proofs.Common.{◌≡◌, ◌≢◌, ℕ, ◌+◌, ◌-◌, ◌*◌, ◌/◌, ◌%◌, ◌^◌, ◌<◌, ◌≤◌, refl, sym, ◌∙◌, ap, arith, List, length, Bool}
use Rattle.std.proofs.Common.{true, false, slice_index_or, inl, inr, lt-ltb, le-ltb, ne_eqb, eq-eqb, eqb-true, bit_and}
use Rattle.std.specs.Prelude.{Some, None, position, ◌==◌, nat_le, count_by}
use Rattle.std.specs.List.{position_or_len, AllByRecursion as Each}
use Rattle.std.proofs.lemmas.List.Sums.{position_or_len_is, fails_before_first, passes_at_first}
use Rattle.std.proofs.lemmas.Bool.{leb-true, leb-false, and_parts}
use Rattle.std.proofs.lemmas.Nat.{and_mask, div-add-mod'}
use Rattle.std.proofs.lemmas.List.Quantifiers.{position-Some}
use Rattle.std.proofs.Math.Nat.{mul-le-mul_left, pow-le-pow_right}
use Rattle.ph_specs.specs.Digits.{words_for}
use Rattle.ph_model.specs.Digits.{digits_at}
use Rattle.ph_specs.specs.Pack.{linear_digits}
use Rattle.ph_specs.specs.Record.{first_in, rises_from}
use Rattle.ph_model.specs.Layout.{IsRecord, entries_as, read_address}
use Rattle.ph_model.proofs.laws.WordDigits.{digits-within}
use Rattle.ph_linear.specs.Linear.{kinds, addresses, bodies}
use Rattle.ph_linear.proofs.Columns.{length-kinds, length-addresses, address-digits}
use Rattle.ph_linear.proofs.Entries.{split, rises-less, rises-most, place-read, position-read}
use Rattle.ph_model.proofs.lemmas.ReadColumns.{length-parts}

pub rise : (dims : ℕ) (words : List ℕ) → IsRecord false dims words → rises_from 0 (addresses dims words) ≡ true
rise dims words r = (and_parts (count_by (λ k. k == 1) (kinds dims words) == (first_in words).children) (rises_from 0 (addresses dims words)) r.tables).1

pub below : (xs : List ℕ) (m a : ℕ) → rises_from 0 xs ≡ true → m < length xs → slice_index_or xs m 0 < a → (i : ℕ) → i < m + 1 → slice_index_or xs i 0 < a
below xs m a e l f i b = omega (arith, rises-most xs i m e (omega (arith, b)) l, f)

pub above : (xs : List ℕ) (m a : ℕ) → rises_from 0 xs ≡ true → a ≤ slice_index_or xs m 0 → (i : ℕ) → m ≤ i → i < length xs → a ≤ slice_index_or xs i 0
above xs m a e f i b l = omega (arith, rises-most xs m i e b l, f)

-- some addresses lie within the record
pub inside : (n d b len low high : ℕ) → high ≤ n → low ≤ high → 1 + words_for (linear_digits d b n) ≤ len → 64 + n + low * d + (high - low) * d ≤ 64 * len
inside n d b len low high l o m =
    let p : low * d + (high - low) * d ≡ high * d = let k : low + (high - low) ≡ high = omega (arith, o) in
    let q : (low + (high - low)) * d ≡ high * d = ap (λ t. t * d) k in omega (arith, q) in
    let u : d * high ≤ d * n = mul-le-mul_left d l in
    omega (arith, p, u, m)

-- an address among some that were read at once
pub one-of : (dims : ℕ) (words : List ℕ) (low high x i : ℕ) → IsRecord false dims words → Each (λ x. x < 2 ^ 64) words → high ≤ (first_in words).entries → low ≤ high
    → x ≡ digits_at words (64 + (first_in words).entries + low * dims) ((high - low) * dims) → i < high - low
    → x / 2 ^ (dims * (high - low - 1 - i)) % 2 ^ dims ≡ slice_index_or (addresses dims words) (low + i) 0
one-of dims words low high x i r h l o e b =
    let n : ℕ = (first_in words).entries in
    let at : ℕ = 64 + n + low * dims in
    let f : dims * (high - low - 1 - i) ≡ (high - low) * dims - i * dims - dims = rest i (high - low) dims b in
    let g : 64 + (first_in words).entries + low * dims + i * dims ≡ 64 + (first_in words).entries + (low + i) * dims = omega arith in
    ap (λ t. t / 2 ^ (dims * (high - low - 1 - i)) % 2 ^ dims) e
    ∙ ap (λ t. digits_at words at ((high - low) * dims) / 2 ^ t % 2 ^ dims) f
    ∙ digits-within words at ((high - low) * dims) (i * dims) dims
    (inside n dims (first_in words).level (length words) low high l o (omega (arith, r.long))) (within i (high - low) dims b)
    ∙ ap (λ t. digits_at words t dims) g
    ∙ sym (address-digits dims words (low + i) r h (omega (arith, b, l)))
  where
    within : (i n w : ℕ) → i < n → i * w + w ≤ n * w
    within i n w l = grind (arith, l)

    rest : (i n w : ℕ) → i < n → w * (n - 1 - i) ≡ n * w - i * w - w
    rest i n w l = let e : n ≡ i + 1 + (n - 1 - i) = omega (arith, l) in
        let f : n * w ≡ (i + 1 + (n - 1 - i)) * w = ap (λ t. t * w) e in omega (arith, f)

-- so many addresses have at most 64 digits together
pub few-digits : (d n : ℕ) → n ≤ 64 / d → n * d ≤ 64
few-digits d n h = let m : d * n ≤ d * (64 / d) = mul-le-mul_left d h in omega (arith, m, div-add-mod' 64 d)

-- the same address, or none
pub found : (xs : List ℕ) (a i : ℕ) → rises_from 0 xs ≡ true → i < length xs → slice_index_or xs i 0 ≡ a → Some i ≡ position (λ x. x == a) xs
found xs a i e l h =
    let p : position_or_len (λ x. x == a) xs ≡ i = position_or_len_is (λ x. x == a) xs i 0 (omega (arith, l))
    (λ k b. ne_eqb (slice_index_or xs k 0) a (other k b)) (λ _. eq-eqb (slice_index_or xs i 0) a h) in
    rw (p, lt-ltb i (length xs) l) refl
  where
    other : (k : ℕ) → k < i → slice_index_or xs k 0 ≢ a
    other k b f = omega (arith, rises-less 0 xs k i e b l, f, h)

pub missed : (xs : List ℕ) (a i : ℕ) → rises_from 0 xs ≡ true → i ≡ position_or_len (λ x. nat_le a x) xs →
    (i < length xs → slice_index_or xs i 0 ≢ a) → None ≡ position (λ x. x == a) xs
missed xs a i e is n =
    let p : position_or_len (λ x. x == a) xs ≡ length xs = position_or_len_is (λ x. x == a) xs (length xs) 0
    (omega arith) (λ k l. ne_eqb (slice_index_or xs k 0) a (other k l)) (λ l. absurd (omega (arith, l))) in
    rw (p, le-ltb (length xs) (length xs) (omega arith)) refl
  where
    other : (k : ℕ) → k < length xs → slice_index_or xs k 0 ≢ a
    other k l f =
        elim (split k i) [
          | inl b ↦
              let q : nat_le a (slice_index_or xs k 0) ≡ false = fails_before_first (λ x. nat_le a x) xs k 0 (omega (arith, b, is)) in
              let m : slice_index_or xs k 0 < a = leb-false a (slice_index_or xs k 0) q in omega (arith, m, f)
          | inr b ↦
              let q : nat_le a (slice_index_or xs (position_or_len (λ x. nat_le a x) xs) 0) ≡ true = passes_at_first (λ x. nat_le a x) xs 0 (omega (arith, b, l, is)) in
              let m : a ≤ slice_index_or xs i 0 = leb-true a (slice_index_or xs i 0) (ap (λ t. nat_le a (slice_index_or xs t 0)) is ∙ q) in
              let u : slice_index_or xs i 0 ≤ slice_index_or xs k 0 = rises-most xs i k e b l in
              n (omega (arith, b, l)) (omega (arith, m, u, f))
        ]

pub next_some : (p : ℕ → Bool) (xs : List ℕ) (i : ℕ) → i ≡ position_or_len p xs → i < length xs → Some i ≡ position p xs
next_some p xs i e l = rw (← e, lt-ltb i (length xs) l) refl

pub next_none : (p : ℕ → Bool) (xs : List ℕ) (i : ℕ) → i ≡ position_or_len p xs → length xs ≤ i → None ≡ position p xs
next_none p xs i e l = rw (← e, le-ltb i (length xs) l) refl

-- a place among the addresses is a place among the entries
pub place-entries : (p : ℕ → Bool) (dims : ℕ) (words : List ℕ) → position (λ r. p (read_address r)) (entries_as false dims words) ≡ position p (addresses dims words)
place-entries p dims words =
    position-read p (kinds dims words) (addresses dims words) (bodies dims words)
    (length-addresses dims words ∙ sym (length-kinds dims words))
    (length-parts (first_in words).entries dims _ ∙ sym (length-kinds dims words))

-- the first entry that passes, or none, by the place of its address
pub some-next : (p : ℕ → Bool) (dims : ℕ) (words : List ℕ) (i : ℕ) → i ≡ position_or_len p (addresses dims words) →
    i < (first_in words).entries → Some i ≡ position (λ r. p (read_address r)) (entries_as false dims words)
some-next p dims words i e l =
    next_some p (addresses dims words) i e (omega (arith, l, length-addresses dims words)) ∙ sym (place-entries p dims words)

pub none-next : (p : ℕ → Bool) (dims : ℕ) (words : List ℕ) (i : ℕ) → i ≡ position_or_len p (addresses dims words) →
    (first_in words).entries ≤ i → None ≡ position (λ r. p (read_address r)) (entries_as false dims words)
none-next p dims words i e l =
    next_none p (addresses dims words) i e (omega (arith, l, length-addresses dims words)) ∙ sym (place-entries p dims words)

pub place-there : (p : ℕ → Bool) (d : ℕ) (words : List ℕ) → position_or_len (λ r. p (read_address r)) (entries_as false d words) ≡ position_or_len p (addresses d words)
place-there p d words =
    place-read p (kinds d words) (addresses d words) (bodies d words)
    (length-addresses d words ∙ sym (length-kinds d words))
    (length-parts (first_in words).entries d _ ∙ sym (length-kinds d words))

-- what stands at the place of an address
pub at-place : (dims : ℕ) (words : List ℕ) (a i : ℕ) →
    position (λ r. read_address r == a) (entries_as false dims words) ≡ Some i → (i < (first_in words).entries) ×
    (slice_index_or (addresses dims words) i 0 ≡ a)
at-place dims words a i e =
    let h = position-Some (λ x. x == a) (addresses dims words) i 0 (sym (place-entries (λ x. x == a) dims words) ∙ e) in
    (omega (arith, h.0, length-addresses dims words), eqb-true _ _ h.1)

-- a one, shifted
pub shifted : (m : ℕ) → m < 64 → 1 * 2 ^ m % 2 ^ 64 ≡ 2 ^ m
shifted m l =
    let o : 0 < 2 = omega arith in
    let q : m ≤ 63 = omega (arith, l) in
    let p : 2 ^ m ≤ 2 ^ 63 = pow-le-pow_right o q in
    omega (arith, p)

-- a mask takes the last digits
pub masked : (v low : ℕ) → low < 64 → bit_and v (1 * 2 ^ low % 2 ^ 64 - 1) ≡ v % 2 ^ low
masked v low l = ap (λ t. bit_and v (t - 1)) (shifted low l) ∙ and_mask v low
