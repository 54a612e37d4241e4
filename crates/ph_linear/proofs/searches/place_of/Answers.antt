use Rattle.std.proofs.Common.{◌≡◌, ◌+◌, ◌*◌, ◌-◌, ◌/◌, ◌%◌, ◌<◌, ◌≤◌, ◌^◌, ℕ, refl, sym, ◌∙◌, ap, subst, arith, List, length, slice_index_or, false}
use Rattle.std.specs.List.{AllByRecursion as Each}
use Rattle.ph_model.specs.Digits.{digits_at}
use Rattle.ph_model.specs.Layout.{IsRecord}
use Rattle.ph_specs.specs.Record.{first_in}
use Rattle.ph_model.proofs.laws.WordDigits.{each-fits}
use Rattle.ph_linear.specs.Linear.{addresses}
use Rattle.ph_linear.proofs.Columns.{length-addresses, two_words}
use Rattle.ph_linear.proofs.Entries.{rises-most, first-at}
use Rattle.ph_linear.proofs.Halving.{rise, one-of}
use Rattle.ph_linear.proofs.searches.place_of.Goals as goal

-- an address, of the digits of all of them
one : (dims : ℕ) (words : List ℕ) (n x i : ℕ) → IsRecord false dims words → Each (λ x. x < 2 ^ 64) words →
    n ≡ (first_in words).entries → x ≡ digits_at words (64 + n) (n * dims) → i < n
    → x / 2 ^ (dims * (n - 1 - i)) % 2 ^ dims ≡ slice_index_or (addresses dims words) i 0
one dims words n x i r h e d l =
    let f : 64 + n ≡ 64 + (first_in words).entries + 0 * dims = omega (arith, e) in
    let z : n ≡ n - 0 = omega arith in
    let q : 0 + i ≡ i = omega arith in
    let y : x ≡ digits_at words (64 + (first_in words).entries + 0 * dims) ((n - 0) * dims) = d ∙
    ap (λ t. digits_at words t (n * dims)) f ∙
    ap (λ t. digits_at words (64 + (first_in words).entries + 0 * dims) (t * dims)) z in
    ap (λ t. x / 2 ^ (dims * (t - 1 - i)) % 2 ^ dims) z
    ∙ one-of dims words 0 n x i r h (omega (arith, e)) (omega arith) y (omega (arith, l))
    ∙ ap (λ t. slice_index_or (addresses dims words) t 0) q

rises : (dims : ℕ) (words : List ℕ) (n x i j : ℕ) → IsRecord false dims words → Each (λ x. x < 2 ^ 64) words →
    n ≡ (first_in words).entries → x ≡ digits_at words (64 + n) (n * dims) → i ≤ j → j < n
    → x / 2 ^ (dims * (n - 1 - i)) % 2 ^ dims ≤ x / 2 ^ (dims * (n - 1 - j)) % 2 ^ dims
rises dims words n x i j r h e d b l =
    let xs : List ℕ = addresses dims words in
    let m : j < length (addresses dims words) = omega (arith, l, e, length-addresses dims words) in
    subst (λ t. t ≤ x / 2 ^ (dims * (n - 1 - j)) % 2 ^ dims) (sym (one dims words n x i r h e d (omega (arith, b, l))))
    (subst (λ t. slice_index_or xs i 0 ≤ t) (sym (one dims words n x j r h e d l)) (rises-most xs i j (rise dims words r) b m))

some : (n d m : ℕ) → n ≡ m → 1 ≤ m → 1 ≤ d → 0 < n * d
some n d m e l k = grind (arith, e, l, k)

pub near_field-all-requires : goal.near_field-all-requires
near_field-all-requires c = record {
  some = some c.args.count c.args.dims (first_in c.args.words.now).entries c.requires.count c.requires.record.least c.requires.record.some;
  near = c.if-is_short.ensures refl;
  inside = two_words c.args.dims c.args.words.now c.requires.record;
}

pub less_in-requires-clause-rise : goal.less_in-requires-clause-rise
less_in-requires-clause-rise c =
    let words = c.args.words.now in
    λ i j b l. rises c.args.dims words c.args.count c.near_field-all.result i j c.requires.record
    (each-fits words c.type_inv.words) c.requires.count c.near_field-all.ensures b l

pub returns-then-is_short-clause-value : goal.returns-then-is_short-clause-value
returns-then-is_short-clause-value c =
    let words = c.args.words.now in
    let n : ℕ = c.args.count in
    let k : ℕ = c.less_in.result in
    let xs : List ℕ = addresses c.args.dims words in
    let m : length xs ≡ n = length-addresses c.args.dims words ∙ sym c.requires.count in
    let at = λ (i : ℕ) (l : i < n). one c.args.dims words n c.near_field-all.result i c.requires.record
    (each-fits words c.type_inv.words) c.requires.count c.near_field-all.ensures l in
    first-at xs c.args.addr k (omega (arith, m, c.less_in.ensures.within))
    (λ i b. subst (λ t. t < c.args.addr) (at i (omega (arith, b, c.less_in.ensures.within))) (c.less_in.ensures.before i b))
    (λ b. let l : k < n = omega (arith, b, m) in subst (λ t. c.args.addr ≤ t) (at k l) (c.less_in.ensures.after k (omega arith) l))
