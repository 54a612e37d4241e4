-- The points of a list, and the room of their records.
use Rattle.std.proofs.Common.{◌≡◌, ℕ, zero, suc, ◌+◌, ◌*◌, ◌^◌, ◌<◌, ◌≤◌, refl, ◌∙◌, ap, sym, subst, arith, List, length, map, take, replicate, Bool, true, false}
use Rattle.std.specs.Prelude.{Option, Some, None, slice_get}
use Rattle.std.specs.List.{AllByRecursion as Each}
use Rattle.std.specs.Option.{option_map}
use Rattle.std.proofs.lemmas.Option.{slice_get-map}
use Rattle.std.proofs.lemmas.List.{take-replicate}
use Rattle.std.proofs.Math.Nat.{mul-le-mul, mul-le-mul_left, pow-le-pow_right}
use Rattle.ph_specs.specs.Node.{Flat}
use Rattle.ph_specs.specs.Digits.{words_for}
use Rattle.ph_specs.specs.Pack.{children, values, record_in}
use Rattle.ph_specs.specs.Record.{read_point}
use Rattle.ph_model.specs.Layout.{IsRecord, AreRising, unvalued}
use Rattle.ph_model.proofs.laws.Layouts.{made}
use Rattle.record_bench.specs.Listed.{points, digits}

abbrev pub point : ℕ → ℕ → ℕ → Flat
point dims field at = record { addr = at; body = replicate dims field; value = Some at }

pub length-points : (dims n at step field : ℕ) → length (points dims n at step field) ≡ n
length-points dims zero at step field = refl
length-points dims (suc n) at step field = ap suc (length-points dims n (at + step) step field)

pub length-values : (dims n at step field : ℕ) → length (values (points dims n at step field)) ≡ n
length-values dims zero at step field = refl
length-values dims (suc n) at step field = ap suc (length-values dims n (at + step) step field)

childless : (dims n at step field : ℕ) → children (points dims n at step field) ≡ 0
childless dims zero at step field = refl
childless dims (suc n) at step field = omega (arith, childless dims n (at + step) step field)

point-at : (dims n at step field i : ℕ) → i < n → slice_get (points dims n at step field) i ≡ Some (point dims field (at + i * step))
point-at dims zero at step field i l = absurd (omega (arith, l))
point-at dims (suc n) at step field zero l = let e : at ≡ at + 0 * step = omega arith in ap (λ a. Some (point dims field a)) e
point-at dims (suc n) at step field (suc i) l =
    let e : at + step + i * step ≡ at + suc i * step = omega arith in
    point-at dims n (at + step) step field i (omega (arith, l)) ∙ ap (λ a. Some (point dims field a)) e

from-first : (dims n step field i : ℕ) → i < n → slice_get (points dims n 0 step field) i ≡ Some (point dims field (i * step))
from-first dims n step field i l =
    let e : 0 + i * step ≡ i * step = omega arith in
    point-at dims n 0 step field i l ∙ ap (λ a. Some (point dims field a)) e

pub inside : (dims n step field i : ℕ) → i < length (points dims n 0 step field) → i < n
inside dims n step field i l = omega (arith, l, length-points dims n 0 step field)

pub read-at : (dims n step field i : ℕ) → dims ≤ 16 → i < n →
    slice_get (map unvalued (points dims n 0 step field)) i ≡ Some (read_point (i * step) (take dims (replicate 16 field)))
read-at dims n step field i f l =
    slice_get-map unvalued (points dims n 0 step field) i
    ∙ ap (option_map unvalued) (from-first dims n step field i l)
    ∙ ap (λ b. Some (read_point (i * step) b)) (sym (take-replicate dims 16 field f))

abbrev value_in : Flat → Option ℕ
value_in e = e.value

-- the value in an answer
abbrev out : Option (Option ℕ) → ℕ
out (Some (Some v)) = v
out (Some None) = 0
out None = 0

pub value-at : (dims n step field i v : ℕ) → i < n → slice_get (map (λ (e : Flat). e.value) (points dims n 0 step field)) i ≡ Some (Some v) → i * step ≡ v
value-at dims n step field i v l e =
    ap out (sym (slice_get-map value_in (points dims n 0 step field) i ∙ ap (option_map value_in) (from-first dims n step field i l)) ∙ e)

length-row : (n field : ℕ) → length (replicate n field) ≡ n
length-row zero field = refl
length-row (suc n) field = ap suc (length-row n field)

each-row : (level n field : ℕ) → field < 2 ^ level → Each (λ x. x < 2 ^ level) (replicate n field)
each-row level zero field f = tt
each-row level (suc n) field f = (f, each-row level n field f)

pub rising : (dims level least n at step field : ℕ) → field < 2 ^ level → 1 ≤ step → least ≤ at →
    at + n * step ≤ 2 ^ dims → AreRising dims level least (points dims n at step field)
rising dims level least zero at step field f s l w = tt
rising dims level least (suc n) at step field f s l w =
    let e : suc n * step ≡ step + n * step = omega arith in (
      l,
      omega (arith, w, e, s),
      (length-row dims field, each-row level dims field f),
      rising dims level (at + 1) n (at + step) step field f s (omega (arith, s)) (omega (arith, w, e)),
    )

pub is-record : (cube : Bool) (dims level n step field : ℕ) (words : List ℕ) → 1 ≤ dims → dims ≤ 16 → level ≤ 61 →
    1 ≤ n → AreRising dims level 0 (points dims n 0 step field) →
    words ≡ record_in cube dims level (points dims n 0 step field) → IsRecord cube dims words
is-record cube dims level n step field words o f b k h e =
    subst (IsRecord cube dims) (sym e)
    (made cube dims level (points dims n 0 step field) o f b (omega (arith, k, length-points dims n 0 step field)) (λ _. childless dims n 0 step field) h).is_record

-- a place among few points, and its address
pub address-small : (dims n step i : ℕ) → dims ≤ 16 → n * step ≤ 2 ^ dims → i < n → i * step < 2 ^ 32
address-small dims n step i f w l =
    let m : i * step ≤ n * step = mul-le-mul (omega (arith, l)) (omega arith) in
    let p : 0 < 2 = omega arith in
    let q : 2 ^ dims ≤ 2 ^ 16 = pow-le-pow_right p f in
    omega (arith, m, q, w)

few-points : (dims n step : ℕ) → 1 ≤ step → n * step ≤ 2 ^ dims → n ≤ 2 ^ dims
few-points dims n step s w =
    let m : n * 1 ≤ n * step = mul-le-mul_left n s in omega (arith, m, w)

most : (a b : ℕ) → a ≤ 65536 → b ≤ 993 → a * b ≤ 65536 * 993
most a b p q = mul-le-mul p q

digits-small : (cube : Bool) (dims level n : ℕ) → dims ≤ 16 → level ≤ 61 → n ≤ 2 ^ dims → digits cube dims level n ≤ 65536 * 993
digits-small cube dims level n f b w =
    let p : 0 < 2 = omega arith in
    let q : 2 ^ dims ≤ 2 ^ 16 = pow-le-pow_right p f in
    let m : dims * level ≤ 16 * 61 = mul-le-mul f b in
    elim cube as (λ t. digits t dims level n ≤ 65536 * 993) [
      | true ↦ most (2 ^ dims) (2 + dims * level) (omega (arith, q)) (omega (arith, m))
      | false ↦ most n (1 + dims + dims * level) (omega (arith, q, w)) (omega (arith, m, f))
    ]

-- a record of points has few words
pub room-small : (cube : Bool) (dims level n step : ℕ) → dims ≤ 16 → level ≤ 61 → 1 ≤ step → n * step ≤ 2 ^ dims → 1 + words_for (digits cube dims level n) + n < 2 ^ 21
room-small cube dims level n step f b s w =
    let p : 0 < 2 = omega arith in
    let q : 2 ^ dims ≤ 2 ^ 16 = pow-le-pow_right p f in
    let k : n ≤ 2 ^ dims = few-points dims n step s w in
    omega (arith, digits-small cube dims level n f b k, k, q)
