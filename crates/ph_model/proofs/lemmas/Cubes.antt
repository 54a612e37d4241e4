-- The cube table: what digits it takes, and what is read back from it.
use Rattle.std.proofs.Common.{◌≡◌, ◌≢◌, ℕ, zero, suc, ◌+◌, ◌*◌, ◌^◌, ◌<◌, ◌≤◌, inl, inr, refl, sym, ◌∙◌, ap, arith, List}
use Rattle.std.proofs.Common.{[], ◌∷◌, ◌++◌, length, map, replicate, eq-eqb, ne_eqb, Bool, true, false}
use Rattle.std.specs.Prelude.{Option, Some, None, ◌==◌, if◌then◌else◌}
use Rattle.std.specs.List.{AllByRecursion as Each}
use Rattle.std.proofs.lemmas.Nat.{pow_pos}
use Rattle.std.proofs.Math.Nat.{eq-or-lt_of_le}
use Rattle.std.proofs.lemmas.List.{length-replicate}
use Rattle.ph_specs.specs.Node.{Flat}
use Rattle.ph_model.specs.Lawful.{IsBody}
use Rattle.ph_model.specs.Layout.{read_kept, unvalued, AreRising}
use Rattle.ph_specs.specs.Digits.{digits_of}
use Rattle.ph_specs.specs.Pack.{child_mark, bodies, cube_table, cube_digits, at_address, places, place_kind, place_body}
use Rattle.ph_specs.specs.Record.{Read, read, read_cube}
use Rattle.ph_specs.proofs.lemmas.Numbers.{Fit, numbers, field_widths}
use Rattle.ph_model.proofs.lemmas.Columns.{digits_of-append, field_widths-append, numbers-append, Fit-append, AreBodies}
use Rattle.ph_model.proofs.lemmas.Columns.{bodies-digits, bodies-widths, bodies-numbers, bodies-fit, concat_of, mark-small}

abbrev pub kind_column : List (Option Flat) → List ℕ
kind_column ps = numbers (map place_kind ps)

abbrev pub place_column : ℕ → List (Option Flat) → List (List ℕ)
place_column dims ps = map (place_body dims) ps

pub length-places : (n a : ℕ) (es : List Flat) → length (places n a es) ≡ n
length-places zero a es = refl
length-places (suc n) a es = ap suc (length-places n (a + 1) es)

kinds-are : (ps : List (Option Flat)) → (digits_of (map place_kind ps) ≡ length ps * 2) × (field_widths (map place_kind ps) ≡ replicate (length ps) 2)
kinds-are [] = (omega arith, refl)
kinds-are (None ∷ ps) =
    let h : (digits_of (map place_kind ps) ≡ length ps * 2) × (field_widths (map place_kind ps) ≡ replicate (length ps) 2) = kinds-are ps in
    (omega (arith, h.0), ap {B = List ℕ} (λ t. 2 ∷ t) h.1)
kinds-are (Some e ∷ ps) =
    let h : (digits_of (map place_kind ps) ≡ length ps * 2) × (field_widths (map place_kind ps) ≡ replicate (length ps) 2) = kinds-are ps in
    (omega (arith, h.0), ap {B = List ℕ} (λ t. 2 ∷ t) h.1)

kinds-fit : (ps : List (Option Flat)) → Fit (map place_kind ps)
kinds-fit [] = tt
kinds-fit (None ∷ ps) = (omega arith, kinds-fit ps)
kinds-fit (Some e ∷ ps) = (omega (arith, mark-small e.value), kinds-fit ps)

zero-body : (dims level : ℕ) → IsBody dims level (replicate dims 0)
zero-body dims level = (length-replicate dims 0, each dims)
  where
    each : (n : ℕ) → Each (λ y. y < 2 ^ level) (replicate n 0)
    each zero = tt
    each (suc n) = (pow_pos level, each n)

one-body : (dims level a : ℕ) (e : Flat) (es : List Flat) → IsBody dims level e.body →
    IsBody dims level (place_body dims (at_address a es)) → IsBody dims level (place_body dims (at_address a (e ∷ es)))
one-body dims level a e es h k = by_test (e.addr == a)
  where
    by_test : (t : Bool) → IsBody dims level (place_body dims (if t then Some e else at_address a es))
    by_test true = h
    by_test false = k

at-body : (dims level least a : ℕ) (es : List Flat) → AreRising dims level least es → IsBody dims level (place_body dims (at_address a es))
at-body dims level least a [] h = zero-body dims level
at-body dims level least a (e ∷ es) h = one-body dims level a e es h.2 (at-body dims level (e.addr + 1) a es h.3)

pub places-bodies : (dims level least n a : ℕ) (es : List Flat) → AreRising dims level least es → AreBodies dims level (place_column dims (places n a es))
places-bodies dims level least zero a es h = tt
places-bodies dims level least (suc n) a es h =
    (at-body dims level least a es h, places-bodies dims level least n (a + 1) es h)

length-column : (dims : ℕ) (ps : List (Option Flat)) → length (place_column dims ps) ≡ length ps
length-column dims [] = refl
length-column dims (p ∷ ps) = ap suc (length-column dims ps)

-- ---- the table

abbrev pub all_places : ℕ → List Flat → List (Option Flat)
all_places dims es = places (2 ^ dims) 0 es

pub cube-digits : (dims level least : ℕ) (es : List Flat) → AreRising dims level least es → digits_of (cube_table dims level es) ≡ cube_digits dims level
cube-digits dims level least es h =
    let ps : List (Option Flat) = places (2 ^ dims) 0 es in
    let l : length (places (2 ^ dims) 0 es) ≡ 2 ^ dims = length-places (2 ^ dims) 0 es in
    let m : length (place_column dims (places (2 ^ dims) 0 es)) * (dims * level) ≡ 2 ^ dims * (dims * level) = ap (λ t. t * (dims * level)) (length-column dims ps ∙ l) in
    omega (
      arith,
      digits_of-append (map place_kind ps) (bodies level (place_column dims ps)),
      (kinds-are ps).0,
      l,
      bodies-digits dims level (place_column dims ps) (places-bodies dims level least (2 ^ dims) 0 es h),
      m,
    )

pub cube-widths : (dims level least : ℕ) (es : List Flat) → AreRising dims level least es →
    field_widths (cube_table dims level es) ≡ replicate (2 ^ dims) 2 ++ replicate (2 ^ dims * dims) level
cube-widths dims level least es h =
    let ps : List (Option Flat) = places (2 ^ dims) 0 es in
    let l : length (places (2 ^ dims) 0 es) ≡ 2 ^ dims = length-places (2 ^ dims) 0 es in
    field_widths-append (map place_kind ps) (bodies level (place_column dims ps))
    ∙ ap (λ t. t ++ field_widths (bodies level (place_column dims ps))) ((kinds-are ps).1 ∙ ap (λ n. replicate n 2) l)
    ∙ ap (λ t. replicate (2 ^ dims) 2 ++ t)
    (bodies-widths dims level (place_column dims ps) (places-bodies dims level least (2 ^ dims) 0 es h) ∙
    ap (λ n. replicate (n * dims) level) (length-column dims ps ∙ l))

pub cube-numbers : (dims level : ℕ) (es : List Flat) →
    numbers (cube_table dims level es) ≡ kind_column (all_places dims es) ++ concat_of (place_column dims (all_places dims es))
cube-numbers dims level es =
    let ps : List (Option Flat) = places (2 ^ dims) 0 es in
    numbers-append (map place_kind ps) (bodies level (place_column dims ps)) ∙ ap (λ t. kind_column ps ++ t) (bodies-numbers level (place_column dims ps))

pub cube-fit : (dims level least : ℕ) (es : List Flat) → AreRising dims level least es → Fit (cube_table dims level es)
cube-fit dims level least es h =
    let ps : List (Option Flat) = places (2 ^ dims) 0 es in
    Fit-append (map place_kind ps) (bodies level (place_column dims ps)) (kinds-fit ps)
    (bodies-fit dims level (place_column dims ps) (places-bodies dims level least (2 ^ dims) 0 es h))

-- ---- what is read

at-none : (dims level least a : ℕ) (es : List Flat) → a < least → AreRising dims level least es → at_address a es ≡ None
at-none dims level least a [] l h = refl
at-none dims level least a (e ∷ es) l h =
    let n : e.addr ≢ a = λ q. omega (arith, h.0, q) in
    ap {B = Option Flat} (λ t. if t then Some e else at_address a es) (ne_eqb e.addr a n) ∙ at-none dims level (e.addr + 1) a es (omega (arith, h.0)) h.3

places-skip : (n a : ℕ) (e : Flat) (es : List Flat) → e.addr < a → places n a (e ∷ es) ≡ places n a es
places-skip zero a e es l = refl
places-skip (suc n) a e es l =
    let q : e.addr ≢ a = λ q. omega (arith, q) in
    ap {B = List (Option Flat)} (λ t. (if t then Some e else at_address a es) ∷ places n (a + 1) (e ∷ es))
    (ne_eqb e.addr a q) ∙ ap {B = List (Option Flat)} (λ t. at_address a es ∷ t) (places-skip n (a + 1) e es (omega arith))

abbrev read_places : ℕ → ℕ → List (Option Flat) → List Read
read_places dims a ps = read_cube a (kind_column ps) (place_column dims ps)

-- one place in front of what is read behind it
abbrev read_step : ℕ → ℕ → Option Flat → List Read → List Read
read_step dims a o rest =
    if (place_kind o).number == 0 then rest else read ((place_kind o).number == 2) a (place_body dims o) ∷ rest

here : (dims n a : ℕ) (e : Flat) (es : List Flat) (rs : List Read) → a ≡ e.addr →
    read_places dims (a + 1) (places n (a + 1) es) ≡ rs →
    read_places dims a (places (suc n) a (e ∷ es)) ≡ read_step dims a (Some e) rs
here dims n a e es rs q ih =
    ap (λ t. read_step dims a (if t then Some e else at_address a es) (read_places dims (a + 1) (places n (a + 1) (e ∷ es)))) (eq-eqb e.addr a (sym q))
    ∙ ap (λ ps. read_step dims a (Some e) (read_places dims (a + 1) ps)) (places-skip n (a + 1) e es (omega (arith, q)))
    ∙ ap (read_step dims a (Some e)) ih

pub reads-cube : (dims level n a least : ℕ) (es : List Flat) → a + n ≡ 2 ^ dims → a ≤ least →
    AreRising dims level least es → read_places dims a (places n a es) ≡ map unvalued es
reads-cube dims level zero a least [] s l h = refl
reads-cube dims level zero a least (e ∷ es) s l h = absurd (omega (arith, s, h.0, h.1))
reads-cube dims level (suc n) a least [] s l h = reads-cube dims level n (a + 1) (a + 1) [] (omega (arith, s)) (omega arith) tt
reads-cube dims level (suc n) a least (e ∷ es) s l h =
    let le : a ≤ e.addr = omega (arith, h.0) in
    let s' : a + 1 + n ≡ 2 ^ dims = omega (arith, s) in
    elim (eq-or-lt_of_le le) [
      | inl q ↦ here dims n a e es (map unvalued es) q
          (reads-cube dims level n (a + 1) (e.addr + 1) es s' (omega (arith, q)) h.3) ∙ by_value e.value ∙
          ap {B = List Read} (λ t. read_kept e.value t e.body ∷ map unvalued es) q
      | inr k ↦ ap (λ o. read_step dims a o (read_places dims (a + 1) (places n (a + 1) (e ∷ es))))
          (at-none dims level (a + 1) a (e ∷ es) (omega arith) (omega (arith, k), h.1, h.2, h.3)) ∙
          reads-cube dims level n (a + 1) (a + 1) (e ∷ es) s' (omega arith) (omega (arith, k), h.1, h.2, h.3)
    ]
  where
    by_value : (w : Option ℕ) → (if (1 + child_mark w) == 0 then map unvalued es else read ((1 + child_mark w) == 2) a
        e.body ∷ map unvalued es) ≡ read_kept w a e.body ∷ map unvalued es
    by_value (Some v) = refl
    by_value None = refl
