-- The columns of tables: what digits they take, and what is read back from them.
use Rattle.std.proofs.Common.{◌≡◌, ℕ, zero, suc, ◌+◌, ◌*◌, ◌^◌, ◌<◌, ◌≤◌, refl, sym, ◌∙◌, ap, arith, List, [], ◌∷◌, ◌++◌, length, map, take, drop, replicate}
use Rattle.std.specs.Prelude.{Option, Some, None, ◌==◌}
use Rattle.std.specs.List.{AllByRecursion as Each}
use Rattle.std.proofs.Math.ListN.{replicate-append-replicate}
use Rattle.ph_specs.specs.Node.{Entries, Flat, flat}
use Rattle.ph_model.specs.Lawful.{IsBody}
use Rattle.ph_model.specs.Layout.{read_kept, unvalued, AreRising}
use Rattle.ph_specs.specs.Digits.{Field, field, number_after, digits_of}
use Rattle.ph_specs.specs.Pack.{child_mark, body_fields, bodies, linear_table, linear_digits}
use Rattle.ph_specs.specs.Record.{Read, read, parts, read_linear}
use Rattle.ph_specs.proofs.lemmas.Numbers.{Fit, numbers, field_widths}

-- ---- fields in a row

pub digits_of-append : (fs gs : List Field) → digits_of (fs ++ gs) ≡ digits_of fs + digits_of gs
digits_of-append [] gs = omega arith
digits_of-append (f ∷ fs) gs = omega (arith, digits_of-append fs gs)

pub number_after-append : (r : ℕ) (fs gs : List Field) → number_after r (fs ++ gs) ≡ number_after (number_after r fs) gs
number_after-append r [] gs = refl
number_after-append r (f ∷ fs) gs = number_after-append (r * 2 ^ f.width + f.number) fs gs

pub field_widths-append : (fs gs : List Field) → field_widths (fs ++ gs) ≡ field_widths fs ++ field_widths gs
field_widths-append [] gs = refl
field_widths-append (f ∷ fs) gs = ap {B = List ℕ} (λ t. f.width ∷ t) (field_widths-append fs gs)

pub numbers-append : (fs gs : List Field) → numbers (fs ++ gs) ≡ numbers fs ++ numbers gs
numbers-append [] gs = refl
numbers-append (f ∷ fs) gs = ap {B = List ℕ} (λ t. f.number ∷ t) (numbers-append fs gs)

pub Fit-append : (fs gs : List Field) → Fit fs → Fit gs → Fit (fs ++ gs)
Fit-append [] gs h k = k
Fit-append (f ∷ fs) gs h k = (h.0, Fit-append fs gs h.1 k)

pub take-front : {X : Type 0} (n : ℕ) (xs ys : List X) → length xs ≡ n → take n (xs ++ ys) ≡ xs
take-front zero [] ys h = refl
take-front (suc n) [] ys h = absurd (omega (arith, h))
take-front zero (x ∷ xs) ys h = absurd (omega (arith, h))
take-front {X} (suc n) (x ∷ xs) ys h = ap {B = List X} (λ t. x ∷ t) (take-front n xs ys (omega (arith, h)))

pub drop-front : {X : Type 0} (n : ℕ) (xs ys : List X) → length xs ≡ n → drop n (xs ++ ys) ≡ ys
drop-front zero [] ys h = refl
drop-front (suc n) [] ys h = absurd (omega (arith, h))
drop-front zero (x ∷ xs) ys h = absurd (omega (arith, h))
drop-front (suc n) (x ∷ xs) ys h = drop-front n xs ys (omega (arith, h))

-- ---- the bodies

pub concat_of : List (List ℕ) → List ℕ
concat_of [] = []
concat_of (b ∷ bs) = b ++ concat_of bs

body-digits : (level : ℕ) (body : List ℕ) → digits_of (body_fields level body) ≡ length body * level
body-digits level [] = omega arith
body-digits level (y ∷ body) = omega (arith, body-digits level body)

body-widths : (level : ℕ) (body : List ℕ) → field_widths (body_fields level body) ≡ replicate (length body) level
body-widths level [] = refl
body-widths level (y ∷ body) = ap {B = List ℕ} (λ t. level ∷ t) (body-widths level body)

body-numbers : (level : ℕ) (body : List ℕ) → numbers (body_fields level body) ≡ body
body-numbers level [] = refl
body-numbers level (y ∷ body) = ap {B = List ℕ} (λ t. y ∷ t) (body-numbers level body)

body-fit : (level : ℕ) (body : List ℕ) → Each (λ y. y < 2 ^ level) body → Fit (body_fields level body)
body-fit level [] h = tt
body-fit level (y ∷ body) h = (h.0, body-fit level body h.1)

-- each has a field for each dimension
abbrev pub AreBodies : ℕ → ℕ → List (List ℕ) → Type 0
AreBodies dims level bs = Each (IsBody dims level) bs

pub bodies-digits : (dims level : ℕ) (bs : List (List ℕ)) → AreBodies dims level bs → digits_of (bodies level bs) ≡ length bs * (dims * level)
bodies-digits dims level [] h = omega arith
bodies-digits dims level (b ∷ bs) h =
    let e : length b * level ≡ dims * level = ap (λ t. t * level) h.0.0 in
    omega (arith, e, digits_of-append (body_fields level b) (bodies level bs), body-digits level b, bodies-digits dims level bs h.1)

pub bodies-widths : (dims level : ℕ) (bs : List (List ℕ)) → AreBodies dims level bs → field_widths (bodies level bs) ≡ replicate (length bs * dims) level
bodies-widths dims level [] h =
    let z : 0 * dims ≡ 0 = omega arith in sym (ap (λ n. replicate n level) z)
bodies-widths dims level (b ∷ bs) h =
    let c : suc (length bs) * dims ≡ dims + length bs * dims = omega arith in
    field_widths-append (body_fields level b) (bodies level bs) ∙ ap (λ t. t ++ field_widths (bodies level bs))
    (body-widths level b ∙ ap (λ n. replicate n level) h.0.0) ∙ ap (λ t. replicate dims level ++ t)
    (bodies-widths dims level bs h.1) ∙ replicate-append-replicate dims (length bs * dims) level ∙
    sym (ap (λ n. replicate n level) c)

pub bodies-numbers : (level : ℕ) (bs : List (List ℕ)) → numbers (bodies level bs) ≡ concat_of bs
unfolding concat_of
bodies-numbers level [] = refl
bodies-numbers level (b ∷ bs) =
    numbers-append (body_fields level b) (bodies level bs) ∙ ap (λ t. t ++ numbers (bodies level bs)) (body-numbers level b) ∙ ap (λ t. b ++ t) (bodies-numbers level bs)

pub bodies-fit : (dims level : ℕ) (bs : List (List ℕ)) → AreBodies dims level bs → Fit (bodies level bs)
bodies-fit dims level [] h = tt
bodies-fit dims level (b ∷ bs) h =
    Fit-append (body_fields level b) (bodies level bs) (body-fit level b h.0.1) (bodies-fit dims level bs h.1)

pub parts-concat : (dims level : ℕ) (bs : List (List ℕ)) → AreBodies dims level bs → parts (length bs) dims (concat_of bs) ≡ bs
unfolding concat_of
parts-concat dims level [] h = refl
parts-concat dims level (b ∷ bs) h =
    ap {B = List (List ℕ)} (λ t. t ∷ parts (length bs) dims (drop dims (b ++ concat_of bs)))
    (take-front dims b (concat_of bs) h.0.0) ∙ ap {B = List (List ℕ)} (λ t. b ∷ parts (length bs) dims t)
    (drop-front dims b (concat_of bs) h.0.0) ∙ ap {B = List (List ℕ)} (λ t. b ∷ t) (parts-concat dims level bs h.1)

-- ---- the linear table

abbrev pub addr_column : List Flat → List ℕ
addr_column es = map (λ e. e.addr) es

abbrev pub mark_column : List Flat → List ℕ
mark_column es = map (λ e. child_mark e.value) es

abbrev pub body_column : List Flat → List (List ℕ)
body_column es = map (λ e. e.body) es

-- the entries as they are read
abbrev pub reads : Entries → List Read
reads e = map unvalued (flat e)

pub reads-linear : (es : List Flat) → read_linear (mark_column es) (addr_column es) (body_column es) ≡ map unvalued es
reads-linear [] = refl
reads-linear (e ∷ es) =
    ap {B = List Read} (λ t. read (child_mark e.value == 1) e.addr e.body ∷ t) (reads-linear es) ∙ ap (λ t. t ∷ map unvalued es) (by_value e.value)
  where
    by_value : (w : Option ℕ) → read (child_mark w == 1) e.addr e.body ≡ read_kept w e.addr e.body
    by_value (Some v) = refl
    by_value None = refl

pub entries-bodies : (dims level least : ℕ) (es : List Flat) → AreRising dims level least es → AreBodies dims level (body_column es)
entries-bodies dims level least [] h = tt
entries-bodies dims level least (e ∷ es) h = (h.2, entries-bodies dims level (e.addr + 1) es h.3)

pub mark-small : (w : Option ℕ) → child_mark w ≤ 1
mark-small (Some v) = omega arith
mark-small None = omega arith

pub length-bodies : (es : List Flat) → length (body_column es) ≡ length es
length-bodies [] = refl
length-bodies (e ∷ es) = ap suc (length-bodies es)

abbrev marks : List Flat → List Field
marks es = map (λ e. field 1 (child_mark e.value)) es

abbrev addrs : ℕ → List Flat → List Field
addrs dims es = map (λ e. field dims e.addr) es

one-column : (w : ℕ) (f : Flat → ℕ) (es : List Flat) → (digits_of (map (λ e. field w (f e)) es) ≡ length es * w) ×
    (field_widths (map (λ e. field w (f e)) es) ≡ replicate (length es) w) × (numbers (map (λ e. field w (f e)) es) ≡ map f es)
one-column w f [] = (omega arith, refl, refl)
one-column w f (e ∷ es) =
    let h : (digits_of (map (λ e. field w (f e)) es) ≡ length es * w) ×
    (field_widths (map (λ e. field w (f e)) es) ≡ replicate (length es) w) ×
    (numbers (map (λ e. field w (f e)) es) ≡ map f es) = one-column w f es in
    (omega (arith, h.0), ap {B = List ℕ} (λ t. w ∷ t) h.1, ap {B = List ℕ} (λ t. f e ∷ t) h.2)

pub linear-digits : (dims level least : ℕ) (es : List Flat) → AreRising dims level least es →
    digits_of (linear_table dims level es) ≡ linear_digits dims level (length es)
linear-digits dims level least es h =
    let b : List Field = bodies level (body_column es) in
    let n : length (body_column es) * (dims * level) ≡ length es * (dims * level) = ap (λ t. t * (dims * level)) (length-bodies es) in
    omega (
      arith,
      digits_of-append (marks es ++ addrs dims es) b,
      digits_of-append (marks es) (addrs dims es),
      (one-column 1 (λ e. child_mark e.value) es).0,
      (one-column dims (λ e. e.addr) es).0,
      bodies-digits dims level (body_column es) (entries-bodies dims level least es h),
      n,
    )

pub linear-widths : (dims level least : ℕ) (es : List Flat) → AreRising dims level least es →
    field_widths (linear_table dims level es) ≡ replicate (length es) 1 ++ replicate (length es) dims ++
    replicate (length es * dims) level
linear-widths dims level least es h =
    let b : List Field = bodies level (body_column es) in
    field_widths-append (marks es ++ addrs dims es) b
    ∙ ap (λ t. t ++ field_widths b)
    (field_widths-append (marks es) (addrs dims es) ∙ ap (λ t. t ++ field_widths (addrs dims es))
    (one-column 1 (λ e. child_mark e.value) es).1 ∙ ap (λ t. replicate (length es) 1 ++ t)
    (one-column dims (λ e. e.addr) es).1)
    ∙ ap (λ t. replicate (length es) 1 ++ replicate (length es) dims ++ t)
    (bodies-widths dims level (body_column es) (entries-bodies dims level least es h) ∙
    ap (λ n. replicate (n * dims) level) (length-bodies es))

pub linear-numbers : (dims level : ℕ) (es : List Flat) → numbers (linear_table dims level es) ≡ mark_column es ++ addr_column es ++ concat_of (body_column es)
linear-numbers dims level es =
    let b : List Field = bodies level (body_column es) in
    numbers-append (marks es ++ addrs dims es) b
    ∙ ap (λ t. t ++ numbers b) (numbers-append (marks es) (addrs dims es) ∙ ap (λ t. t ++ numbers (addrs dims es))
    (one-column 1 (λ e. child_mark e.value) es).2 ∙ ap (λ t. mark_column es ++ t) (one-column dims (λ e. e.addr) es).2)
    ∙ ap (λ t. mark_column es ++ addr_column es ++ t) (bodies-numbers level (body_column es))

pub linear-fit : (dims level least : ℕ) (es : List Flat) → AreRising dims level least es → Fit (linear_table dims level es)
linear-fit dims level least es h =
    Fit-append (marks es ++ addrs dims es) (bodies level (body_column es))
    (Fit-append (marks es) (addrs dims es) (marks-fit es) (addrs-fit least es h))
    (bodies-fit dims level (body_column es) (entries-bodies dims level least es h))
  where
    marks-fit : (es : List Flat) → Fit (marks es)
    marks-fit [] = tt
    marks-fit (e ∷ es) = (omega (arith, mark-small e.value), marks-fit es)

    addrs-fit : (least : ℕ) (es : List Flat) → AreRising dims level least es → Fit (addrs dims es)
    addrs-fit least [] h = tt
    addrs-fit least (e ∷ es) h = (h.1, addrs-fit (e.addr + 1) es h.3)
