-- What stands at the addresses, once what stands at one of them is replaced.
use Rattle.std.proofs.Common.{◌≡◌, ◌≢◌, ℕ, zero, suc, ◌+◌, ◌*◌, ◌<◌, ◌≤◌, refl, sym, ◌∙◌, ap, subst, arith, List, [], ◌∷◌, ◌++◌}
use Rattle.std.proofs.Common.{length, map, take, drop, replicate, Bool, true, false, not, cond, eq-eqb, ne_eqb}
use Rattle.std.specs.Prelude.{Option, Some, None, ◌==◌, nat_le, if◌then◌else◌}
use Rattle.std.specs.List.{AllByRecursion as Each, position_or_len}
use Rattle.std.proofs.lemmas.Bool.{leb-false, leb-true}
use Rattle.std.proofs.lemmas.List.{length-replicate}
use Rattle.ph_specs.specs.Digits.{digits_of}
use Rattle.ph_model.specs.Layout.{read_address}
use Rattle.ph_specs.specs.Node.{Flat}
use Rattle.ph_specs.specs.Pack.{at_address, places, place_kind, place_body, bodies, body_fields}
use Rattle.ph_specs.specs.Record.{Read, read_point, read_child, read, read_cube}
use Rattle.ph_model.proofs.lemmas.Columns.{digits_of-append}
use Rattle.ph_model.proofs.lemmas.Counted.{spots}
use Rattle.ph_specs.proofs.lemmas.Members.{Each-each}
use Rattle.ph_bits.specs.Edits.{flats}

-- ---- entries that rise

abbrev pub Rises : ℕ → List Flat → Type 0
Rises least [] = Unit {0}
Rises least (e ∷ es) = (least ≤ e.addr) × Rises (e.addr + 1) es

rises-all : (least : ℕ) (es : List Flat) → Rises least es → Each (λ (e : Flat). least ≤ e.addr) es
rises-all least [] h = tt
rises-all least (e ∷ es) h = (h.0, Each-each es (λ x l. omega (arith, l, h.0)) (rises-all (e.addr + 1) es h.1))

rises-lower : (a : ℕ) (es : List Flat) → Rises (a + 1) es → Rises a es
rises-lower a [] h = tt
rises-lower a (e ∷ es) h = (omega (arith, h.0), h.1)

pub rises-flats : (a : ℕ) (ks : List ℕ) (bs : List (List ℕ)) (vs : List ℕ) → Rises a (flats (read_cube a ks bs) vs)
rises-flats a [] bs vs = tt
rises-flats a (k ∷ ks) [] vs = tt
rises-flats a (k ∷ ks) (b ∷ bs) vs = by (k == 0) (k == 2) vs (λ us. rises-flats (a + 1) ks bs us)
  where
    by : (t u : Bool) (us : List ℕ) → ((us : List ℕ) → Rises (a + 1) (flats (read_cube (a + 1) ks bs) us)) →
        Rises a (flats (if t then read_cube (a + 1) ks bs else read u a b ∷ read_cube (a + 1) ks bs) us)
    by true u us i = rises-lower a _ (i us)
    by false true us i = (omega arith, i us)
    by false false [] i = tt
    by false false (x ∷ us) i = (omega arith, i us)

pub long-flats : (d a : ℕ) (ks : List ℕ) (bs : List (List ℕ)) (vs : List ℕ) → Each (λ b. length b ≡ d) bs →
    Each (λ (e : Flat). length e.body ≡ d) (flats (read_cube a ks bs) vs)
long-flats d a [] bs vs h = tt
long-flats d a (k ∷ ks) [] vs h = tt
long-flats d a (k ∷ ks) (b ∷ bs) vs h = by (k == 0) (k == 2) vs (λ us. long-flats d (a + 1) ks bs us h.1)
  where
    by : (t u : Bool) (us : List ℕ) →
        ((us : List ℕ) → Each (λ (e : Flat). length e.body ≡ d) (flats (read_cube (a + 1) ks bs) us)) →
        Each (λ (e : Flat). length e.body ≡ d)
        (flats (if t then read_cube (a + 1) ks bs else read u a b ∷ read_cube (a + 1) ks bs) us)
    by true u us i = i us
    by false true us i = (h.0, i us)
    by false false [] i = tt
    by false false (x ∷ us) i = (h.0, i us)

-- ---- in front of an address, at it, and behind it

abbrev pub below : ℕ → List Flat → ℕ
below x es = position_or_len (λ (e : Flat). nat_le x e.addr) es

pub below-flats : (x : ℕ) (rs : List Read) (vs : List ℕ) → spots rs ≡ length vs → below x (flats rs vs) ≡ position_or_len (λ r. nat_le x (read_address r)) rs
below-flats x [] vs h = refl
below-flats x (read_point a b ∷ rs) [] h = absurd (omega (arith, h))
below-flats x (read_point a b ∷ rs) (v ∷ vs) h = ap (λ t. cond (not (nat_le x a)) (1 + t) 0) (below-flats x rs vs (omega (arith, h)))
below-flats x (read_child a b ∷ rs) vs h = ap (λ t. cond (not (nat_le x a)) (1 + t) 0) (below-flats x rs vs h)

pub below-most : {A : Type 0} (p : A → Bool) (xs : List A) → position_or_len p xs ≤ length xs
below-most p [] = omega arith
below-most p (x ∷ xs) = by (p x) (below-most p xs)
  where
    by : (t : Bool) → position_or_len p xs ≤ length xs → cond (not t) (1 + position_or_len p xs) 0 ≤ suc (length xs)
    by true h = omega arith
    by false h = omega (arith, h)

front-below : (x : ℕ) (es : List Flat) → Each (λ (e : Flat). e.addr < x) (take (below x es) es)
front-below x [] = tt
front-below x (e ∷ es) = by (nat_le x e.addr) refl (front-below x es)
  where
    by : (t : Bool) → nat_le x e.addr ≡ t → Each (λ (e : Flat). e.addr < x) (take (below x es) es) →
        Each (λ (e : Flat). e.addr < x) (take (cond (not t) (1 + below x es) 0) (e ∷ es))
    by true q h = tt
    by false q h =
        let k : suc (below x es) ≡ 1 + below x es = omega arith in
        subst (λ t. Each (λ (e : Flat). e.addr < x) (take t (e ∷ es))) k (leb-false x e.addr q, h)

back-above : (x least : ℕ) (es : List Flat) → Rises least es → Each (λ (e : Flat). x ≤ e.addr) (drop (below x es) es)
back-above x least [] h = tt
back-above x least (e ∷ es) h = by (nat_le x e.addr) refl (back-above x (e.addr + 1) es h.1)
  where
    by : (t : Bool) → nat_le x e.addr ≡ t → Each (λ (e : Flat). x ≤ e.addr) (drop (below x es) es) →
        Each (λ (e : Flat). x ≤ e.addr) (drop (cond (not t) (1 + below x es) 0) (e ∷ es))
    by true q i = let l : x ≤ e.addr = leb-true x e.addr q in (l, Each-each es (λ y m. omega (arith, m, l)) (rises-all (e.addr + 1) es h.1))
    by false q i =
        let k : suc (below x es) ≡ 1 + below x es = omega arith in
        subst (λ t. Each (λ (e : Flat). x ≤ e.addr) (drop t (e ∷ es))) k i

each-inner : (P : Flat → Type 0) (p l : ℕ) (xs : List Flat) → Each P (take (p + l) xs) → Each P (take l (drop p xs))
each-inner P zero l xs h = let k : 0 + l ≡ l = omega arith in subst (λ t. Each P (take t xs)) k h
each-inner P (suc p) zero [] h = tt
each-inner P (suc p) (suc l) [] h = tt
each-inner P (suc p) l (x ∷ xs) h =
    let k : suc p + l ≡ suc (p + l) = omega arith in
    each-inner P p l xs (let g : Each P (take (suc (p + l)) (x ∷ xs)) = subst (λ t. Each P (take t (x ∷ xs))) k h in g.1)

-- ---- an address in lists one behind the other

at-none : (a : ℕ) (xs : List Flat) → Each (λ (e : Flat). e.addr ≢ a) xs → at_address a xs ≡ None
at-none a [] h = refl
at-none a (x ∷ xs) h = ap {B = Option Flat} (λ t. if t then Some x else at_address a xs) (ne_eqb x.addr a h.0) ∙ at-none a xs h.1

at-skip : (a : ℕ) (xs ys : List Flat) → Each (λ (e : Flat). e.addr ≢ a) xs → at_address a (xs ++ ys) ≡ at_address a ys
at-skip a [] ys h = refl
at-skip a (x ∷ xs) ys h = ap {B = Option Flat} (λ t. if t then Some x else at_address a (xs ++ ys)) (ne_eqb x.addr a h.0) ∙ at-skip a xs ys h.1

at-front : (a : ℕ) (xs ys zs : List Flat) → at_address a ys ≡ at_address a zs → at_address a (xs ++ ys) ≡ at_address a (xs ++ zs)
at-front a [] ys zs h = h
at-front a (x ∷ xs) ys zs h = ap {B = Option Flat} (λ t. if x.addr == a then Some x else t) (at-front a xs ys zs h)

-- ---- one address replaced

module _ (addr place less more least : ℕ) (x : Flat) (es : List Flat) (r : Rises least es) (p : place ≡ below addr es)
    (q : place + less ≡ below (addr + 1) es) (s : 0 < more → x.addr ≡ addr) where
  abbrev front : List Flat
  front = take place es

  abbrev gone : List Flat
  gone = take less (drop place es)

  abbrev back : List Flat
  back = drop (place + less) es

  front-other : Each (λ (e : Flat). e.addr ≢ addr) front
  front-other = Each-each front (λ e l z. omega (arith, l, z)) (subst (λ t. Each (λ (e : Flat). e.addr < addr) (take t es)) (sym p) (front-below addr es))

  back-other : Each (λ (e : Flat). e.addr ≢ addr) back
  back-other = Each-each back (λ e l z. omega (arith, l, z)) (subst (λ t. Each (λ (e : Flat). addr + 1 ≤ e.addr) (drop t es)) (sym q) (back-above (addr + 1) least es r))

  gone-low : Each (λ (e : Flat). e.addr < addr + 1) gone
  gone-low = each-inner (λ e. e.addr < addr + 1) place less es (subst (λ t. Each (λ (e : Flat). e.addr < addr + 1) (take t es)) (sym q) (front-below (addr + 1) es))

  each-take : (P : Flat → Type 0) (n : ℕ) (xs : List Flat) → Each P xs → Each P (take n xs)
  each-take P zero xs h = tt
  each-take P (suc n) [] h = tt
  each-take P (suc n) (y ∷ xs) h = (h.0, each-take P n xs h.1)

  gone-high : Each (λ (e : Flat). addr ≤ e.addr) gone
  gone-high = each-take (λ e. addr ≤ e.addr) less (drop place es) (subst (λ t. Each (λ (e : Flat). addr ≤ e.addr) (drop t es)) (sym p) (back-above addr least es r))

  gone-here : (a : ℕ) → a ≢ addr → (xs : List Flat) → Each (λ (e : Flat). e.addr < addr + 1) xs →
      Each (λ (e : Flat). addr ≤ e.addr) xs → Each (λ (e : Flat). e.addr ≢ a) xs
  gone-here a n [] h k = tt
  gone-here a n (y ∷ xs) h k = ((λ z. n (omega (arith, z, h.0, k.0))), gone-here a n xs h.1 k.1)

  new-here : (a m : ℕ) → a ≢ addr → (0 < m → x.addr ≡ addr) → Each (λ (e : Flat). e.addr ≢ a) (replicate m x)
  new-here a zero n t = tt
  new-here a (suc m) n t = let u : x.addr ≡ addr = t (omega arith) in ((λ z. n (omega (arith, z, u))), new-here a m n (λ l. u))

  -- the other addresses
  pub other : (a : ℕ) → a ≢ addr → at_address a (front ++ (gone ++ back)) ≡ at_address a (front ++ (replicate more x ++ back))
  other a n =
      at-front a front (gone ++ back) (replicate more x ++ back)
      (at-skip a gone back (gone-here a n gone gone-low gone-high) ∙ sym (at-skip a (replicate more x) back (new-here a more n s)))

  -- this one
  pub none-here : more ≡ 0 → at_address addr (front ++ (replicate more x ++ back)) ≡ None
  none-here z =
      ap (λ t. at_address addr (front ++ (replicate t x ++ back))) z ∙ at-skip addr front back front-other ∙ at-none addr back back-other

  pub new-there : 0 < more → at_address addr (front ++ (replicate more x ++ back)) ≡ Some x
  new-there l = at-skip addr front (replicate more x ++ back) front-other ∙ first more (s l) l
    where
      first : (m : ℕ) → x.addr ≡ addr → 0 < m → at_address addr (replicate m x ++ back) ≡ Some x
      first zero u l = absurd (omega (arith, l))
      first (suc m) u l = ap {B = Option Flat} (λ t. if t then Some x else at_address addr (replicate m x ++ back)) (eq-eqb x.addr addr u)

-- ---- places

pub places-split : (m k a : ℕ) (es : List Flat) → places (m + suc k) a es ≡ places m a es ++ (at_address (a + m) es ∷ places k (a + m + 1) es)
places-split zero k a es =
    let z : 0 + suc k ≡ suc k = omega arith in
    let y : a ≡ a + 0 = omega arith in
    ap (λ t. places t a es) z ∙ ap {B = List (Option Flat)} (λ t. at_address t es ∷ places k (t + 1) es) y
places-split (suc m) k a es =
    let z : suc m + suc k ≡ suc (m + suc k) = omega arith in
    let y : a + 1 + m ≡ a + suc m = omega arith in
    ap (λ t. places t a es) z
    ∙ ap {B = List (Option Flat)} (λ t. at_address a es ∷ t) (places-split m k (a + 1) es)
    ∙ ap {B = List (Option Flat)} (λ t. at_address a es ∷ (places m (a + 1) es ++ (at_address t es ∷ places k (t + 1) es))) y

pub places-same : (m a : ℕ) (es fs : List Flat) → ((b : ℕ) → a ≤ b → b < a + m → at_address b es ≡ at_address b fs) → places m a es ≡ places m a fs
places-same zero a es fs h = refl
places-same (suc m) a es fs h =
    ap {B = List (Option Flat)} (λ t. t ∷ places m (a + 1) es) (h a (omega arith) (omega arith))
    ∙ ap {B = List (Option Flat)} (λ t. at_address a fs ∷ t) (places-same m (a + 1) es fs (λ b l k. h b (omega (arith, l)) (omega (arith, k))))

pub length-places : (m a : ℕ) (es : List Flat) → length (places m a es) ≡ m
length-places zero a es = refl
length-places (suc m) a es = ap suc (length-places m (a + 1) es)

pub digits-kinds : (ps : List (Option Flat)) → digits_of (map place_kind ps) ≡ length ps * 2
digits-kinds [] = refl
digits-kinds (None ∷ ps) = omega (arith, digits-kinds ps)
digits-kinds (Some e ∷ ps) = omega (arith, digits-kinds ps)

long-at : (d a : ℕ) (es : List Flat) → Each (λ (e : Flat). length e.body ≡ d) es → length (place_body d (at_address a es)) ≡ d
long-at d a [] h = length-replicate d 0
long-at d a (e ∷ es) h = by (e.addr == a) (long-at d a es h.1)
  where
    by : (t : Bool) → length (place_body d (at_address a es)) ≡ d → length (place_body d (if t then Some e else at_address a es)) ≡ d
    by true i = h.0
    by false i = i

pub digits-bodies : (d level m a : ℕ) (es : List Flat) → Each (λ (e : Flat). length e.body ≡ d) es →
    digits_of (bodies level (map (place_body d) (places m a es))) ≡ m * (d * level)
digits-bodies d level zero a es h = omega arith
digits-bodies d level (suc m) a es h =
    let b : digits_of (body_fields level (place_body d (at_address a es))) ≡ d * level = body (place_body d (at_address a es)) ∙ ap (λ t. t * level) (long-at d a es h) in
    omega (
      arith,
      digits_of-append (body_fields level (place_body d (at_address a es)))
          (bodies level (map (place_body d) (places m (a + 1) es))),
      b,
      digits-bodies d level m (a + 1) es h,
    )
  where
    body : (b : List ℕ) → digits_of (body_fields level b) ≡ length b * level
    body [] = omega arith
    body (x ∷ b) = omega (arith, body b)
