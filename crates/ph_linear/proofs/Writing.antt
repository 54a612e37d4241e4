-- The columns of a table, an entry more at a time.
use Rattle.std.proofs.Common.{slice_set, ◌≤◌, ◌≡◌, ℕ, zero, suc, ◌+◌, ◌*◌, ◌^◌, ◌<◌, ◌≤◌, refl, sym, ◌∙◌, ap, arith, List}
use Rattle.std.proofs.Common.{[], ◌∷◌, ◌++◌, length, map, take, Bool, true, false, get_or, length-append}
use Rattle.std.specs.Prelude.{Option, Some, None, slice_get, if◌then◌else◌}
use Rattle.std.specs.List.{AllByRecursion as Each}
use Rattle.std.proofs.lemmas.List.{map-append, get_or-map}
use Rattle.std.proofs.lemmas.Option.{get_or_from_slice_get}
use mir.Val.{bool_byte}
use Rattle.ph_specs.specs.Node.{Flat}
use Rattle.ph_model.specs.Lawful.{IsBody}
use Rattle.ph_specs.specs.Digits.{field, number_after, words_of}
use Rattle.ph_specs.specs.Pack.{child_mark, body_fields, bodies, children, values, value_in_front, linear_table, table, layout, first_word, record_in}
use Rattle.ph_specs.specs.Record.{Read, read_point, read_child, read}
use Rattle.ph_model.specs.Layout.{unvalued, read_kept, AreRising}
use Rattle.ph_model.proofs.lemmas.Columns.{number_after-append, AreBodies}
use Rattle.ph_model.proofs.lemmas.LayoutTables.{entries-few}
use Rattle.std.proofs.Math.Nat.{pow-le-pow_right}
use Rattle.ph_linear.specs.Written.{kind_fields, address_fields, body_list}

abbrev pub no_flat : Flat
no_flat = record { addr = 0; body = []; value = None }

-- ---- an entry as it is given

num : Read → ℕ
num (read_point a b) = 0
num (read_child a b) = 1

addr : Read → ℕ
addr (read_point a b) = a
addr (read_child a b) = a

body : Read → List ℕ
body (read_point a b) = b
body (read_child a b) = b

pub record Given (e : Flat) (t : Bool) (a : ℕ) (b : List ℕ) : Type 0 where
  pub same_addr : e.addr ≡ a
  pub same_body : e.body ≡ b
  pub same_kind : child_mark e.value ≡ (if t then 1 else 0)

parts-given : (w : Option ℕ) (x : ℕ) (y : List ℕ) (t : Bool) (a : ℕ) (b : List ℕ) → read_kept w x y ≡ read t a b →
    (x ≡ a) × (y ≡ b) × (child_mark w ≡ (if t then 1 else 0))
unfolding num addr body
parts-given (Some v) x y true a b e = absurd (let h : 0 ≡ 1 = ap num e in omega (arith, h))
parts-given (Some v) x y false a b e = (ap addr e, ap body e, refl)
parts-given None x y true a b e = (ap addr e, ap body e, refl)
parts-given None x y false a b e = absurd (let h : 1 ≡ 0 = ap num e in omega (arith, h))

pub given-of : (e : Flat) (t : Bool) (a : ℕ) (b : List ℕ) → unvalued e ≡ read t a b → Given e t a b
given-of e t a b f =
    let p = parts-given e.value e.addr e.body t a b f in record { same_addr = p.0; same_body = p.1; same_kind = p.2 }

pub read-at : (es : List Flat) (i : ℕ) (r : Read) → i < length es → slice_get (map unvalued es) i ≡ Some r → unvalued (get_or es i no_flat) ≡ r
read-at es i r l e = sym (get_or-map unvalued es i no_flat r l) ∙ get_or_from_slice_get (map unvalued es) i r r e

pub given : (es : List Flat) (i : ℕ) (t : Bool) (a : ℕ) (b : List ℕ) → i < length es →
    slice_get (map unvalued es) i ≡ Some (read t a b) → Given (get_or es i no_flat) t a b
given es i t a b l e = given-of (get_or es i no_flat) t a b (read-at es i (read t a b) l e)

pub rising-at : (dims level least : ℕ) (es : List Flat) (i : ℕ) → AreRising dims level least es → i < length es →
    ((get_or es i no_flat).addr < 2 ^ dims) × IsBody dims level (get_or es i no_flat).body
rising-at dims level least [] i h l = absurd (omega (arith, l))
rising-at dims level least (e ∷ es) zero h l = (h.1, h.2)
rising-at dims level least (e ∷ es) (suc i) h l = rising-at dims level (e.addr + 1) es i h.3 (omega (arith, l))

-- ---- one more

pub more : (es : List Flat) (i : ℕ) → i < length es → take (i + 1) es ≡ take i es ++ get_or es i no_flat ∷ []
more [] i l = absurd (omega (arith, l))
more (e ∷ es) zero l = refl
more (e ∷ es) (suc i) l =
    let k : suc i + 1 ≡ suc (i + 1) = omega arith in
    ap (λ t. take t (e ∷ es)) k ∙ ap {B = List Flat} (λ t. e ∷ t) (more es i (omega (arith, l)))

pub kinds-more : (r : ℕ) (es : List Flat) (i : ℕ) → i < length es →
    number_after r (kind_fields (take (i + 1) es)) ≡ number_after r (kind_fields (take i es)) * 2 ^ 1 + child_mark
    (get_or es i no_flat).value
kinds-more r es i l =
    ap (λ t. number_after r (kind_fields t)) (more es i l)
    ∙ ap (number_after r) (map-append (λ e. field 1 (child_mark e.value)) (take i es) (get_or es i no_flat ∷ []))
    ∙ number_after-append r (kind_fields (take i es)) _

pub addresses-more : (dims r : ℕ) (es : List Flat) (i : ℕ) → i < length es →
    number_after r (address_fields dims (take (i + 1) es)) ≡ number_after r (address_fields dims (take i es)) * 2 ^
    dims + (get_or es i no_flat).addr
addresses-more dims r es i l =
    ap (λ t. number_after r (address_fields dims t)) (more es i l)
    ∙ ap (number_after r) (map-append (λ e. field dims e.addr) (take i es) (get_or es i no_flat ∷ []))
    ∙ number_after-append r (address_fields dims (take i es)) _

bodies-last : (level r : ℕ) (es : List Flat) (e : Flat) → number_after r (bodies level (body_list (es ++ e ∷ []))) ≡
    number_after (number_after r (bodies level (body_list es))) (body_fields level e.body)
bodies-last level r [] e = number_after-append r (body_fields level e.body) []
bodies-last level r (x ∷ es) e =
    number_after-append r (body_fields level x.body) (bodies level (body_list (es ++ e ∷ [])))
    ∙ bodies-last level (number_after r (body_fields level x.body)) es e
    ∙ ap (λ t. number_after t (body_fields level e.body)) (sym (number_after-append r (body_fields level x.body) (bodies level (body_list es))))

pub bodies-more : (level r : ℕ) (es : List Flat) (i : ℕ) → i < length es →
    number_after r (bodies level (body_list (take (i + 1) es))) ≡
    number_after (number_after r (bodies level (body_list (take i es)))) (body_fields level (get_or es i no_flat).body)
bodies-more level r es i l =
    ap (λ t. number_after r (bodies level (body_list t))) (more es i l) ∙ bodies-last level r (take i es) (get_or es i no_flat)

-- bodies without digits
pub bodies-none : (dims r : ℕ) (bs : List (List ℕ)) → AreBodies dims 0 bs → number_after r (bodies 0 bs) ≡ r
bodies-none dims r [] h = refl
bodies-none dims r (b ∷ bs) h =
    number_after-append r (body_fields 0 b) (bodies 0 bs) ∙ ap (λ t. number_after t (bodies 0 bs)) (body-none r b h.0.1) ∙ bodies-none dims r bs h.1
  where
    body-none : (r : ℕ) (b : List ℕ) → Each (λ v. v < 2 ^ 0) b → number_after r (body_fields 0 b) ≡ r
    body-none r [] h = refl
    body-none r (v ∷ b) h = let z : r * 2 ^ 0 + v ≡ r = omega (arith, h.0) in body-none (r * 2 ^ 0 + v) b h.1 ∙ z

children-last : (es : List Flat) (e : Flat) → children (es ++ e ∷ []) ≡ children es + child_mark e.value
children-last [] e = omega arith
children-last (x ∷ es) e = omega (arith, children-last es e)

pub children-more : (es : List Flat) (i : ℕ) → i < length es → children (take (i + 1) es) ≡ children (take i es) + child_mark (get_or es i no_flat).value
children-more es i l = ap children (more es i l) ∙ children-last (take i es) (get_or es i no_flat)

values-last : (es : List Flat) (e : Flat) → values (es ++ e ∷ []) ≡ values es ++ value_in_front e.value []
values-last [] e = refl
values-last (x ∷ es) e = front x.value (values (es ++ e ∷ [])) (values es) (value_in_front e.value []) (values-last es e)
  where
    front : (w : Option ℕ) (xs ys zs : List ℕ) → xs ≡ ys ++ zs → value_in_front w xs ≡ value_in_front w ys ++ zs
    front (Some v) xs ys zs h = ap {B = List ℕ} (λ t. v ∷ t) h
    front None xs ys zs h = h

pub values-more : (es : List Flat) (i : ℕ) → i < length es → values (take (i + 1) es) ≡ values (take i es) ++ value_in_front (get_or es i no_flat).value []
values-more es i l = ap values (more es i l) ∙ values-last (take i es) (get_or es i no_flat)

pub values-front : (es : List Flat) (i : ℕ) → length (values (take i es)) ≤ length (values es)
values-front es zero = omega arith
values-front [] (suc i) = omega arith
values-front (x ∷ es) (suc i) = front x.value (values (take i es)) (values es) (values-front es i)
  where
    front : (w : Option ℕ) (xs ys : List ℕ) → length xs ≤ length ys → length (value_in_front w xs) ≤ length (value_in_front w ys)
    front (Some v) xs ys h = omega (arith, h)
    front None xs ys h = h

-- so that of the values before a point there is one less, at least
pub values-room : (es : List Flat) (i v : ℕ) → i < length es → (get_or es i no_flat).value ≡ Some v → length (values (take i es)) + 1 ≤ length (values es)
values-room es i v l e =
    let h : length (values (take (i + 1) es)) ≤ length (values es) = values-front es (i + 1) in
    let m : length (values (take (i + 1) es)) ≡ length (values (take i es) ++ v ∷ []) =
    ap length (values-more es i l ∙ ap (λ t. values (take i es) ++ value_in_front t []) e) in
    let a : length (values (take i es) ++ v ∷ []) ≡ length (values (take i es)) + 1 = length-append (values (take i es)) (v ∷ []) in
    omega (arith, h, m, a)

-- ---- an entry that was read, by its kind as a byte

pub byte : (t : Bool) → bool_byte t ≡ (if t then 1 else 0)
byte true = refl
byte false = refl

pub byte-few : (t : Bool) → bool_byte t ≤ 1
byte-few true = omega arith
byte-few false = omega arith

module _ (es : List Flat) (i : ℕ) (t : Bool) (a : ℕ) (b : List ℕ) (l : i < length es) (e : slice_get (map unvalued es) i ≡ Some (read t a b)) where
  mark-byte : child_mark (get_or es i no_flat).value ≡ bool_byte t
  mark-byte = (given es i t a b l e).same_kind ∙ sym (byte t)

  -- its field behind those of the kinds in front of it
  pub kind-put : (r n : ℕ) → n ≡ number_after r (kind_fields (take i es)) → n * 2 ^ 1 + bool_byte t ≡ number_after r (kind_fields (take (i + 1) es))
  kind-put r n h =
      ap (λ s. s * 2 ^ 1 + bool_byte t) h
      ∙ ap (λ s. number_after r (kind_fields (take i es)) * 2 ^ 1 + s) (sym mark-byte)
      ∙ sym (kinds-more r es i l)

  -- the children with it
  pub child-counted : (n : ℕ) → n ≡ children (take i es) → n + bool_byte t ≡ children (take (i + 1) es)
  child-counted n h = ap (λ s. s + bool_byte t) h ∙ ap (λ s. children (take i es) + s) (sym mark-byte) ∙ sym (children-more es i l)

-- a point has a value
pub value-of : (w : Option ℕ) → child_mark w ≡ 0 → (v : ℕ) × (w ≡ Some v)
value-of (Some v) e = (v, refl)
value-of None e = absurd (omega (arith, e))

pub no-value : (w : Option ℕ) → child_mark w ≡ 1 → value_in_front w [] ≡ []
no-value (Some v) e = absurd (omega (arith, e))
no-value None e = refl

-- ---- the whole

pub table-number : (dims level x : ℕ) (es : List Flat) →
    number_after (number_after (number_after x (kind_fields es)) (address_fields dims es))
    (bodies level (body_list es)) ≡ number_after x (linear_table dims level es)
table-number dims level x es =
    ap (λ t. number_after t (bodies level (body_list es))) (sym (number_after-append x (kind_fields es) (address_fields dims es)))
    ∙ sym (number_after-append x (kind_fields es ++ address_fields dims es) (bodies level (body_list es)))

-- so many entries fit a first word
pub few : (dims level : ℕ) (es : List Flat) → dims ≤ 16 → AreRising dims level 0 es → length es ≤ 2 ^ 16
few dims level es l h =
    let o : 0 < 2 = omega arith in
    let m : 2 ^ dims ≤ 2 ^ 16 = pow-le-pow_right o l in
    omega (arith, m, entries-few dims level 0 es (omega arith) h)

-- words that are begun by a place for the first word, then have a table and values, and then a first word
pub finished : (cube : Bool) (dims level : ℕ) (es : List Flat) (begun valued : List ℕ) (n kids w : ℕ) →
    begun ≡ 0 ∷ words_of (table cube dims level es) → valued ≡ begun ++ values es →
    w ≡ first_word level (layout cube) n kids → n ≡ length es → kids ≡ children es →
    slice_set valued 0 w ≡ record_in cube dims level es
finished cube dims level es begun valued n kids w b v f e k =
    ap (λ t. slice_set t 0 w) (v ∙ ap (λ t. t ++ values es) b)
    ∙ ap (λ t. t ∷ words_of (table cube dims level es) ++ values es)
    (f ∙ ap (λ t. first_word level (layout cube) t kids) e ∙ ap (λ t. first_word level (layout cube) (length es) t) k)
