-- Looking for the next entry that fits.
use Rattle.std.proofs.Common.{◌≡◌, ℕ, zero, suc, ◌+◌, ◌<◌, ◌≤◌, List, [], ◌∷◌, length, refl, sym, ◌∙◌, ap, subst, arith}
use Rattle.std.proofs.Common.{cond, Bool, true, false, leb-true, leb-false, ltb-false, get_or, inl, inr}
use Rattle.std.specs.Prelude.{Option, Some, None, MatchOption, nat_le, nat_lt, slice_get, position}
use Rattle.std.specs.List.{position_or_len}
use Rattle.std.proofs.lemmas.Bool.{cases_lt}
use Rattle.std.proofs.lemmas.Option.{slice_get_within, get_or_from_slice_get, slice_get-get_or}
use Rattle.std.proofs.lemmas.List.Quantifiers.{position-Some}
use Rattle.std.proofs.lemmas.List.Sums.{fails_before_first}
use Rattle.ph_model.specs.EntryEdits.{point_entry, what_at}
use Rattle.ph_specs.specs.Node.{PlainNode}
use Rattle.ph_model.specs.EntryList.{Entry, entries}
use Rattle.ph_model.specs.Masks.{fits_masks, IsNext, IsNextOf}
use Rattle.ph_model.proofs.laws.MaskBounds.{fits-between}
use Rattle.ph_node.specs.Split.{body_at}
use Rattle.ph_node.specs.Spots.{IsSpot}
use Rattle.ph_node.specs.declared.spots.Spot.{Spot}
use Rattle.ph_path.proofs.Paths.{read-entry}
use Rattle.ph_path.proofs.Rising.{Rising, lawful-rising}
use Rattle.ph_window.specs.Seek.{AreShut, IsPassed, IsNextEntry, CanSeek, IsSought}

-- ---- addresses rise

at-least : (least : ℕ) (es : List Entry) (j : ℕ) (f : Entry) → Rising least es → slice_get es j ≡ Some f → least ≤ f.addr
at-least least [] j f h g = absurd (let no : ◌≡◌ {A = Option Entry} None (Some f) = g in cc)
at-least least (e ∷ es) zero f h g = let s : e ≡ f = cc in subst (λ x. least ≤ x.addr) s h.0
at-least least (e ∷ es) (suc j) f h g = let l : e.addr + 1 ≤ f.addr = at-least (e.addr + 1) es j f h.1 g in omega (arith, l, h.0)

pub later : (least : ℕ) (es : List Entry) (i j : ℕ) (e f : Entry) → Rising least es → slice_get es i ≡ Some e → slice_get es j ≡ Some f → i < j → e.addr < f.addr
later least [] i j e f h g k l = absurd (let no : ◌≡◌ {A = Option Entry} None (Some e) = g in cc)
later least (x ∷ es) zero zero e f h g k l = absurd (omega (arith, l))
later least (x ∷ es) zero (suc j) e f h g k l =
    let s : x ≡ e = cc in
    let m : x.addr + 1 ≤ f.addr = at-least (x.addr + 1) es j f h.1 k in
    subst (λ y. y.addr < f.addr) s (let n : x.addr < f.addr = omega (arith, m) in n)
later least (x ∷ es) (suc i) zero e f h g k l = absurd (omega (arith, l))
later least (x ∷ es) (suc i) (suc j) e f h g k l = later (x.addr + 1) es i j e f h.1 g k (omega (arith, l))

-- ---- the first entry at or behind an address

abbrev pub no_entry : Entry
no_entry = point_entry 0 [] 0

entry-at : (es : List Entry) (j : ℕ) (e : Entry) → slice_get es j ≡ Some e → (j < length es) × (get_or es j no_entry ≡ e)
entry-at es j e g = (slice_get_within es j e g, get_or_from_slice_get es j e no_entry g)

pub before-position : (k : ℕ) (es : List Entry) (i : ℕ) → position (λ e. nat_le k e.addr) es ≡ Some i → (j : ℕ) (e : Entry) → j < i → slice_get es j ≡ Some e → e.addr < k
before-position k es i h j e l g =
    let f = (position-Some (λ e. nat_le k e.addr) es i no_entry h).2 j l in
    leb-false k e.addr (sym (ap (λ x. nat_le k x.addr) (entry-at es j e g).1) ∙ f)

none-behind : (p : Entry → Bool) (es : List Entry) → position p es ≡ None → length es ≤ position_or_len p es
none-behind p es h = by_test (nat_lt (position_or_len p es) (length es)) refl
  where
    by_test : (t : Bool) → nat_lt (position_or_len p es) (length es) ≡ t → length es ≤ position_or_len p es
    by_test true e =
        let no : ◌≡◌ {A = Option ℕ} (Some (position_or_len p es)) None = sym (ap {B = Option ℕ} (λ t. cond t (Some (position_or_len p es)) None) e) ∙ h in cc
    by_test false e = ltb-false (position_or_len p es) (length es) e

pub none-position : (k : ℕ) (es : List Entry) → position (λ e. nat_le k e.addr) es ≡ None → (j : ℕ) (e : Entry) → slice_get es j ≡ Some e → e.addr < k
none-position k es h j e g =
    let l : length es ≤ position_or_len (λ e. nat_le k e.addr) es = none-behind (λ e. nat_le k e.addr) es h in
    let m : j < position_or_len (λ e. nat_le k e.addr) es = omega (arith, l, (entry-at es j e g).0) in
    let f = fails_before_first (λ e. nat_le k e.addr) es j no_entry m in
    leb-false k e.addr (sym (ap (λ x. nat_le k x.addr) (entry-at es j e g).1) ∙ f)

pub at-position : (k : ℕ) (es : List Entry) (i : ℕ) → position (λ e. nat_le k e.addr) es ≡ Some i → (i < length es) × (k ≤ (get_or es i no_entry).addr)
at-position k es i h =
    let p = position-Some (λ e. nat_le k e.addr) es i no_entry h in
    (p.0, leb-true k (get_or es i no_entry).addr p.1)

-- ---- what is passed over

shut_if : (s : Bool) → (s ≡ true → ⊥) → s ≡ false
shut_if true n = absurd (n refl)
shut_if false n = refl

-- an entry that does not fit, and none fits from a place on up to it
pub record IsMissed (l u : ℕ) (es : List Entry) (p s : ℕ) (x : Entry) : Type 0 where
  pub rising : Rising 0 es
  pub entry : slice_get es s ≡ Some x
  pub bad : fits_masks x.addr l u ≡ false
  pub passed : IsPassed l u es p s

module _ {l u : ℕ} {es : List Entry} {p s : ℕ} {x : Entry} (k : IsMissed l u es p s x) where
  -- an entry that does not come before the one at hand, at an address below which nothing fits
  behind-shut : (b : ℕ) → ((a : ℕ) → x.addr < a → fits_masks a l u ≡ true → b ≤ a) → (j : ℕ) (e : Entry) → p ≤ j →
      slice_get es j ≡ Some e → e.addr < b → fits_masks e.addr l u ≡ false
  behind-shut b f j e q g h =
      elim (cases_lt j s) [
        | inl i ↦ k.passed.shut j e q i g
        | inr i ↦ elim (cases_lt s j) [
          | inl m ↦
              let v : x.addr < e.addr = later 0 es s j x e k.rising k.entry g m in
              shut_if (fits_masks e.addr l u) (λ t. let w : b ≤ e.addr = f e.addr v t in omega (arith, w, h))
          | inr m ↦
              let same : j ≡ s = omega (arith, i, m) in
              let o : ◌≡◌ {A = Option Entry} (Some e) (Some x) = sym g ∙ ap (slice_get es) same ∙ k.entry in
              let y : e ≡ x = cc in
              ap (λ z. fits_masks z.addr l u) y ∙ k.bad
        ]
      ]

  -- no greater address fits
  pub none-left : {o : Option ℕ} → IsNextOf x.addr l u o → o ≡ None → AreShut l u es p (length es)
  none-left n is j e q m g =
      let none : IsNextOf x.addr l u None = subst (IsNextOf x.addr l u) is n in
      behind-shut (suc e.addr) (λ a v t. absurd (none a v t)) j e q g (omega arith)

  -- the least greater address that fits
  module _ {o : Option ℕ} {next : ℕ} (n : IsNextOf x.addr l u o) (is : o ≡ Some next) where
    next-is : IsNext x.addr l u next
    next-is = subst (IsNextOf x.addr l u) is n

    pub above-it : x.addr < next
    above-it = next-is.later

    -- it is above all entries
    pub past-all : {f : Option ℕ} → f ≡ position (λ e. nat_le next e.addr) es → f ≡ None → AreShut l u es p (length es)
    past-all q none j e b m g = behind-shut next next-is.least j e b g (none-position next es (sym q ∙ none) j e g)

    -- up to the first entry at or above it nothing fits
    module _ {f : Option ℕ} {i : ℕ} (q : f ≡ position (λ e. nat_le next e.addr) es) (found : f ≡ Some i) where
      first : position (λ e. nat_le next e.addr) es ≡ Some i
      first = sym q ∙ found

      pub farther : s < i
      farther =
          let y : next ≤ (get_or es i no_entry).addr = (at-position next es i first).1 in
          let m : i < length es = (at-position next es i first).0 in
          let w : x.addr < next = next-is.later in
          elim (cases_lt s i) [
            | inl z ↦ z
            | inr z ↦ elim (cases_lt i s) [
              | inl b ↦
                  let v : (get_or es i no_entry).addr < x.addr = later 0 es i s (get_or es i no_entry) x k.rising (slice_get-get_or es i no_entry m) k.entry b in
                  absurd (omega (arith, y, v, w))
              | inr b ↦
                  let same : i ≡ s = omega (arith, z, b) in
                  let e : get_or es i no_entry ≡ x = ap (λ t. get_or es t no_entry) same ∙ get_or_from_slice_get es s x no_entry k.entry in
                  absurd (let a : (get_or es i no_entry).addr ≡ x.addr = ap (λ t. t.addr) e in omega (arith, y, a, w))
            ]
          ]

      pub passed-on : IsPassed l u es p i
      passed-on = record {
        behind = omega (arith, farther, k.passed.behind);
        shut = λ j e b m g. behind-shut next next-is.least j e b g (before-position next es i first j e m g);
      }

-- ---- as the code has it

-- the entry at a spot
abbrev pub spot_entry : List Entry → Spot → Entry
spot_entry es s = record { addr = s.addr; body = body_at es s.place; what = what_at es s.place }

pub missed : {d l u p s : ℕ} {n : PlainNode} {spot : Spot} {t : Bool} → CanSeek d l u n → IsPassed l u (entries n) p s → spot.place ≡ s →
    IsSpot (entries n) spot → t ≡ fits_masks spot.addr l u → t ≡ false → IsMissed l u (entries n) p s (spot_entry (entries n) spot)
missed {d = d} {n = n} {spot = spot} c passed at is f fails = record {
  rising = lawful-rising d n.level 0 n.chain c.lawful;
  entry = read-entry (entries n) spot at is refl;
  bad = sym f ∙ fails;
  passed = passed;
}

pub fitting : {l u p s : ℕ} {es : List Entry} {spot : Spot} {t : Bool} → IsPassed l u es p s → spot.place ≡ s → IsSpot es spot →
    t ≡ fits_masks spot.addr l u → t ≡ true → IsNextEntry l u es p spot.place
fitting {l = l} {u = u} {p = p} {es = es} {spot = spot} passed at is f fits = record {
  behind = omega (arith, at, passed.behind);
  entry = (spot_entry es spot, read-entry es spot refl is refl, sym f ∙ fits);
  shut = subst (AreShut l u es p) (sym at) passed.shut;
}

pub none-sought : {l u p : ℕ} {es : List Entry} → AreShut l u es p (length es) → IsSought l u es p None
none-sought shut = record { found = shut; spot = tt; room = tt }

-- behind the upper mask itself nothing fits
pub behind-upper : (l u : ℕ) (es : List Entry) → Rising 0 es → (s : ℕ) (x : Entry) → slice_get es s ≡ Some x →
    x.addr ≡ u → AreShut l u es (s + 1) (length es)
behind-upper l u es r s x at h j e q m g =
    let v : x.addr < e.addr = later 0 es s j x e r at g (omega (arith, q)) in
    shut_if (fits_masks e.addr l u) (λ t. let w : e.addr ≤ u = (fits-between e.addr l u t).1 in omega (arith, v, w, h))

-- ---- below the lower mask

below-lower : (l u : ℕ) (e : Entry) → e.addr < l → fits_masks e.addr l u ≡ false
below-lower l u e h =
    shut_if (fits_masks e.addr l u) (λ t. let w : l ≤ e.addr = (fits-between e.addr l u t).0 in omega (arith, w, h))

pub lower-passed : (l u : ℕ) (es : List Entry) (o : Option ℕ) → o ≡ position (λ e. nat_le l e.addr) es →
    MatchOption o (AreShut l u es 0 (length es)) (λ i. IsPassed l u es 0 i)
lower-passed l u es None p = λ j e q m g. below-lower l u e (none-position l es (sym p) j e g)
lower-passed l u es (Some i) p =
    record { behind = omega arith; shut = λ j e q m g. below-lower l u e (before-position l es i (sym p) j e m g) }
