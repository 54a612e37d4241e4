-- Where an entry stands that was found by its address.
use Rattle.std.proofs.Common.{◌≡◌, ◌+◌, ◌*◌, ◌<◌, ◌≤◌, ◌^◌, ℕ, zero, suc, sym, ◌∙◌, ap, subst, arith, length, map}
use Rattle.std.proofs.Common.{false, true, List, [], ◌∷◌, slice_index_or, get_or, Bool, refl, lt-ltb, le-ltb}
use Rattle.std.specs.Prelude.{Some, None, Option, ◌==◌, if◌then◌else◌, position, nat_lt, nat_le, cond, slice_get}
use Rattle.std.specs.Option.{option_map, unwrap_or}
use Rattle.std.proofs.lemmas.Option.{slice_get-map, slice_get-get_or}
use Rattle.std.specs.List.{AllByRecursion as Each, position_or_len}
use Rattle.ph_bits.specs.Fields.{ones_in}
use Rattle.ph_model.specs.Layout.{IsRecord, entries_as, read_address}
use Rattle.ph_model.proofs.lemmas.ReadColumns.{length-parts}
use Rattle.ph_cube.specs.Cube.{kinds, bodies}
use Rattle.ph_cube.specs.Stands.{StandsAt}
use Rattle.ph_cube.proofs.Columns.{length-kinds}
use Rattle.ph_cube.proofs.Places.{present, place-of, place-next, entry-at}
use Rattle.ph_cube.proofs.Ranks.{present-ones, kind-one, length-entries}
use Rattle.ph_linear.proofs.Entries.{no_read, address-read}
use Rattle.ph_specs.specs.Record.{first_in, read, read_cube}
use Rattle.std.proofs.lemmas.List.Quantifiers.{position-Some}

abbrev at : Option ℕ → ℕ
at (Some i) = suc i
at None = 0

told : (i j : ℕ) (o : Option ℕ) → o ≡ Some j → o ≡ Some i → j ≡ i
told i j o p q = let e : suc j ≡ suc i = ap at (sym p ∙ q) in omega (arith, e)

gone : (i : ℕ) (o : Option ℕ) → o ≡ None → o ≡ Some i → 1 ≤ 0
gone i o p q = let e : 0 ≡ suc i = ap at (sym p ∙ q) in omega (arith, e)

module _ (d : ℕ) (words : List ℕ) (a : ℕ) (l : a < 2 ^ d) where
  z : 0 + a ≡ a
  z = omega arith

  n : length (bodies d words) ≡ length (kinds d words)
  n = length-parts (2 ^ d) d _ ∙ sym (length-kinds d words)

  j : a < length (kinds d words)
  j = subst (λ t. a < t) (sym (length-kinds d words)) l

  -- an address without an entry, and one with an entry
  pub none-stands : (slice_index_or (kinds d words) a 0 == 0) ≡ true → position (λ r. read_address r == a) (entries_as true d words) ≡ None
  none-stands e =
      let p : position_or_len (λ r. read_address r == a) (entries_as true d words) ≡ length (entries_as true d words) =
      ap (λ t. position_or_len (λ r. read_address r == t) (entries_as true d words)) (sym z) ∙ place-of true 0 (kinds d words) (bodies d words) a n j e in
      ap (λ t. cond (nat_lt t (length (entries_as true d words))) (Some t) None) p
      ∙ ap (λ b. cond b (Some (length (entries_as true d words))) None) (le-ltb (length (entries_as true d words)) (length (entries_as true d words)) (omega arith))

  pub one-stands : (slice_index_or (kinds d words) a 0 == 0) ≡ false →
      position (λ r. read_address r == a) (entries_as true d words) ≡ Some (present (kinds d words) a)
  one-stands e =
      let k : ℕ = present (kinds d words) a in
      let p : position_or_len (λ r. read_address r == a) (entries_as true d words) ≡ k =
      ap (λ t. position_or_len (λ r. read_address r == t) (entries_as true d words)) (sym z) ∙ place-of false 0 (kinds d words) (bodies d words) a n j e in
      let m : k < length (entries_as true d words) = (entry-at 0 (kinds d words) (bodies d words) a n j e).0 in
      ap (λ t. cond (nat_lt t (length (entries_as true d words))) (Some t) None) p ∙ ap (λ b. cond b (Some k) None) (lt-ltb k (length (entries_as true d words)) m)

pub stands : (d : ℕ) (words : List ℕ) (a i : ℕ) → IsRecord true d words → Each (λ x. x < 2 ^ 64) words → a < 2 ^ d →
    position (λ r. read_address r == a) (entries_as true d words) ≡ Some i → StandsAt d words a i
stands d words a i r h l f = by (slice_index_or (kinds d words) a 0 == 0) refl
  where
    by : (t : Bool) → (slice_index_or (kinds d words) a 0 == 0) ≡ t → StandsAt d words a i
    by true e = absurd (omega (arith, gone i _ (none-stands d words a l e) f))
    by false e =
        let i : present (kinds d words) a ≡ i = told i (present (kinds d words) a) _ (one-stands d words a l e) f in
        let o : ones_in words (64 + a * 2) 2 ≡ 1 = kind-one d words a r h l ∙ ap (λ t. if t then 0 else 1) e in
        record {
          limit = l;
          place = present-ones d words a r h (omega (arith, l)) ∙ i;
          some = omega (arith, o);
        }

pub stands-within : (d : ℕ) (words : List ℕ) (a i : ℕ) → IsRecord true d words →
    position (λ r. read_address r == a) (entries_as true d words) ≡ Some i → i < (first_in words).entries
stands-within d words a i r f =
    subst (λ t. i < t) (length-entries d words r) (position-Some (λ r. read_address r == a) (entries_as true d words) i no_read f).0

-- ---- an entry whose place and address are known

-- the kind of the entry at a place
record Kind (a : ℕ) (ks : List ℕ) (i x : ℕ) : Type 0 where
  pub at_kind : ℕ
  pub there : x ≡ a + at_kind
  pub inside : at_kind < length ks
  pub kind : (slice_index_or ks at_kind 0 == 0) ≡ false
  pub front : present ks at_kind ≡ i

kind-of : (a : ℕ) (ks : List ℕ) (bs : List (List ℕ)) (i x : ℕ) → length bs ≡ length ks →
    i < length (read_cube a ks bs) → read_address (get_or (read_cube a ks bs) i no_read) ≡ x → Kind a ks i x
kind-of a [] bs i x e l f = absurd (omega (arith, l))
kind-of a (k ∷ ks) [] i x e l f = absurd (omega (arith, e))
kind-of a (k ∷ ks) (b ∷ bs) i x e l f = by (k == 0) refl (λ j m g. kind-of (a + 1) ks bs j x (omega (arith, e)) m g) i l f
  where
    more : (t : Bool) → (k == 0) ≡ t → (i n : ℕ) → Kind (a + 1) ks i x → (if t then 0 else 1) + i ≡ n → Kind a (k ∷ ks) n x
    more t q i n h m = record {
      at_kind = suc h.at_kind;
      there = omega (arith, h.there);
      inside = omega (arith, h.inside);
      kind = h.kind;
      front = ap (λ u. (if u then 0 else 1) + present ks h.at_kind) q ∙ ap (λ s. (if t then 0 else 1) + s) h.front ∙ m;
    }

    by : (t : Bool) → (k == 0) ≡ t →
        ((j : ℕ) → j < length (read_cube (a + 1) ks bs) → read_address (get_or (read_cube (a + 1) ks bs) j no_read) ≡
        x → Kind (a + 1) ks j x) → (i : ℕ) →
        i < length (if t then read_cube (a + 1) ks bs else read (k == 2) a b ∷ read_cube (a + 1) ks bs)
        → read_address (get_or (if t then read_cube (a + 1) ks bs else read (k == 2) a b ∷ read_cube (a + 1) ks bs) i no_read) ≡ x → Kind a (k ∷ ks) i x
    by true q ih i l f = more true q i i (ih i l f) (omega arith)
    by false q ih zero l f = record { at_kind = 0; there = sym f ∙ address-read (k == 2) a b ∙ omega arith; inside = omega arith; kind = q; front = refl }
    by false q ih (suc i) l f = more false q i (suc i) (ih i (omega (arith, l)) f) (omega arith)

pub stands-at : (d : ℕ) (words : List ℕ) (a i : ℕ) → IsRecord true d words → Each (λ x. x < 2 ^ 64) words →
    i < (first_in words).entries → slice_get (map read_address (entries_as true d words)) i ≡ Some a → StandsAt d words a i
stands-at d words a i r h l f =
    let rs = entries_as true d words in
    let m : i < length (entries_as true d words) = subst (λ t. i < t) (sym (length-entries d words r)) l in
    let g : read_address (get_or (entries_as true d words) i no_read) ≡ a =
    ap (λ o. unwrap_or o 0) (sym (slice_get-map read_address rs i ∙ ap (option_map read_address) (slice_get-get_or rs i no_read m)) ∙ f) in
    let k = kind-of 0 (kinds d words) (bodies d words) i a (length-parts (2 ^ d) d _ ∙ sym (length-kinds d words)) m g in
    let e : k.at_kind ≡ a = omega (arith, k.there) in
    let b : a < 2 ^ d = omega (arith, k.inside, length-kinds d words, e) in
    let o : ones_in words (64 + a * 2) 2 ≡ 1 = kind-one d words a r h b ∙
    ap (λ t. if t then 0 else 1) (ap (λ t. slice_index_or (kinds d words) t 0 == 0) (sym e) ∙ k.kind) in
    record {
      limit = b;
      place = present-ones d words a r h (omega (arith, b)) ∙ ap (present (kinds d words)) (sym e) ∙ k.front;
      some = omega (arith, o);
    }

-- the ones in front of an address are the entries in front of it
pub place : (d : ℕ) (words : List ℕ) (a i : ℕ) → IsRecord true d words → Each (λ x. x < 2 ^ 64) words → a < 2 ^ d →
    i ≡ ones_in words 64 (a * 2) → position_or_len (λ r. nat_le a (read_address r)) (entries_as true d words) ≡ i
place d words a i r h l e =
    let n : length (bodies d words) ≡ length (kinds d words) = length-parts (2 ^ d) d _ ∙ sym (length-kinds d words) in
    let z : 0 + a ≡ a = omega arith in
    ap (λ t. position_or_len (λ r. nat_le t (read_address r)) (entries_as true d words)) (sym z)
    ∙ place-next 0 (kinds d words) (bodies d words) a n (omega (arith, l, length-kinds d words))
    ∙ sym (present-ones d words a r h (omega (arith, l))) ∙ sym e
