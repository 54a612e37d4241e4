-- What reads of a record tell of the entries of its node.
use Rattle.std.proofs.Common.{◌≡◌, ℕ, zero, suc, ◌+◌, ◌*◌, ◌/◌, ◌%◌, ◌^◌, ◌<◌, List, [], ◌∷◌, map, take, length, Bool}
use Rattle.std.proofs.Common.{true, false, refl, arith, ap, sym, ◌∙◌, get_or, subst, slice_index_or}
use Rattle.std.specs.Prelude.{Some, slice_get, position, nat_le}
use Rattle.std.specs.Option.{option_map, unwrap_or}
use Rattle.std.specs.List.{position_or_len}
use Rattle.std.proofs.lemmas.Option.{slice_get-get_or, slice_get-map}
use Rattle.ph_specs.specs.Node.{PlainNode}
use Rattle.ph_model.specs.EntryList.{value, node, listed, entries}
use Rattle.ph_model.specs.EntryEdits.{what_at}
use Rattle.ph_model.specs.Layout.{read_address, is_child}
use Rattle.ph_model.specs.NodeSize.{children_in, points_in}
use Rattle.ph_specs.specs.Pack.{pack}
use Rattle.ph_model.specs.PutTree.{body_above, body_below}
use Rattle.ph_specs.specs.Record.{Read, read_point, read_child, read, filled, unpacked, entries_in, values_in, first_in}
use Rattle.ph_bits.specs.Fields.{cut, digits_row}
use Rattle.ph_bits.specs.Packed.{rank_at, read_body}
use Rattle.ph_linear.proofs.Entries.{no_read}
use Rattle.ph_node.specs.Merge.{addr_at}
use Rattle.ph_node.specs.Places.{place_for}
use Rattle.ph_node.specs.Recorded.{IsLaidOut, IsRecorded}
use Rattle.ph_node.specs.Split.{body_at}
use Rattle.ph_node.specs.Spots.{IsSpot, IsSpotIn}
use Rattle.ph_node.specs.declared.spots.Spot.{Spot}
use Rattle.ph_node.proofs.Listings.{length_is, count_is, place_is, place_filled, point_is, child_is}
use Rattle.ph_node.proofs.Merges.{got}

parts : (r : Read) → r ≡ read (is_child r) (read_address r) (read_body r)
parts (read_point a b) = refl
parts (read_child a b) = refl

parts_filled : (es : List Read) (vs : List ℕ) (ns : List PlainNode) (i : ℕ) → children_in es ≡ length ns → points_in es ≡ length vs → i < length es
    → (addr_at (listed (filled es vs ns)) i ≡ read_address (get_or es i no_read)) × (body_at (listed (filled es vs ns)) i ≡ read_body (get_or es i no_read))
parts_filled [] vs ns i h k l = absurd (omega (arith, l))
parts_filled (read_point a b ∷ es) [] ns i h k l = absurd (omega (arith, k))
parts_filled (read_point a b ∷ es) (v ∷ vs) ns zero h k l = (refl, refl)
parts_filled (read_point a b ∷ es) (v ∷ vs) ns (suc i) h k l = parts_filled es vs ns i h (omega (arith, k)) (omega (arith, l))
parts_filled (read_child a b ∷ es) vs [] i h k l = absurd (omega (arith, h))
parts_filled (read_child a b ∷ es) vs (n ∷ ns) zero h k l = (refl, refl)
parts_filled (read_child a b ∷ es) vs (n ∷ ns) (suc i) h k l = parts_filled es vs ns i (omega (arith, h)) k (omega (arith, l))

-- a row of fields by its words, its place and its sizes
pub same-row : (us ws : List ℕ) (at l level n d : ℕ) (b : List ℕ) → us ≡ ws → l ≡ level → n ≡ d → digits_row ws at level d ≡ b → digits_row us at l n ≡ b
same-row us ws at l level n d b e f g h = ap (λ u. digits_row u at l n) e ∙ ap (λ x. digits_row ws at x n) f ∙ ap (digits_row ws at level) g ∙ h

-- the words and the dimensions may be those of a node by equations only
module _ (d e : ℕ) (ws us : List ℕ) (ns : List PlainNode) (t : PlainNode) (is : unpacked d ws ns ≡ t) (kept : IsRecorded d ws ns) (f : us ≡ ws) (g : e ≡ d) where
  same : entries_in e us ≡ entries_in d ws
  same = ap (λ u. entries_in e u) f ∙ ap (λ x. entries_in x ws) g

  pub place-there : (p : ℕ → Bool) → position (λ r. p (read_address r)) (entries_in e us) ≡ position (λ x. p x.addr) (entries t)
  place-there p = ap (λ rs. position (λ r. p (read_address r)) rs) same ∙ sym (place_is d ws ns t is kept p)

  pub front-there : (a : ℕ) → position_or_len (λ r. nat_le a (read_address r)) (entries_in e us) ≡ place_for a (entries t)
  front-there a =
      ap (λ rs. position_or_len (λ r. nat_le a (read_address r)) rs) same
      ∙ sym (place_filled (λ x. nat_le a x) (entries_in d ws) (values_in d ws) ns kept.packed.whole.0 kept.packed.whole.1)
      ∙ ap (λ (u : PlainNode). place_for a (entries u)) is

  -- a row of fields of the record that the node has
  pub row-there : (at : ℕ) (b : List ℕ) → digits_row us at (first_in us).level e ≡ b → digits_row (pack d t) at t.level d ≡ b
  row-there at b h =
      same-row (pack d t) us at t.level (first_in us).level d e b (sym (f ∙ kept.packed.packed ∙ ap (pack d) is))
      (sym (ap (λ u. (first_in u).level) f ∙ ap (λ (u : PlainNode). u.level) is)) (sym g) h

  pub within-there : (i : ℕ) → i < length (entries t) → i < (first_in us).entries
  within-there i l = subst (λ u. i < (first_in u).entries) (sym f) (subst (λ n. i < n) (count_is d ws ns t is kept) l)

  module _ (i : ℕ) (l : i < length (entries t)) where
    abbrev here : Read
    here = get_or (entries_in d ws) i no_read

    below : i < length (entries_in d ws)
    below = omega (arith, l, length_is d ws ns t is kept)

    is-here : slice_get (entries_in d ws) i ≡ Some (get_or (entries_in d ws) i no_read)
    is-here = slice_get-get_or (entries_in d ws) i no_read below

    addr-here : addr_at (entries t) i ≡ read_address (get_or (entries_in d ws) i no_read)
    addr-here =
        ap (λ (u : PlainNode). addr_at (entries u) i) (sym is) ∙ (parts_filled (entries_in d ws) (values_in d ws) ns i kept.packed.whole.0 kept.packed.whole.1 below).0

    body-here : body_at (entries t) i ≡ read_body (get_or (entries_in d ws) i no_read)
    body-here =
        ap (λ (u : PlainNode). body_at (entries u) i) (sym is) ∙ (parts_filled (entries_in d ws) (values_in d ws) ns i kept.packed.whole.0 kept.packed.whole.1 below).1

    pub address-is : slice_get (map read_address (entries_in e us)) i ≡ Some (addr_at (entries t) i)
    address-is =
        ap (λ rs. slice_get (map read_address rs) i) same ∙ slice_get-map read_address (entries_in d ws) i ∙
        ap (option_map read_address) is-here ∙ ap Some (sym addr-here)

    -- whether it is a child
    pub kind-here : slice_get (map is_child (entries_in e us)) i ≡ Some (is_child (get_or (entries_in d ws) i no_read))
    kind-here = ap (λ rs. slice_get (map is_child rs) i) same ∙ slice_get-map is_child (entries_in d ws) i ∙ ap (option_map is_child) is-here

    pub address-told : (a : ℕ) → slice_get (map read_address (entries_in e us)) i ≡ Some a → a ≡ addr_at (entries t) i
    address-told a h = ap (λ o. unwrap_or o 0) (sym h ∙ address-is)

    pub body-told : (b : List ℕ) → slice_get (map read_body (entries_in e us)) i ≡ Some b → b ≡ body_at (entries t) i
    body-told b h =
        ap (λ o. unwrap_or o []) (sym h ∙ ap (λ rs. slice_get (map read_body rs) i) same ∙
        slice_get-map read_body (entries_in d ws) i ∙ ap (option_map read_body) is-here) ∙ sym body-here

    kind-told : (c : Bool) → slice_get (map is_child (entries_in e us)) i ≡ Some c → is_child (get_or (entries_in d ws) i no_read) ≡ c
    kind-told c h =
        ap (λ o. unwrap_or o false) (sym
        (ap (λ rs. slice_get (map is_child rs) i) same ∙ slice_get-map is_child (entries_in d ws) i ∙
        ap (option_map is_child) is-here) ∙ h)

    whole-here : slice_get (entries_in d ws) i ≡
        Some (read (is_child (get_or (entries_in d ws) i no_read)) (read_address (get_or (entries_in d ws) i no_read))
        (read_body (get_or (entries_in d ws) i no_read)))
    whole-here = is-here ∙ ap Some (parts here)

    -- an entry that is read as a child, and one that is read as a point
    pub child-told : (c : Bool) (r : ℕ) → slice_get (map is_child (entries_in e us)) i ≡ Some c → c ≡ true → r ≡ rank_at c (entries_in e us) i
        → (r < length ns) × ((x : PlainNode) → x ≡ get_or ns r x → node x ≡ what_at (entries t) i)
    child-told c r h q s =
        let k : r ≡ children_in (take i (entries_in d ws)) = s ∙ ap (λ rs. rank_at c rs i) same ∙ ap (λ b. rank_at b (entries_in d ws) i) q in
        let p = λ (x : PlainNode). child_is d ws ns t is kept i l (is_child here) (read_address here) (read_body here) x (kind-told c h ∙ q) whole-here in
        (subst (λ m. m < length ns) (sym k) (p t).0, λ x n. sym (got (entries t) i _ ((p x).1 (subst (λ m. x ≡ get_or ns m x) k n))).2)

    pub point-told : (c : Bool) (r : ℕ) → slice_get (map is_child (entries_in e us)) i ≡ Some c → c ≡ false → r ≡ rank_at c (entries_in e us) i
        → (r < length (values_in e us)) × (value (slice_index_or (values_in e us) r 0) ≡ what_at (entries t) i)
    point-told c r h q s =
        let k : r ≡ points_in (take i (entries_in d ws)) = s ∙ ap (λ rs. rank_at c rs i) same ∙ ap (λ b. rank_at b (entries_in d ws) i) q in
        let v : values_in e us ≡ values_in d ws = ap (λ u. values_in e u) f ∙ ap (λ x. values_in x ws) g in
        let p = point_is d ws ns t is kept i l (is_child here) (read_address here) (read_body here) (kind-told c h ∙ q) whole-here in (
          subst (λ m. r < length m) (sym v) (subst (λ m. m < length (values_in d ws)) (sym k) p.0),
          ap (λ xs. value (slice_index_or xs r 0)) v ∙ ap (λ m. value (slice_index_or (values_in d ws) m 0)) k ∙ sym (got (entries t) i _ p.1).2,
        )

  -- an entry by its spot
  pub spot-there : (s : Spot) → IsSpot (entries t) s → slice_get (map read_address (entries_in e us)) s.place ≡ Some s.addr
  spot-there s h = address-is s.place h.within ∙ ap Some (sym h.address)

  pub spot-in : (s : Spot) → IsSpot (entries t) s → IsSpotIn e us s
  spot-in s h = record {
    laid = subst (λ n. IsLaidOut n us) (sym g) (subst (λ u. IsLaidOut d u) (sym f) kept.laid);
    within = within-there s.place h.within;
    address = spot-there s h;
  }

-- ---- bodies beside numbers

pub cut-above : (l low : ℕ) (xs : List ℕ) → map (cut l (low + 1)) xs ≡ body_above low (body_below l xs)
cut-above l low [] = refl
cut-above l low (x ∷ xs) = ap {B = List ℕ} (λ ys. x % 2 ^ l / 2 ^ (low + 1) * 2 ^ (low + 1) ∷ ys) (cut-above l low xs)
