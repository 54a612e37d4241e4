-- An entry that is read at a mark.
use Rattle.std.proofs.Common.{◌≡◌, ℕ, zero, suc, ◌+◌, ◌<◌, List, [], ◌∷◌, length, map, take, ap, sym, ◌∙◌, refl, arith, subst, Bool, true, false, not, get_or}
use Rattle.std.specs.Prelude.{Some, Option, slice_get, if◌then◌else◌}
use Rattle.std.specs.Option.{option_map, unwrap_or}
use Rattle.std.proofs.lemmas.Option.{slice_get-map, slice_get-get_or}
use Rattle.ph_model.specs.Layout.{read_address, is_child}
use Rattle.ph_model.specs.NodeSize.{points_in}
use Rattle.ph_specs.specs.Record.{Read, read_point, read_child, read}
use Rattle.ph_bits.specs.Packed.{read_body}
use Rattle.ph_linear.proofs.Entries.{no_read}

pub parts : (r : Read) → r ≡ read (is_child r) (read_address r) (read_body r)
parts (read_point a b) = refl
parts (read_child a b) = refl

-- an entry of which the kind, the address and the body are known
pub put-together : (rs : List Read) (i : ℕ) (t : Bool) (a : ℕ) (b : List ℕ) → i < length rs →
    slice_get (map is_child rs) i ≡ Some t → slice_get (map read_address rs) i ≡ Some a → slice_get (map read_body rs) i ≡ Some b →
    slice_get rs i ≡ Some (read t a b)
put-together rs i t a b l k e f =
    let r : Read = get_or rs i no_read in
    let g : slice_get rs i ≡ Some (get_or rs i no_read) = slice_get-get_or rs i no_read l in
    let k1 : is_child r ≡ t = ap (λ o. unwrap_or o false) (sym (slice_get-map is_child rs i ∙ ap (option_map is_child) g) ∙ k) in
    let e1 : read_address r ≡ a = ap (λ o. unwrap_or o 0) (sym (slice_get-map read_address rs i ∙ ap (option_map read_address) g) ∙ e) in
    let f1 : read_body r ≡ b = ap (λ o. unwrap_or o []) (sym (slice_get-map read_body rs i ∙ ap (option_map read_body) g) ∙ f) in
    g ∙ ap {B = Option Read} (λ x. Some x) (parts r ∙ ap (λ x. read x (read_address r) (read_body r)) k1
    ∙ ap (λ x. read t x (read_body r)) e1 ∙ ap (λ x. read t a x) f1)

-- the points up to an entry
pub points-next : (rs : List Read) (i : ℕ) (t : Bool) → slice_get (map is_child rs) i ≡ Some t →
    points_in (take (i + 1) rs) ≡ points_in (take i rs) + (if not t then 1 else 0)
points-next rs i t h =
    let e : suc i ≡ i + 1 = omega arith in
    subst (λ n. points_in (take n rs) ≡ points_in (take i rs) + (if not t then 1 else 0)) e (next rs i t h)
  where
    next : (rs : List Read) (i : ℕ) (t : Bool) → slice_get (map is_child rs) i ≡ Some t →
        points_in (take (suc i) rs) ≡ points_in (take i rs) + (if not t then 1 else 0)
    next [] zero t h = absurd (cc)
    next [] (suc i) t h = absurd (cc)
    next (read_point a b ∷ rs) zero true h = absurd (cc)
    next (read_point a b ∷ rs) zero false h = refl
    next (read_child a b ∷ rs) zero true h = refl
    next (read_child a b ∷ rs) zero false h = absurd (cc)
    next (read_point a b ∷ rs) (suc i) t h = omega (arith, next rs i t h)
    next (read_child a b ∷ rs) (suc i) t h = next rs i t h
