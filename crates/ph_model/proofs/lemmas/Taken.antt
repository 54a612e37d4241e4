-- Steps of the removal of a point: which entry is at it, and what a merged child holds.
use Rattle.std.proofs.Common.{◌≡◌, ℕ, ◌+◌, ◌*◌, ◌/◌, ◌%◌, ◌^◌, ◌<◌, ◌≤◌, refl, sym, ◌∙◌, ap, arith, List, [], ◌∷◌}
use Rattle.std.proofs.Common.{◌++◌, length, map, replicate, get_or, drop, true, false, Bool, cond}
use Rattle.std.specs.Prelude.{ℤ, Some, None}
use Rattle.std.specs.List.{AllByRecursion as Each, list_all}
use Rattle.std.proofs.Math.Nat.{div-eq_of_lt}
use Rattle.std.proofs.lemmas.Nat.{pow_pos}
use Rattle.std.proofs.lemmas.List.{append-nil}
use Rattle.std.proofs.lemmas.Bool.{and_parts}
use Rattle.ph_specs.specs.Coordinate.{coordinate, fits, same_point}
use Rattle.ph_specs.specs.ZOrder.{address}
use Rattle.ph_specs.specs.Table.{Row, row, find, del}
use Rattle.ph_specs.specs.Node.{Entries, end, point, child}
use Rattle.ph_specs.specs.Shape.{digits_below, digits_between}
use Rattle.ph_specs.specs.TreeRows.{put_together, rows_behind}
use Rattle.ph_model.specs.Lawful.{HasZerosFrom}
use Rattle.ph_specs.specs.DelTree.{merged_child}
use Rattle.ph_specs.proofs.laws.Order.{offset_small}
use Rattle.ph_model.proofs.laws.TableShape.{coordinate-offset}
use Rattle.ph_specs.proofs.lemmas.Places.{quotient}
use Rattle.ph_model.proofs.lemmas.Joined.{offsets, from_place, number_at, address_from-is, length-put_together}
use Rattle.ph_model.proofs.lemmas.Assembled.{cleared, between, put_together-digits, cleared-zero}
use Rattle.ph_model.proofs.lemmas.Shaped.{below-between, between-between}
use Rattle.ph_model.proofs.lemmas.Splits.{from-cleared}

-- ---- a row that goes from a part of the rows

abbrev pub IsElsewhere : List ℤ → Row → Type 0
IsElsewhere p r = same_point r.point p ≡ false

pub del-absent : (rs : List Row) (p : List ℤ) → Each (IsElsewhere p) rs → del rs p ≡ rs
del-absent [] p h = refl
del-absent (r ∷ rs) p h =
    ap (λ b. cond b rs (r ∷ del rs p)) h.0 ∙ ap {B = List Row} (λ t. r ∷ t) (del-absent rs p h.1)

-- where no row is found none goes
pub del-missing : (rs : List Row) (p : List ℤ) → find rs p ≡ None → del rs p ≡ rs
del-missing [] p h = refl
del-missing (r ∷ rs) p h = by_test (same_point r.point p) h (del-missing rs p)
  where
    by_test : (b : Bool) → cond b (Some r.value) (find rs p) ≡ None → (find rs p ≡ None → del rs p ≡ rs) → cond b rs (r ∷ del rs p) ≡ r ∷ rs
    by_test true h ih = cc
    by_test false h ih = ap {B = List Row} (λ t. r ∷ t) (ih h)

pub del-front : (xs ys : List Row) (p : List ℤ) → Each (IsElsewhere p) ys → del (xs ++ ys) p ≡ del xs p ++ ys
del-front [] ys p h = del-absent ys p h
del-front (x ∷ xs) ys p h = by_test (same_point x.point p) (del-front xs ys p h)
  where
    by_test : (b : Bool) → del (xs ++ ys) p ≡ del xs p ++ ys → cond b (xs ++ ys) (x ∷ del (xs ++ ys) p) ≡ cond b xs (x ∷ del xs p) ++ ys
    by_test true ih = refl
    by_test false ih = ap {B = List Row} (λ t. x ∷ t) ih

pub del-back : (xs ys : List Row) (p : List ℤ) → Each (IsElsewhere p) xs → del (xs ++ ys) p ≡ xs ++ del ys p
del-back [] ys p h = refl
del-back (x ∷ xs) ys p h =
    ap (λ b. cond b (xs ++ ys) (x ∷ del (xs ++ ys) p)) h.0 ∙ ap {B = List Row} (λ t. x ∷ t) (del-back xs ys p h.1)

-- ---- a merged child holds what the child held

pub twice : (b c a d : ℕ) (above body low : List ℕ) → length above ≡ length body →
    put_together b a above (put_together c d body low) ≡ put_together c d (put_together b a above body) low
twice b c a d [] body low h = refl
twice b c a d (x ∷ above) [] low h = absurd (omega (arith, h))
twice b c a d (x ∷ above) (y ∷ body) [] h = refl
twice b c a d (x ∷ above) (y ∷ body) (z ∷ low) h =
    let l : length above ≡ length body = omega (arith, h) in
    let m : length (put_together b a above body) ≡ length body = length-put_together b a above body l ∙ l in
    let s : x + a / 2 ^ length above % 2 * 2 ^ b + (y + d / 2 ^ length body % 2 * 2 ^ c + z) ≡
    (x + a / 2 ^ length above % 2 * 2 ^ b + y) + d / 2 ^ length body % 2 * 2 ^ c + z = omega arith in
    ap {B = List ℕ} (λ n. n ∷ put_together b a above (put_together c d body low)) s
    ∙ ap {B = List ℕ} (λ n. ((x + a / 2 ^ length above % 2 * 2 ^ b + y) + d / 2 ^ n % 2 * 2 ^ c + z) ∷ put_together b a above (put_together c d body low)) (sym m)
    ∙ ap {B = List ℕ} (λ t. ((x + a / 2 ^ length above % 2 * 2 ^ b + y) + d / 2 ^ length
    (put_together b a above body) % 2 * 2 ^ c + z) ∷ t) (twice b c a d above body low l)

pub rows-merged : (w b a c : ℕ) (above body : List ℕ) (chain rest : Entries) → length above ≡ length body →
    rows_behind w b above (merged_child a body c chain rest) ≡ rows_behind w c (put_together b a above body) chain ++
    rows_behind w b above rest
rows-merged w b a c above body end rest h = refl
rows-merged w b a c above body (point d low v end) rest h =
    ap {B = List Row} (λ t. row (map (coordinate w) t) v ∷ rows_behind w b above rest) (twice b c a d above body low h)
rows-merged w b a c above body (point d low v (point d' low' v' more)) rest h = refl
rows-merged w b a c above body (point d low v (child d' low' e' chain' more)) rest h = refl
rows-merged w b a c above body (child d low e chain end) rest h =
    ap {B = List Row} (λ t. rows_behind w e t chain ++ rows_behind w b above rest) (twice b c a d above body low h)
    ∙ ap {B = List Row} (λ t. t ++ rows_behind w b above rest) (sym (append-nil (rows_behind w e (put_together c d (put_together b a above body) low) chain)))
rows-merged w b a c above body (child d low e chain (point d' low' v' more)) rest h = refl
rows-merged w b a c above body (child d low e chain (child d' low' e' chain' more)) rest h = refl

-- ---- which entry is at a point

-- a list with the digits of another from a place on, of which the other has no digits below
cleared-known : (b : ℕ) (xs above : List ℕ) → from_place (b + 1) xs ≡ from_place (b + 1) above → HasZerosFrom b above → cleared (b + 1) xs ≡ above
cleared-known b [] [] e z = refl
cleared-known b [] (y ∷ above) e z = cc
cleared-known b (x ∷ xs) [] e z = cc
cleared-known b (x ∷ xs) (y ∷ above) e z =
    let h : x / 2 ^ (b + 1) ≡ y / 2 ^ (b + 1) = ap (λ t. get_or t 0 0) e in
    let q : y ≡ y / 2 ^ (b + 1) * 2 ^ (b + 1) = quotient y (2 ^ (b + 1)) z.0 in
    ap (λ t. t ∷ cleared (b + 1) xs) (ap (λ n. n * 2 ^ (b + 1)) h ∙ sym q) ∙ ap {B = List ℕ} (λ t. y ∷ t) (cleared-known b xs above (ap (drop 1) e) z.1)

-- the digits known above, the address at the level and the body below it make the point's digits, as far down as the body goes
made : (w b k a : ℕ) (above body : List ℕ) (p : List ℤ) → k ≤ b →
    from_place (b + 1) (offsets w p) ≡ from_place (b + 1) above → HasZerosFrom b above → address w p b ≡ a →
    between b k (offsets w p) ≡ body → put_together b a above body ≡ cleared k (offsets w p)
made w b k a above body p l u z e f =
    let xs : List ℕ = offsets w p in
    ap (λ t. put_together b t above body) (sym e ∙ address_from-is w 0 b p)
    ∙ ap (λ t. put_together b (number_at 0 b xs) t body) (sym (cleared-known b xs above u z))
    ∙ ap (λ t. put_together b (number_at 0 b xs) (cleared (b + 1) xs) t) (sym f)
    ∙ put_together-digits 0 b k xs l

pub point-there : (w b a : ℕ) (above body : List ℕ) (p : List ℤ) →
    from_place (b + 1) (offsets w p) ≡ from_place (b + 1) above → HasZerosFrom b above →
    map (coordinate w) (offsets w p) ≡ p → address w p b ≡ a → body ≡ digits_below w b p →
    map (coordinate w) (put_together b a above body) ≡ p
point-there w b a above body p u z back e f =
    let l : 0 ≤ b = omega arith in
    ap (map (coordinate w)) (made w b 0 a above body p l u z e (sym (below-between w b p) ∙ sym f) ∙ cleared-zero (offsets w p)) ∙ back

pub child-there : (w b c a : ℕ) (above body : List ℕ) (p : List ℤ) → c < b →
    from_place (b + 1) (offsets w p) ≡ from_place (b + 1) above → HasZerosFrom b above → address w p b ≡ a →
    body ≡ digits_between w b c p → from_place (c + 1) (offsets w p) ≡ from_place (c + 1) (put_together b a above body)
child-there w b c a above body p l u z e f =
    sym (from-cleared (c + 1) (offsets w p)) ∙
    ap (from_place (c + 1)) (sym (made w b (c + 1) a above body p (omega (arith, l)) u z e
    (sym (between-between w b c p) ∙ sym f)))

-- ---- a point

pub fits-back : (w : ℕ) (p : List ℤ) → list_all (fits w) p ≡ true → map (coordinate w) (offsets w p) ≡ p
fits-back w [] h = refl
fits-back w (c ∷ p) h =
    ap (λ t. t ∷ map (coordinate w) (offsets w p)) (coordinate-offset w c (and_parts _ _ h).0) ∙ ap {B = List ℤ} (λ t. c ∷ t) (fits-back w p (and_parts _ _ h).1)

-- above the highest place all digits are zeros
pub fits-above : (w : ℕ) (p : List ℤ) → 1 ≤ w → list_all (fits w) p ≡ true → from_place w (offsets w p) ≡ from_place w (replicate (length p) 0)
fits-above w [] l h = refl
fits-above w (c ∷ p) l h =
    ap (λ t. t ∷ from_place w (offsets w p))
    (div-eq_of_lt (offset_small w c l (and_parts _ _ h).0) ∙ sym (div-eq_of_lt (pow_pos w))) ∙
    ap {B = List ℕ} (λ t. 0 / 2 ^ w ∷ t) (fits-above w p l (and_parts _ _ h).1)
