-- The points between two corners, by offsets and as points.
use Rattle.std.proofs.Common.{◌≡◌, ℕ, ◌<◌, ◌≤◌, List, [], ◌∷◌, length, refl, sym, ◌∙◌, ap, subst, arith, Bool, true, false, ◌&&◌, leb-true, le-leb}
use Rattle.std.specs.Prelude.{nat_le}
use Rattle.ph_specs.specs.Coordinate.{IsPoint, at_most}
use Rattle.ph_specs.specs.TreeRows.{put_together}
use Rattle.ph_model.specs.Lawful.{IsBody}
use Rattle.ph_model.specs.Masks.{masks}
use Rattle.ph_model.specs.PutTree.{body_above}
use Rattle.ph_specs.specs.Window.{is_between}
use Rattle.ph_model.specs.WindowWalk.{node_region}
use Rattle.ph_model.proofs.laws.WindowWalk.{At}
use Rattle.ph_model.proofs.lemmas.Joined.{offsets, offsets-coordinate}
use Rattle.ph_model.proofs.lemmas.Bounds.{Below, small, small-fit, small-point, at_most-below, below-at_most, lows-small}
use Rattle.ph_specs.proofs.lemmas.Tests.{and-parts, and-made}
use Rattle.ph_zorder.specs.Sides.{side_masks}
use Rattle.ph_zorder.proofs.Sides.{masks-node}
use Rattle.ph_digits.proofs.Joins.{above-long}
use Rattle.ph_node.specs.Between.{each_between}
use Rattle.ph_path.specs.Known.{Known, point_at}
use Rattle.ph_path.proofs.Knowns.{above-is, wider, joined-body}
use Rattle.ph_window.specs.Corners.{Corners, AreCorners, corners_at}
use Rattle.ph_window.proofs.MaskDigits.{masks-above}

between-below : (los his ps : List ℕ) → length los ≡ length ps → length his ≡ length ps → each_between los his ps ≡ true → Below los ps × Below ps his
between-below [] [] [] e f h = (tt, tt)
between-below (a ∷ los) his [] e f h = absurd (omega (arith, e))
between-below los (b ∷ his) [] e f h = absurd (omega (arith, f))
between-below [] his (x ∷ ps) e f h = absurd (omega (arith, e))
between-below (a ∷ los) [] (x ∷ ps) e f h = absurd (omega (arith, f))
between-below (a ∷ los) (b ∷ his) (x ∷ ps) e f h =
    let p = and-parts (nat_le a x && nat_le x b) (each_between los his ps) h in
    let q = and-parts (nat_le a x) (nat_le x b) p.0 in
    let more : Below los ps × Below ps his = between-below los his ps (omega (arith, e)) (omega (arith, f)) p.1 in
    ((leb-true a x q.0, more.0), (leb-true x b q.1, more.1))

below-between : (los his ps : List ℕ) → Below los ps → Below ps his → each_between los his ps ≡ true
below-between [] his ps h k = refl
below-between (a ∷ los) [] ps h k = refl
below-between (a ∷ los) (b ∷ his) [] h k = refl
below-between (a ∷ los) (b ∷ his) (x ∷ ps) h k =
    and-made (nat_le a x && nat_le x b) (each_between los his ps)
    (and-made (nat_le a x) (nat_le x b) (le-leb a x h.0) (le-leb x b k.0)) (below-between los his ps h.1 k.1)

same-tests : (s t : Bool) → (s ≡ true → t ≡ true) → (t ≡ true → s ≡ true) → s ≡ t
same-tests true t f g = sym (f refl)
same-tests false true f g = g refl
same-tests false false f g = refl

module _ (w : ℕ) (l : 1 ≤ w) where
  at-most : (xs ys : List ℕ) → small w xs → small w ys → Below xs ys → at_most (point_at w xs) (point_at w ys) ≡ true
  at-most xs ys h k b =
      below-at_most w (point_at w xs) (point_at w ys) (small-fit w xs l h) (small-fit w ys l k)
      (subst (λ t. Below t (offsets w (point_at w ys))) (sym (offsets-coordinate w xs))
      (subst (Below xs) (sym (offsets-coordinate w ys)) b))

  below-most : (xs ys : List ℕ) → small w xs → small w ys → at_most (point_at w xs) (point_at w ys) ≡ true → Below xs ys
  below-most xs ys h k b =
      subst (λ t. Below t ys) (offsets-coordinate w xs)
      (subst (Below (offsets w (point_at w xs))) (offsets-coordinate w ys)
      (at_most-below w (point_at w xs) (point_at w ys) (small-fit w xs l h) (small-fit w ys l k) b))

pub low-point : {d : ℕ} {c : Corners} → AreCorners d c → IsPoint c.width d (point_at c.width c.low)
low-point {d} {c} h = small-point c.width d c.low h.wide h.starts.0 h.starts.1

pub high-point : {d : ℕ} {c : Corners} → AreCorners d c → IsPoint c.width d (point_at c.width c.high)
high-point {d} {c} h = small-point c.width d c.high h.wide h.ends.0 h.ends.1

module _ {d : ℕ} {c : Corners} (h : AreCorners d c) (ks : List ℕ) (k : IsBody d c.width ks) where
  between-is : each_between c.low c.high ks ≡ is_between (point_at c.width c.low) (point_at c.width c.high) (point_at c.width ks)
  between-is =
      let w = c.width in
      same-tests (each_between c.low c.high ks) (is_between (point_at w c.low) (point_at w c.high) (point_at w ks))
      (λ t. let s : Below c.low ks × Below ks c.high = between-below c.low c.high ks (h.starts.0 ∙ sym k.0) (h.ends.0 ∙ sym k.0) t in
      and-made (at_most (point_at w c.low) (point_at w ks)) (at_most (point_at w ks) (point_at w c.high))
      (at-most w h.wide c.low ks h.starts.1 k.1 s.0) (at-most w h.wide ks c.high k.1 h.ends.1 s.1))
      (λ t. let s = and-parts (at_most (point_at w c.low) (point_at w ks)) (at_most (point_at w ks) (point_at w c.high)) t in
      below-between c.low c.high ks (below-most w h.wide c.low ks h.starts.1 k.1 s.0) (below-most w h.wide ks c.high k.1 h.ends.1 s.1))

  masks-are : (level : ℕ) → level < c.width →
      side_masks level ks c.low c.high ≡ masks c.width (node_region c.width level (body_above level ks))
      (point_at c.width c.low) (point_at c.width c.high)
  masks-are level l =
      sym (masks-above level ks c.low c.high)
      ∙ masks-node c.width d level (body_above level ks) c.low c.high l (above-long level ks ∙ k.0) h.starts.0
      h.ends.0 (lows-small c.width level ks k.1) h.starts.1 h.ends.1

  -- the window in a node
  pub at : (level : ℕ) → level < c.width → At c.width d level (body_above level ks) (point_at c.width c.low) (point_at c.width c.high)
  at level l =
      record { within = l; known = above-is d level ks k.0; room = lows-small c.width level ks k.1; low = low-point h; high = high-point h }

-- ---- as the code keeps them, with the digits that are known

module _ {d w : ℕ} {los his ks : List ℕ} {known : Known} {seen : Corners} (h : AreCorners d (corners_at w los his))
    (v : corners_at w los his ≡ seen) (same : known.width ≡ seen.width) (b : IsBody d known.width ks)
    (s : ks ≡ known.digits) where
  corners : AreCorners d seen
  corners = subst (AreCorners d) v h

  digits : IsBody d seen.width known.digits
  digits = subst (λ n. IsBody d n known.digits) same (subst (IsBody d known.width) s b)

  pub at-seen : (level : ℕ) → level < known.width → At seen.width d level (body_above level known.digits) (point_at seen.width seen.low) (point_at seen.width seen.high)
  at-seen level l = at corners known.digits digits level (omega (arith, l, same))

  pub body-seen : IsBody d 62 ks
  body-seen = wider d known.width 62 ks (omega (arith, same, corners.narrow)) b

  module _ {xs ys : List ℕ} (e : xs ≡ los) (f : ys ≡ his) where
    pub inside-seen : each_between xs ys ks ≡ is_between (point_at seen.width seen.low) (point_at seen.width seen.high) (point_at known.width known.digits)
    inside-seen =
        (λ i. each_between (e i) (f i) (s i)) ∙ ap (λ (c : Corners). each_between c.low c.high known.digits) v
        ∙ between-is corners known.digits digits
        ∙ ap (λ w. is_between (point_at seen.width seen.low) (point_at seen.width seen.high) (point_at w known.digits)) (sym same)

    -- the digits at hand with those of an entry behind them
    pub entry-seen : (level a : ℕ) (body : List ℕ) → level < known.width → IsBody d level body →
        each_between xs ys (put_together level a (body_above level ks) body) ≡
        is_between (point_at seen.width seen.low) (point_at seen.width seen.high)
        (point_at seen.width (put_together level a (body_above level known.digits) body))
    entry-seen level a body l k =
        (λ i. each_between (e i) (f i) (put_together level a (body_above level (s i)) body))
        ∙ ap (λ (c : Corners). each_between c.low c.high (put_together level a (body_above level known.digits) body)) v
        ∙ between-is corners (put_together level a (body_above level known.digits) body)
        (joined-body d seen.width level a known.digits body (omega (arith, l, same)) digits k)

    pub masks-seen : (level : ℕ) → level < known.width →
        side_masks level ks xs ys ≡ masks seen.width (node_region seen.width level (body_above level known.digits))
        (point_at seen.width seen.low) (point_at seen.width seen.high)
    masks-seen level l =
        (λ i. side_masks level (s i) (e i) (f i)) ∙ ap (λ (c : Corners). side_masks level known.digits c.low c.high) v
        ∙ masks-are corners known.digits digits level (omega (arith, l, same))
