-- Entries outside of a ball.
use Rattle.std.proofs.Common.{◌≡◌, ℕ, ◌+◌, ◌-◌, ◌≤◌, List, length, refl, sym, subst, arith, true}
use Rattle.std.specs.Prelude.{Option, Some, None, MatchOption, slice_get}
use Rattle.std.proofs.lemmas.Bool.{lt-leb}
use Rattle.ph_specs.specs.Distance.{distance}
use Rattle.ph_model.specs.EntryEdits.{what_at}
use Rattle.ph_specs.specs.TreeRows.{put_together}
use Rattle.ph_model.specs.Lawful.{IsBody, IsLawfulEntry, IsLawfulFrom, IsLawfulWhat}
use Rattle.ph_specs.specs.Node.{PlainNode}
use Rattle.ph_model.specs.EntryList.{What, value, node, Entry, entries}
use Rattle.ph_model.specs.PutTree.{body_above}
use Rattle.ph_specs.specs.Region.{least_distance}
use Rattle.ph_model.proofs.laws.EntryLists.{entry-lawful}
use Rattle.ph_node.specs.Kinds.{is_node}
use Rattle.ph_node.specs.Split.{body_at}
use Rattle.ph_node.specs.Spots.{IsSpot, joined_digits}
use Rattle.ph_node.specs.declared.spots.Spot.{Spot}
use Rattle.ph_path.specs.Known.{point_at}
use Rattle.ph_path.proofs.Paths.{read-entry}
use Rattle.ph_walk.specs.Area.{Area, HoldsNone, MayHold, AreOut, IsNext}
use Rattle.ph_walk.proofs.Outs.{out-then, at-one, out-one}
use Rattle.ph_near.specs.BallSphere.{Sphere, center_of, points_of, reaches, IsOut}

holds-none : (s : Sphere) (level : ℕ) (joined : List ℕ) (o : What) → IsOut s level joined o → HoldsNone (points_of s) level joined o
holds-none s level joined (value v) out = lt-leb (distance (point_at s.width joined) (center_of s)) s.radius out
holds-none s level joined (node n) out = lt-leb (least_distance s.width (record { corner = point_at s.width joined; level = level - 1 }) (center_of s)) s.radius out

may-hold : (s : Sphere) (level : ℕ) (joined : List ℕ) (o : What) → ((n : PlainNode) → o ≡ node n → 1 ≤ level) →
    (is_node o ≡ true → 1 ≤ level → reaches s (level - 1) joined ≡ true) → MayHold (points_of s) level joined o
may-hold s level joined (value v) some near = tt
may-hold s level joined (node n) some near = near refl (some n refl)

module _ (s : Sphere) (level : ℕ) (above : List ℕ) (es : List Entry) (p i : ℕ)
    (h : AreOut (points_of s) level above es p i) (x : Entry) (at : slice_get es i ≡ Some x) where
  out-behind : IsOut s level (put_together level x.addr above x.body) x.what → AreOut (points_of s) level above es p (i + 1)
  out-behind out =
      out-then (points_of s) level above es p i (i + 1) h
      (out-one (points_of s) level above es i x at (holds-none s level (put_together level x.addr above x.body) x.what out))

  next-here : (d least : ℕ) (n : PlainNode) → es ≡ entries n → IsLawfulFrom d level least n.chain → p ≤ i →
      (is_node x.what ≡ true → 1 ≤ level → reaches s (level - 1) (put_together level x.addr above x.body) ≡ true) →
      IsNext (points_of s) level above es p i
  next-here d least n e lawful l near =
      let k : IsLawfulEntry d level x = entry-lawful d level least i n.chain x lawful (subst (λ es. slice_get es i ≡ Some x) e at) in
      record {
        behind = l;
        may = at-one es i x at (λ y. MayHold (points_of s) level (put_together level y.addr above y.body) y.what)
            (may-hold s level (put_together level x.addr above x.body) x.what (lower x.what k.held) near);
        out = h;
      }
    where
      lower : (o : What) → IsLawfulWhat d level x.body o → (m : PlainNode) → o ≡ node m → 1 ≤ level
      lower (value v) q m e = absurd cc
      lower (node n) q m e = omega (arith, q.0)

-- behind entries that are outside
pub found-on : (a : Area) (level : ℕ) (above : List ℕ) (es : List Entry) (p q : ℕ) → p ≤ q →
    AreOut a level above es p q → (o : Option Spot) →
    MatchOption o (AreOut a level above es q (length es)) (λ s. IsNext a level above es q s.place) →
    MatchOption o (AreOut a level above es p (length es)) (λ s. IsNext a level above es p s.place)
found-on a level above es p q l h None k = out-then a level above es p q (length es) h k
found-on a level above es p q l h (Some s) k = record { behind = omega (arith, l, k.behind); may = k.may; out = out-then a level above es p q s.place h k.out }

-- between a place and itself, or behind all
pub none-between : (a : Area) (level : ℕ) (above : List ℕ) (es : List Entry) (p q : ℕ) → q ≤ p → AreOut a level above es p q
none-between a level above es p q l j x r s g = absurd (omega (arith, l, r, s))

-- ---- an entry at a spot, as the code has it

pub spot-body : (d : ℕ) (n : PlainNode) (spot : Spot) → IsLawfulFrom d n.level 0 n.chain → IsSpot (entries n) spot → IsBody d n.level (body_at (entries n) spot.place)
spot-body d n spot lawful is = (entry-lawful d n.level 0 spot.place n.chain _ lawful (read-entry (entries n) spot refl is refl)).body

-- between a place and itself
pub out-none : (s : Sphere) (n : PlainNode) (digits : List ℕ) (p : ℕ) → AreOut (points_of s) n.level (body_above n.level digits) (entries n) p p
out-none s n digits p = none-between (points_of s) n.level (body_above n.level digits) (entries n) p p (omega arith)

module _ (s : Sphere) (n : PlainNode) (digits : List ℕ) (p : ℕ) {i : ℕ} {spot : Spot} (at : spot.place ≡ i) (is : IsSpot (entries n) spot)
    (out : AreOut (points_of s) n.level (body_above n.level digits) (entries n) p i) where
  -- it holds nothing of the ball
  pub out-on : IsOut s n.level (joined_digits n spot digits) (what_at (entries n) spot.place) →
      AreOut (points_of s) n.level (body_above n.level digits) (entries n) p (i + 1)
  out-on far = out-behind s n.level (body_above n.level digits) (entries n) p i out _ (read-entry (entries n) spot at is refl) far

  -- or it is the first that may
  pub next-at : (d : ℕ) → IsLawfulFrom d n.level 0 n.chain → p ≤ i →
      (is_node (what_at (entries n) spot.place) ≡ true → 1 ≤ n.level → reaches s (n.level - 1) (joined_digits n spot digits) ≡ true) →
      IsNext (points_of s) n.level (body_above n.level digits) (entries n) p spot.place
  next-at d lawful l near =
      subst (IsNext (points_of s) n.level (body_above n.level digits) (entries n) p) (sym at)
      (next-here s n.level (body_above n.level digits) (entries n) p i out _ (read-entry (entries n) spot at is refl) d 0 n refl lawful l near)
