-- How far an entry is from the center of a sphere, as the code tells it.
use Rattle.std.proofs.Common.{le-leb, ◌≡◌, ◌-◌, ◌<◌, ◌≤◌, List, ℕ, length, subst, sym, ◌∙◌, true}
use Rattle.ph_model.specs.EntryEdits.{what_at}
use Rattle.ph_model.specs.Lawful.{IsBody}
use Rattle.ph_specs.specs.Node.{PlainNode}
use Rattle.ph_model.specs.EntryList.{entries}
use Rattle.ph_specs.specs.Region.{least_distance}
use Rattle.ph_node.specs.Kinds.{is_node}
use Rattle.ph_node.specs.Split.{body_at}
use Rattle.ph_node.specs.Spots.{joined_digits}
use Rattle.ph_node.specs.declared.spots.Spot.{Spot}
use Rattle.ph_path.specs.Known.{point_at}
use Rattle.ph_near.specs.BallSphere.{Sphere, sphere_at, IsSphere, IsOut, reaches}
use Rattle.ph_near.specs.Far.{corner_of, entry_gap, gaps_squared}
use Rattle.ph_near.proofs.FarRegions.{gaps-corner, gaps-distance, child-gap, entry-distance}

-- the sphere's center and the digits at hand, each as it is kept and as it is read
module _ {d w r : ℕ} {near center known digits : List ℕ} {s : Sphere} (h : IsSphere d (sphere_at w center r)) (v : sphere_at w center r ≡ s)
    (e : near ≡ center) (f : known ≡ digits) (t : PlainNode) (spot : Spot) where
  -- an entry that is farther than the radius
  pub out-seen : r < entry_gap t.level (joined_digits t spot known) near (what_at (entries t) spot.place) →
      IsOut s t.level (joined_digits t spot digits) (what_at (entries t) spot.place)
  out-seen far =
      let what = what_at (entries t) spot.place in
      subst (λ (s : Sphere). IsOut s t.level (joined_digits t spot digits) what) v
      (subst (λ n. r < n) (entry-distance w t.level (joined_digits t spot digits) center what h.wide h.center.1)
      (subst (λ (xs : List ℕ). r < entry_gap t.level (joined_digits t spot xs) center what) f
      (subst (λ (xs : List ℕ). r < entry_gap t.level (joined_digits t spot known) xs what) e far)))

  -- the region of a child, at its node's level as the code has it
  module _ {b : ℕ} (level : b ≡ t.level) (body : IsBody d t.level (body_at (entries t) spot.place)) (long : length known ≡ d) where
    corner : 1 ≤ t.level → gaps_squared (t.level - 1) (corner_of t.level spot.addr known) near ≡
        gaps_squared (t.level - 1) (joined_digits t spot known) near
    corner some = gaps-corner t.level spot.addr known (body_at (entries t) spot.place) near some (body.0 ∙ sym long) body.1

    pub child-out : is_node (what_at (entries t) spot.place) ≡ true →
        (1 ≤ b) × (r < gaps_squared (b - 1) (corner_of b spot.addr known) near) →
        IsOut s t.level (joined_digits t spot digits) (what_at (entries t) spot.place)
    child-out is far =
        let beyond = subst (λ b. (1 ≤ b) × (r < gaps_squared (b - 1) (corner_of b spot.addr known) near)) level far in
        out-seen (child-gap r t.level (joined_digits t spot known) near (what_at (entries t) spot.place) is
        (subst (λ n. r < n) (corner beyond.0) beyond.1))

    pub child-reached : 1 ≤ t.level → gaps_squared (b - 1) (corner_of b spot.addr known) near ≤ r →
        reaches s (t.level - 1) (joined_digits t spot digits) ≡ true
    child-reached some close =
        let within = subst (λ b. gaps_squared (b - 1) (corner_of b spot.addr known) near ≤ r) level close in
        let gap = subst (λ n. n ≤ r) (corner some) within in
        subst (λ (s : Sphere). reaches s (t.level - 1) (joined_digits t spot digits) ≡ true) v
        (le-leb (least_distance w (record { corner = point_at w (joined_digits t spot digits); level = t.level - 1 }) (point_at w center)) r
        (subst (λ n. n ≤ r) (gaps-distance w (t.level - 1) (joined_digits t spot digits) center h.wide h.center.1)
        (subst (λ (xs : List ℕ). gaps_squared (t.level - 1) (joined_digits t spot xs) center ≤ r) f
        (subst (λ (xs : List ℕ). gaps_squared (t.level - 1) (joined_digits t spot known) xs ≤ r) e gap))))
