-- What stands in the arrays of a caller, and that they are lent still.
use Rattle.std.specs.Prelude.{◌≡◌}
use Rattle.ph_c.specs.Nears.{LentHits, lent_hits}
use Rattle.ph_c.specs.Windows.{Lent, lent}
use Rattle.ph_c.specs.declared.arrays.HitArrays.{HitArrays}
use Rattle.ph_c.specs.declared.arrays.PageArrays.{PageArrays}

abbrev pub on_page : PageArrays → Lent
on_page a = lent a.points.now a.values.now a.count.now a.more.now

abbrev pub of_hits : HitArrays → LentHits
of_hits a = lent_hits a.points.now a.values.now a.distances.now a.count.now

pub record SamePage (a b : PageArrays) : Type 0 where
  pub points : b.points.ghost_name ≡ a.points.ghost_name
  pub values : b.values.ghost_name ≡ a.values.ghost_name
  pub count : b.count.ghost_name ≡ a.count.ghost_name
  pub more : b.more.ghost_name ≡ a.more.ghost_name

pub record SameHits (a b : HitArrays) : Type 0 where
  pub points : b.points.ghost_name ≡ a.points.ghost_name
  pub values : b.values.ghost_name ≡ a.values.ghost_name
  pub distances : b.distances.ghost_name ≡ a.distances.ghost_name
  pub count : b.count.ghost_name ≡ a.count.ghost_name
