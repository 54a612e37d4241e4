-- Trees that there are.
use Rattle.std.specs.Prelude.{◌≡◌, ◌≤◌, ◌%◌}
use Rattle.ph_specs.specs.declared.Kind.TheVariants.{Boxes}
use Rattle.ph_snap.specs.declared.row_format.RowFormat.{RowFormat}

pub record IsRowFormat (f : RowFormat) : Type 0 where
  pub some : 1 ≤ f.dims
  pub few : f.dims ≤ 16
  pub narrow : 1 ≤ f.width
  pub wide : f.width ≤ 62
  pub even : f.kind ≡ Boxes → f.dims % 2 ≡ 0
