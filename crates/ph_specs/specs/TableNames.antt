-- The names of points and tables that contracts cite, passed on from one place.
pub use Rattle.ph_specs.specs.Coordinate.{IsBox, IsPoint, at_most, coordinate, digit, fits, greatest, half, high_corner, is_box, is_point, least, low_corner, offset}
pub use Rattle.ph_specs.specs.ZOrder.{address, before}
pub use Rattle.ph_specs.specs.Table.{IsTable, Row, del, find, is_rising, is_value, put, row}
pub use Rattle.ph_specs.specs.Window.{Cursor, is_between, rest, window}
pub use Rattle.ph_specs.specs.Boxes.{AreBoxes, IsWindowFor}
pub use Rattle.ph_specs.specs.Distance.{distance, near, within}
pub use Rattle.ph_specs.specs.Sets.{common, minus, paired, pairs, partners, put_all, table_of, union}
pub use Rattle.ph_specs.specs.Past.{Past, del_kept, keep, move_kept, put_kept, without_past}
