-- The names of trees that contracts cite, passed on from one place.
pub use Rattle.ph_specs.specs.Node.{Flat, PlainNode, flat, nodes}
pub use Rattle.ph_specs.specs.Shape.{digits_below, digits_between, node_at, node_below, shape}
pub use Rattle.ph_specs.specs.TreeRows.{count, put_together, rows, rows_behind}
pub use Rattle.ph_specs.specs.DelTree.{same_digits}
