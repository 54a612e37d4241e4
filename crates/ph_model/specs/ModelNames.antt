-- The names of the model that contracts cite, passed on from one place.
pub use Rattle.ph_model.specs.Order.{IsRising}
pub use Rattle.ph_model.specs.AllPoints.{highest, lowest}
pub use Rattle.ph_model.specs.Nearness.{IsNearest}
pub use Rattle.ph_model.specs.Combined.{AreParted, chosen, seen_nodes}
pub use Rattle.ph_model.specs.EntryList.{child_nodes, entries, node, node_of, value}
pub use Rattle.ph_model.specs.Lawful.{HasZerosFrom, IsBody, IsLawful, IsLawfulEntry, IsLawfulFrom}
pub use Rattle.ph_model.specs.PutTree.{body_above, body_address, body_below, digits_from, find_node, find_tree, put_node, put_tree}
pub use Rattle.ph_model.specs.DelTree.{del_node, del_tree}
pub use Rattle.ph_model.specs.EntryEdits.{has_address, inserted, point_entry, what_at, with_child, with_what, without}
pub use Rattle.ph_model.specs.NodeCode.{coded_node}
pub use Rattle.ph_model.specs.NodeSize.{falls, node_size, nodes_in, points_in}
pub use Rattle.ph_model.specs.Digits.{digits_at}
pub use Rattle.ph_model.specs.Layout.{AreRising, IsRecord, entries_as, is_child, read_address, tables_as, unvalued}
pub use Rattle.ph_model.specs.Regions.{InBoth, gap}
pub use Rattle.ph_model.specs.Masks.{InPart, IsNextOf, fits_masks, fits_some, masks}
pub use Rattle.ph_model.specs.WindowWalk.{node_region}
