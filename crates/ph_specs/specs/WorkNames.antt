-- The names of work, in nodes that are visited that contracts cite, passed on from one place.
pub use Rattle.ph_specs.specs.Region.{Region, is_in, least_distance, meets_window}
pub use Rattle.ph_specs.specs.WorkSets.{all_nodes, ball, join_visits, meets, partner_nodes, path, placed, reach, touch}
