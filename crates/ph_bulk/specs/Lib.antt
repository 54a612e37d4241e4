-- What the contracts of `ph_bulk` cite.
pub mod Order
pub mod Parts
