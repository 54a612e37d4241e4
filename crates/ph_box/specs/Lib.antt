-- What the contracts of `ph_box` cite.
pub mod Questions
