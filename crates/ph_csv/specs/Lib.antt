pub use Rattle.ph_specs.specs.Csv
pub mod Spelled
pub mod Faults
pub mod Left
pub mod LineText
