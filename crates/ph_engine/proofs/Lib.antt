pub mod Cuts
pub mod Machines
pub mod Sums
pub mod Feeds
pub mod Scans
pub mod Runs
pub mod Answered
pub mod Known
pub mod Last
pub mod Defined
pub mod OwnDims
pub mod OwnHeaders
pub mod Checked
pub mod Soaks
pub mod Ends
mod Fields
