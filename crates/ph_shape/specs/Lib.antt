pub mod Bodies
pub mod View
pub mod Falls
pub mod Shown
pub mod Groups
pub mod Known
