-- Lemmas of windows.
pub mod Seeks
mod Ahead
pub mod MaskDigits
pub mod Between
pub mod Areas
pub mod Starts
pub mod Marks
pub mod Rests
pub mod Resumes
pub mod Behinds
