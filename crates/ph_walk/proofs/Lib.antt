-- Lemmas on walks.
pub mod Notes
pub mod Below
pub mod Outs
pub mod Steps
mod Goes
