-- Lemmas of the handle, of pages and of trees that are made.
mod Parts
mod Handles
mod Filling
mod Telling
mod Behind
mod Questions
mod Slices
mod Paired
mod Counted
