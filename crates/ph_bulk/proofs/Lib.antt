-- Lemmas on trees of many rows.
mod Chains
mod Codes
mod Flats
mod Sorted
mod Lasts
mod RecordNodes
mod NodeParts
mod Orders
mod Parted
mod Rises
mod Rooted
mod Rows
