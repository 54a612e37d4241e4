mod EntryComparisons
mod Written
