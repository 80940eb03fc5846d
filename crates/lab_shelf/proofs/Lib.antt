pub mod EntryLists
mod Foreseen
