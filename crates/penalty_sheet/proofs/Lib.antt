pub mod EntryLemmas
pub mod FoundLines
pub mod OrderLemmas
pub mod SheetLemmas
