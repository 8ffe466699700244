pub mod AskedLemmas
pub mod FilesLemmas
pub mod FormLemmas
pub mod SimpleForms
pub mod Taken
