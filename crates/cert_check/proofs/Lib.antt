pub mod AnswerLemmas
pub mod CellTests
pub mod CheckerLemmas
pub mod EnteringLemmas
pub mod HeadLemmas
pub mod JudgedLemmas
pub mod LargeTexts
pub mod PricedLemmas
pub mod RefusedLemmas
pub mod SharpChecks
pub mod StartLemmas
pub mod ToldEntries
pub mod ToldLists
pub mod NearLemmas
mod BoundLemmas
mod FirstLemmas
mod HeldLemmas
mod MenuLemmas
mod PlaceLemmas
mod SumLemmas
mod TruthLemmas
