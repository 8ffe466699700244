pub mod EventLemmas
pub mod FileLemmas
pub mod PartLemmas
pub mod QuantityLemmas
pub mod RowLemmas
pub mod TrackLemmas
