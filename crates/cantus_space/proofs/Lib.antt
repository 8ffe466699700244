mod AheadLemmas
mod Children
mod LawfulLemmas
mod NodeLemmas
mod Trees
mod PoolSteps
mod RuleSets
pub mod PricedLemmas
pub mod BillLemmas
pub mod ChargeLemmas
