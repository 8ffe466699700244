pub mod ChargeLaws
pub mod Charges
pub mod Fairness
pub mod Kept
pub mod Looked
pub mod PathLaws
pub mod PricedLaws
pub mod Strikes
