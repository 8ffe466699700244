pub mod Cantus
pub mod ChargeLines
pub mod Charges
pub mod Lists
pub mod MarkLines
pub mod Marks
pub mod Setting
pub mod Unmarked
