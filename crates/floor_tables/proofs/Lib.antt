pub mod FreeHolds
pub mod Grows
pub mod RestLemmas
pub mod SameMenus
