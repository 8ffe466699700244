pub mod Graphs
pub mod Numbers
pub mod Cases
pub mod Guides
pub mod Sharper
pub mod Laws
pub mod Sameness
pub mod Capped
