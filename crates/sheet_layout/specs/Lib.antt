pub mod Pages
pub mod Spacing
pub mod Heads
pub mod Notes
pub mod Shapes
