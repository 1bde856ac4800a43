pub mod Edges
pub mod Keeping
