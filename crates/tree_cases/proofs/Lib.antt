pub mod Ordering
pub mod Walks
