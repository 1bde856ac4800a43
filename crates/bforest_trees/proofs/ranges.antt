-- Lemmas on ranges of a list, and on places within bounds.
pub mod Slices
pub mod Between
pub mod Limits
pub mod Lowering
pub mod Ranging
pub mod Beside
pub mod Narrowing
pub mod Outside
pub mod Parting
pub mod Splitting
pub mod Fronting
pub mod Counted
pub mod Thinning
pub mod Leafwise
