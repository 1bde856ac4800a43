pub mod Searched
pub mod Found
pub mod Ordered
pub mod Lookups
pub mod AfterCut
pub mod Seams
pub mod Rows
pub mod Shifted
pub mod Cuts
mod ArrayMemory
mod Prefixes
mod States
mod Shares
pub mod Scanned
pub mod Bounds
mod Halves
mod Puts
pub mod Filling
