pub mod Counted
pub mod Determined
pub mod Exchange
pub mod Sparing
