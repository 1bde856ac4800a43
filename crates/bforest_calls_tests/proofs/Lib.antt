pub mod Aliases
pub mod Counted
pub mod Determined
pub mod Exchange
pub mod Joined
pub mod Resembling
pub mod Sparing
