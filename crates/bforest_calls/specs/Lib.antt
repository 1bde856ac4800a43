pub mod Alone
pub mod Beside
pub mod Compared
pub mod Looks
pub mod Machine
pub mod Spared
pub mod State
pub mod Steps
