pub mod Continuing
pub mod Keeping
pub mod Reading
