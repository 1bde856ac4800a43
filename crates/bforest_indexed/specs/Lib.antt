pub mod Edits
pub mod Handles
pub mod Indexed
pub mod Lending
pub mod Loads
pub mod Written
