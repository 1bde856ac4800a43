-- Lemmas on the table of slots.
pub mod Lists
pub mod Chains
pub mod Pools
pub mod Allocating
pub mod Tables
pub mod Trading
pub mod Stored
pub mod Severing
pub mod Read
