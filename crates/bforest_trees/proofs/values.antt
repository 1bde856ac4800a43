-- Lemmas on values that are replaced in their places, or lent.
pub mod Lent
pub mod Updating
