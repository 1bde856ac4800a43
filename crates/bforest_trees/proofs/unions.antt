-- Lemmas on two trees read side by side, on the union of two lists, and on what one keeps of the other.
pub mod Merging
pub mod New
pub mod Fewest
pub mod Fronts
pub mod Finding
pub mod Choosing
pub mod Valued
pub mod Uniting
pub mod Keeping
pub mod Restricting
pub mod Marks
pub mod Gathering
