-- Two changes of one handle's tree in turn, and what a change leaves of another handle, as `bforest_trees` proves it.
pub use Rattle.bforest_trees.proofs.Becoming.{becomes-both, list-beside}
