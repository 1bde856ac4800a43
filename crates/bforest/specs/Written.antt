-- Where the entry of a key lies, and what writing its value leaves, as `bforest_trees` defines it.
pub use Rattle.bforest_trees.specs.Written.{WritesFor, lies_at, with_value_for}
