-- Calls of a predicate, and what stays of a list, as `bforest_trees` defines them.
pub use Rattle.bforest_trees.specs.Retain.{Answers, Asks, AsksEach, MayAsk, MayAskEach, Retains, kept_by, sizes_by}
