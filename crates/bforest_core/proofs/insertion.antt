-- Lemmas on insertion.
pub mod Halving
pub mod Grow
pub mod Level
pub mod Nodes
pub mod HalvingNode
pub mod LeafSpot
pub mod Insertion
pub mod LeafPut
pub mod OnWay
