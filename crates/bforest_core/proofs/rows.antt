-- Lemmas on rows of nodes.
pub mod LevelRows
pub mod Zipper
pub mod Tops
pub mod Bounds
pub mod Counts
pub mod Shapes
