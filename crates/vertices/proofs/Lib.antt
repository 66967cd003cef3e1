pub mod VertexSets
pub mod OwnEdges
pub mod Marking
pub mod Halving
