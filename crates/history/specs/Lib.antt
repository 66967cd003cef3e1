pub mod Book
pub mod Demand3
pub mod IndexAnew
pub mod CrownTable
