pub mod Agrees
pub mod EditAgrees
pub mod AskAgrees
pub mod FirstBook
pub mod Theorem
pub mod IndexAnew
pub mod CrownTable
