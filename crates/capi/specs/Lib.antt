pub mod Interface
pub mod Lent
pub mod LentLaws
pub mod EveryCall
