pub mod Line
pub mod DigitTable
pub mod Number
pub mod Answers
pub mod Damage
pub mod Examples
