pub mod NextLine
pub mod Judging
