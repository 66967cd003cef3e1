mod Numbers
pub mod RefusalSome
pub mod FoundLine
mod NextLaws
pub mod JudgedLine
