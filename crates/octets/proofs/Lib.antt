pub mod LineLaws
pub mod AnswerLaws
pub mod WritingLaws
pub mod NumberLaws
pub mod DamageLaws
mod Octet
mod Running
mod Sized
mod Written
