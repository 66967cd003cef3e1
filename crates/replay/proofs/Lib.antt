pub mod ReplayLaws
pub mod PartLaws
pub mod Listed
pub mod Replaying
pub mod SameAnswers
