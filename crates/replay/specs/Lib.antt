pub mod Replay
pub mod LoadLaws
pub mod AnswerLaws
pub mod BookCalls
pub mod Parts
pub mod CallValues
