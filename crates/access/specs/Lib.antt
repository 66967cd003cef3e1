pub mod Answers
pub mod Access
pub mod Choices
pub mod AccessLaws
pub mod CorrectMemo
pub mod CorrectMemoLaws
