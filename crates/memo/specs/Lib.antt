pub mod Memo
pub mod Walk
pub mod Lent
pub mod AllLaws
pub mod EvaluatedLaws
pub mod WalkLaws
pub mod StepLaws
