pub mod Formula
pub mod FormulaLaws
pub mod Uses
pub mod FirstMeaning
pub mod SlotExamples
pub mod Evaluation
pub mod EvaluationLaws
pub mod Requests
