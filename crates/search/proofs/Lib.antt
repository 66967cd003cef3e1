pub mod AnswerLaws
pub mod SearchLaws
-- Tests that decide a statement; what a set gives; its role principals; the steps of the search; where it may turn back.
mod Decide
mod Sums
mod Counts
mod Steps
mod Prunes
