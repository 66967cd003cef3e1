mod EdgeRows
mod Columns
mod Answers
mod Fields
