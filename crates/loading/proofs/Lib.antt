mod KindOrder
mod Ends
pub mod HighestFormula
