-- The argument that closing a relation number by number closes it; stores in arrays of arrays; arrays that a function is handed.
pub mod ClosureFact
mod Closing
mod Square
mod Relating
mod ArraySquare
