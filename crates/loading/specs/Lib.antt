pub mod Examples
pub mod Crown
