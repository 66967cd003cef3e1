pub mod Height
pub mod Loads
pub mod HeightLaws
pub mod LoadsLaws
pub mod Columns
