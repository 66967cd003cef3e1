pub mod Steps
pub mod StepLaws
pub mod Directions
pub mod Passes
pub mod Places
