pub mod MaskLaws
pub mod GuardLaws
pub mod Marking
mod Excluding
pub mod Asking
mod Leading
