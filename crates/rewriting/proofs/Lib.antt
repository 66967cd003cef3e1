pub mod Digits
pub mod Printed
