mod Zero
mod Lines
mod Circles
mod Shifts
