pub mod OneLine
pub mod Bodies
pub mod Partway
pub mod Mapped
mod TakenLines
mod Heads
