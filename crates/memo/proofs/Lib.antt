pub mod Places
pub mod InContext
mod Memos
mod Weighing
