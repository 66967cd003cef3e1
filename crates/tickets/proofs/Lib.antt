pub mod TicketLaws
mod Places
mod Checking
