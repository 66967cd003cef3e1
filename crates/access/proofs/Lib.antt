mod Choosing
mod Rounds
