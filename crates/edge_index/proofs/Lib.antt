mod Tallies
mod Orders
mod Agreeing
mod Dealing
mod Halving
mod Placing
mod Counting
