mod Places
mod Verdicts
