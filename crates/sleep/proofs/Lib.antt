pub mod Choosing
pub mod Verdicts
