pub mod Readers
pub mod Verdicts
pub mod Front
