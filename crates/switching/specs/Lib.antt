pub mod Switching
pub mod Written
pub mod Decode
pub mod Phases
