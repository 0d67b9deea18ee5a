pub mod State
pub mod Ready
pub mod Needs
