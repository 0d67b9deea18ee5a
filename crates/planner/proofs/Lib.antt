pub mod Room
pub mod Whole
pub mod OneMove
pub mod Turns
pub mod Choices
