pub mod Hold
pub mod Index
pub mod Answers
pub mod Width
pub mod Conforming
