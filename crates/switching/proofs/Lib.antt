pub mod Made
pub mod Answered
pub mod Run
pub mod Switched
pub mod Phase
pub mod Walks
pub mod Long
pub mod Short
