pub mod Find
pub mod Rules
pub mod Chain
pub mod Changes
