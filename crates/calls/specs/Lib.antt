pub mod Ranges
pub mod Switch
pub mod Phases
pub mod Keys
