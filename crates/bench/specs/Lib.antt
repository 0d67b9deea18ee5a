pub mod Cases
pub mod Script
