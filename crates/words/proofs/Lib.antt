pub mod Below
pub mod Put
pub mod Laws
pub mod Twice
pub mod Loops
