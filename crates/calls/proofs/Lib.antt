pub mod Inverse
pub mod OwnCall
pub mod Keys
pub mod Runs
pub mod Insertion
pub mod Sorting
