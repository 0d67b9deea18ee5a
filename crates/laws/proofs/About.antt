-- What a reader concludes from each statement, and from nothing else: none of these proofs knows how a statement was proved.
pub mod Planner
pub mod Checker
pub mod Sleep
pub mod BringUp
pub mod Writer
pub mod Versions
pub mod Execution
