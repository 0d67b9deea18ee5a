-- What a reader concludes from each statement of this folder. Each conclusion is drawn from the statement alone and needs every part of it,
-- so from a statement with a part taken out or made weaker it does not follow. Modules are checked in the order of their names: these first.
pub mod Planner
pub mod Checker
pub mod Sleep
pub mod BringUp
pub mod Writer
pub mod Versions
pub mod Execution
