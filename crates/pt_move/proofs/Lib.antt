pub mod Answering
pub mod Bounding
pub mod Changes
pub mod Ending
pub mod Going
pub mod Keeping
pub mod LateLog
pub mod Leaves
pub mod Migrating
pub mod Needs
pub mod Outcomes
pub mod Standing
pub mod Staying
pub mod WholeLog
pub mod Ran
pub mod Told
pub mod Unmet
mod MoveRules
mod Holding
mod Rerun
