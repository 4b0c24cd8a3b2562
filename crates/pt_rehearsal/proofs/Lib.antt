mod Changes
mod Divided
mod Fitted
mod Moves
mod Named
mod Packed
pub mod Staying
mod Steps
mod Walks
pub mod Moved
