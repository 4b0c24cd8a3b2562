pub mod Asking
mod Failing
pub mod Together
pub mod Turns
pub mod Fronts
pub mod Whole
pub mod Words
pub mod Starts
mod StateRules
