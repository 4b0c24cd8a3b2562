pub mod EndLeft
pub mod EndStates
pub mod Ending
pub mod NewRun
pub mod Permitted
pub mod TurnEnds
pub mod TurnKeeps
