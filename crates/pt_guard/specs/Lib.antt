pub mod Apart
pub mod Declaration
pub mod FilePlace
pub mod Guard
pub mod LockAttempt
pub mod Paths
pub mod PlaceCall
pub mod Wanting
