pub mod Bounds
pub mod HaltedBound
pub mod Rooms
pub mod TurnBound
pub mod WithinBound
