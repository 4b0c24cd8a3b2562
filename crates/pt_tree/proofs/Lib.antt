pub mod Joining
pub mod Texts
pub mod AtPaths
pub mod Below
pub mod Canonical
pub mod Finding
pub mod Growing
pub mod Held
pub mod Leaving
pub mod Names
pub mod Paths
pub mod Cut
pub mod Placing
pub mod Proper
pub mod Renamed
pub mod Rising
pub mod Trees
pub mod Written
mod TreesWithout
pub mod Told
mod ToldWithout
