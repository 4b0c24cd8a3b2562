pub mod Building
pub mod Complete
pub mod IdentifierLines
pub mod NameLists
pub mod Naming
mod Parsed
pub mod PartsThere
pub mod Passing
pub mod Present
pub mod Reading
pub mod SoFar
pub mod Stopping
