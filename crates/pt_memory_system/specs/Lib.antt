pub mod Folders
pub mod Keeping
pub mod System
