pub mod Counting
pub mod Fields
pub mod Lines
pub mod States
pub mod SourceFailures
pub mod Outside
pub mod Telling
pub mod Turns
