pub mod Ahead
pub mod BadEntries
pub mod FilePaths
pub mod Findings
mod LastFrame
pub mod ObjectSteps
mod OneMore
pub mod Paths
mod Places
pub mod Reached
mod SiteName
pub mod SiteSteps
mod Standing
pub mod TrailSteps
