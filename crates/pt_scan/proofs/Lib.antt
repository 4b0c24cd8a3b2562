mod Blocks
pub mod FileTurns
pub mod HeldTurns
pub mod JoinedLength
pub mod Judged
pub mod Leaving
pub mod ObjectPaths
pub mod SiteTurns
pub mod ScanTurns
pub mod StoreTurns
mod ScanRules
