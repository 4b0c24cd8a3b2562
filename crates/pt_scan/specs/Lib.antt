pub mod Blocks
pub mod Judging
pub mod Scanning
pub mod Store
pub mod Walking
