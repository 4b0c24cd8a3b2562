pub mod Alike
mod Beside
pub mod Compared
pub mod Contents
pub mod Described
pub mod Entering
pub mod Findings
pub mod Going
pub mod Listed
pub mod Made
pub mod Noted
pub mod OnWay
pub mod Opening
pub mod Passed
pub mod Reading
pub mod Roots
pub mod Single
pub mod Steps
pub mod Exact
mod Ways
