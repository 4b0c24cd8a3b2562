mod Appended
mod Grouped
mod Halving
mod Keys
mod Indexed
mod Inserting
mod Rowed
pub mod InventoryIsText
pub mod InventoryText
pub mod Noting
pub mod Texts
mod Trees
pub mod Ways
pub mod Making
pub mod MakingFiles
pub mod Staged
pub mod MakingObjects
pub mod ObjectScripts
pub mod RootScripts
mod DigestKeys
mod InOrder
mod HexOrder
mod HexLanes
mod Sorted
mod Entries
mod Documents
mod Puts
pub mod Stored
pub mod Manifests
pub mod Groups
pub mod VersionStates
pub mod Moved
pub mod RowFiles
pub mod Cores
