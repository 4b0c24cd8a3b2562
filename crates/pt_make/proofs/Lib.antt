pub mod Copies
pub mod NextParts
pub mod Parts
pub mod Pieces
pub mod Places
pub mod Standing
pub mod Tells
pub mod Texts
pub mod RootTurns
mod MakeRules
