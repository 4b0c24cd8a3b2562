pub mod WorkedFaults
pub mod WorkedObjects
pub mod WorkedRuns
pub mod WorkedStores
pub mod WorkedTurns
