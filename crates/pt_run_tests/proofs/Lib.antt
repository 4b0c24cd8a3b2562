mod WorkedFaults
mod WorkedObjects
mod WorkedRuns
mod WorkedTurns
