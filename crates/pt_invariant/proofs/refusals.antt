pub mod BadTargets
pub mod EarlyHalts
pub mod GoodStarts
pub mod Reasons
pub mod Refusing
pub mod StagingFound
pub mod TargetFound
