pub mod AfterRun
pub mod Telling
pub mod ToldObject
pub mod ToldSteps
pub mod Failing
pub mod Sound
mod Held
pub mod Layouts
pub mod Saying
mod Pacing
mod Following
mod AuditRules
pub mod Bounding
mod Fields
mod Files
pub mod Alone
pub mod Seen
pub mod Stepping
pub mod StepLeaves
pub mod StepRules
pub mod Twins
pub mod Working
pub mod StepPromises
pub mod Steps
mod SurveyRules
mod Stopping
pub mod ToldFront
