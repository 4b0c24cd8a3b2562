pub mod Making
pub mod Root
