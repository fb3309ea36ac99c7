pub mod Standing
pub mod Stopped
pub mod Made
pub mod Looked
