pub mod Remembering
pub mod Deciding
pub mod Going
