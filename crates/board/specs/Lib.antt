pub mod Board
pub mod Run
pub mod Promise
pub mod Marks
pub mod Capture
pub mod FirstCycle
