pub mod Firsts
pub mod Tests
pub mod Turning
pub mod Together
