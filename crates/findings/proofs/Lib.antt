pub mod Alike
pub mod Listing
pub mod Numbers
pub mod Paths
pub mod Small
