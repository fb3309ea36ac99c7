mod Rounding
mod Closest
mod Nearness
mod Ratios
mod Sizes
