mod Sizes
mod Around
