mod Pairs
mod Halving
