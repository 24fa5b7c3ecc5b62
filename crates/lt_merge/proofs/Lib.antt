mod Outputs
mod Whole
mod Writing
