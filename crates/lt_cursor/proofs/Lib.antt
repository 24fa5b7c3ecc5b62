pub mod Behind
mod Keys
mod Leading
mod Putting
mod Ranges
mod Sorting
mod Starting
