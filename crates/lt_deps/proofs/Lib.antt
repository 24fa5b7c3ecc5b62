mod Rows
mod Notes
mod Least
