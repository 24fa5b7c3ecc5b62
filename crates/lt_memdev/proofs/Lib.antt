mod Images
mod Kept
mod Numbers
mod Replays
