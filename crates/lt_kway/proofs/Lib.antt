mod Order
mod Ranked
mod Filled
