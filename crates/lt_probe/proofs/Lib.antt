mod Less
mod Places
mod Blocks
mod Stems
mod Keys
mod Tablets
mod Picking
mod Later
pub mod Range
mod Times
mod WholeStem
mod OneTablet
pub mod ManyTablets
