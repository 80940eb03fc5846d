mod Feeding
mod Inputs
mod Long
mod Plugging
mod Reading
mod Sounds
