mod CardWords
mod CardLines
mod Devices
