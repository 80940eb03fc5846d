mod Places
mod Defects
