mod Pieces
mod Puts
