mod Levels
mod Depths
