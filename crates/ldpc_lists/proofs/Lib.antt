mod Loops
mod Stairs
mod Built
