mod Blocks
mod Templates
