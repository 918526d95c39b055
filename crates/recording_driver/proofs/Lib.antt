mod Blocks
mod Kept
mod Stretches
mod Accesses
mod Called
mod Ended
