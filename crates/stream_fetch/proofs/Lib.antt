mod Standing
mod Runs
mod Rest
mod Stores
mod Putting
mod Remaining
