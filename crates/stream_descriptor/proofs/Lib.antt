mod Placing
mod Filling
mod Passing
mod Settling
mod Written
pub mod Callers
mod Accepting
mod Taking
mod Emptying
