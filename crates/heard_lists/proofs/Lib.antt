pub mod Callers
mod Growing
mod Pieced
mod Placed
mod Taken
mod Joined
mod Noted
mod Stretched
mod Raw
mod Rooms
mod Reserved
mod Reading
mod Starts
mod Cleared
