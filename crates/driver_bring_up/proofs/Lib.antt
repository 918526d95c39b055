pub mod Callers
pub mod Settles
pub mod Leading
pub mod AnsweredWords
pub mod Exact
pub mod Asks
pub mod Still
pub mod Staying
pub mod Unread
mod Agreeing
mod Asked
pub mod Commands
mod Events
pub mod Entries
mod FailingLooks
mod AllJacks
mod Counting
mod ListTimes
pub mod OfPins
mod Steps
