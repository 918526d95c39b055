mod Keeping
mod Renewed
mod Writing
mod Taking
mod Fresh
mod Bits
mod Start
mod Hearing
mod Due
mod Growth
mod Listed
mod CommandMarks
mod Untaken
mod Unheard
mod WrittenMarks
pub mod Callers
