pub mod Dialogues
pub mod Words
pub mod Walks
pub mod Commands
pub mod Replies
pub mod Outcomes
pub mod Remaining
-- what private functions promise one another
pub mod Steps
