pub mod Planned
pub mod Sound
pub mod Agendas
pub mod Following
pub mod AnswerWords
