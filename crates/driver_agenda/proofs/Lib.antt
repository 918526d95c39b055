pub mod Planning
pub mod Telling
pub mod Leading
pub mod Places
pub mod Following
pub mod Answering
pub mod OneWay
pub mod Callers
