pub mod Words
pub mod Verbs
pub mod Lists
pub mod FaultText
pub mod Amplifiers
pub mod Parameters
