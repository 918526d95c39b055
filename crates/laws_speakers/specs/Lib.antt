pub mod Pins
pub mod SwitchWords
pub mod SetUpBut
