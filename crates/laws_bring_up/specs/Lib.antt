pub mod Stretches
pub mod Standing
pub mod SettingUp
pub mod Keeping
