pub mod Codecs
pub mod Captures
pub mod Devices
pub mod Sound
-- what holds of a device at all times
pub mod Keeping
