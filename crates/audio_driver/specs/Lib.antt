pub mod States
pub mod Opening
pub mod Sounding
pub mod Closing
pub mod Drivers
pub mod Calls
pub mod Parting
