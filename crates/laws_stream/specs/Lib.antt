pub mod Lives
pub mod Sounding
pub mod Ending
pub mod Resting
pub mod Silent
pub mod Going
pub mod Signalled
