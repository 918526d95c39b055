pub mod Agreeing
pub mod PinPuts
pub mod SwitchedPins
pub mod MarkedFrames
pub mod SetUpSwitched
