pub mod Routed
pub mod InWanted
pub mod InSteady
pub mod InOpened
pub mod InHeard
pub mod OpenedIn
pub mod InRanged
pub mod RoleTables
pub mod TakenAlone
pub mod Callers
mod WorkedInput
