pub mod Keys
pub mod FaultText
pub mod Values
pub mod Memory
pub mod Openings
pub mod Nodes
pub mod Codecs
pub mod Tops
pub mod ListFaults
pub mod Starts
pub mod Machines
-- what private functions promise one another
pub mod Arrays
pub mod Readers
