-- What proofs of the layers above cite.

-- with ascending addresses a change of the codec of an address is a change at its place
pub use Rattle.device_core.proofs.Places.{changed_here}
-- where no codec has the address nothing changes
pub use Rattle.device_core.proofs.Places.{changed_none}
-- the codec at its place is the one of the address
pub use Rattle.device_core.proofs.Places.{codec_is}
-- what a change keeps of each codec, a change of one keeps of all
pub use Rattle.device_core.proofs.Places.{parts-with_codec}
-- the graphs and the settings
pub use Rattle.device_core.proofs.Places.{keeps-with_codec}
-- whatever CORB's engine hands, a codec of that address stands at that place
pub use Rattle.device_core.proofs.Handing.{IsThere}
pub use Rattle.device_core.proofs.Handing.{handed_there}
-- a change of one codec leaves their number
pub use Rattle.device_core.proofs.Handing.{length-with_codec}
-- which writes leave the tag and the format of the output stream
pub use Rattle.device_core.proofs.Sounding.{write_keeps_sound}
-- a place that lies within is found
pub use Rattle.device_core.proofs.Places.{place_by}
