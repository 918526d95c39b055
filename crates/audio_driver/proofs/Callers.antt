-- What proofs of the layers above cite.

-- a run that is open plays
pub use Rattle.audio_driver.proofs.Whole.{open_playing}
