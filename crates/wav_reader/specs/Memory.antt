-- Want of memory, the one answer that says nothing of the file.
use Rattle.std.specs.Prelude.{◌≡◌, ◌⊎◌, Result, Err}
use Rattle.wav_reader.specs.declared.fault.WavFault.{WavFault}
use Rattle.wav_reader.specs.declared.fault.WavFault.TheVariants.{OutOfMemory}

-- the fact holds, or memory was wanting
abbrev pub OrMemory : {A : Type 0} → Result A WavFault → Type 0 → Type 0
OrMemory result fact = (result ≡ Err OutOfMemory) ⊎ fact
