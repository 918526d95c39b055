-- The words of a WAV file's fault. This project's own.
use Rattle.std.specs.Prelude.{ℕ, List, ◌++◌, codes, decimal}
use Rattle.wav_reader.specs.declared.fault.WavFault.{WavFault}
use Rattle.wav_reader.specs.declared.fault.WavFault.TheVariants.{NotRiff, NoFormat, NoData, Truncated, Tag, Channels}
use Rattle.wav_reader.specs.declared.fault.WavFault.TheVariants.{Rate, Bits, BlockAlign, OutOfMemory}

abbrev pub wav_fault_text : WavFault → List ℕ
wav_fault_text NotRiff = codes "NotRiff"
wav_fault_text NoFormat = codes "NoFormat"
wav_fault_text NoData = codes "NoData"
wav_fault_text (Truncated length) = codes "Truncated " ++ decimal length
wav_fault_text (Tag tag) = codes "Tag " ++ decimal tag
wav_fault_text (Channels channels) = codes "Channels " ++ decimal channels
wav_fault_text (Rate rate) = codes "Rate " ++ decimal rate
wav_fault_text (Bits bits) = codes "Bits " ++ decimal bits
wav_fault_text BlockAlign = codes "BlockAlign"
wav_fault_text OutOfMemory = codes "out of memory"
