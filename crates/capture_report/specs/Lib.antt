pub mod CaptureLines
pub mod Overruns
pub mod BegunOverruns
pub mod WavLines
pub mod CaptureTexts
