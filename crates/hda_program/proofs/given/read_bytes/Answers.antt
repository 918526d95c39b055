use Rattle.std.proofs.Common.{◌≢◌, rules}
use Rattle.std.proofs.lemmas.Result.{IfOk-weaker}
use Rattle.wav_reader.specs.declared.fault.WavFault.TheVariants.{OutOfMemory}
use Rattle.wav_reader.specs.FaultText.{wav_fault_text}
use Rattle.hda_program.specs.Given.{AreGivenBytesRead, IsStereo}
use Rattle.hda_program.proofs.GivenLemmas.{fault_given, sound_given}
use Rattle.hda_program.proofs.given.read_bytes.Goals as goal

pub returns-in-Ok : goal.returns-in-Ok
returns-in-Ok c =
    IfOk-weaker c.in_stereo.result (IsStereo c.in-Ok.wav) (AreGivenBytesRead c.args.bytes.now)
    (λ read h. sound_given c.args.bytes.now c.in-Ok.wav read c.requires c.in-Ok.ensures.meaning c.in-Ok.ensures.whole h) c.in_stereo.ensures

pub returns-in_ok-faulty-in-Err : goal.returns-in_ok-faulty-in-Err
returns-in_ok-faulty-in-Err c =
    let known : c.in-Err.fault ≢ OutOfMemory = search rules in
    (wav_fault_text c.in-Err.fault, fault_given c.args.bytes.now c.in-Err.fault known c.in-Err.ensures.meaning, c.in_ok-faulty-in-Err.ensures)
