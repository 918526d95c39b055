use Rattle.std.proofs.Common.{◌≡◌, ◌≢◌, rules}
use Rattle.hda_files.specs.declared.fault.FileFault.TheVariants.{OutOfMemory}
use Rattle.hda_files.specs.FaultText.{file_fault_text}
use Rattle.hda_program.proofs.codec.read_bytes.Goals as goal

pub returns-in_ok-codec_refused-in-Err : goal.returns-in_ok-codec_refused-in-Err
returns-in_ok-codec_refused-in-Err c =
    let known : c.in-Err.fault ≢ OutOfMemory = search rules in
    let says : c.as_str.result.now ≡ file_fault_text c.in-Err.fault = search rules in
    (c.as_str.result.now, record { fault = c.in-Err.fault; known = known; reads = c.in-Err.ensures.reading; says = says }, c.in_ok-codec_refused-in-Err.ensures)
