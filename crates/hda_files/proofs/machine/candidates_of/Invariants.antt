use Rattle.std.proofs.Common.{◌≡◌, ◌≤◌, ◌*◌, take}
use Rattle.hda_files.specs.Machines.{candidates_of}
use Rattle.hda_files.proofs.machine.candidates_of.Given as goal

abbrev pub invariant-loop-codec : goal.invariant-loop-codec
invariant-loop-codec l = record {
  value : l.pins ≡ candidates_of (take l.codec-index l.codecs);
  few : l.pins ≤ 128 * l.codec-index;
}
