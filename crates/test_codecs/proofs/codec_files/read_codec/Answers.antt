use Rattle.std.proofs.Common.{◌≡◌, ◌<◌, ◌-◌, List, length, slice_index_or, subst, arith, rules}
use Rattle.std.specs.Prelude.{All}
use Rattle.std.proofs.lemmas.List.Elements.{All-get_or}
use Rattle.hda_files.specs.declared.machine.CodecFile.{CodecFile}
use Rattle.hda_files.specs.Machines.{IsSoundCodec}
use Rattle.test_codecs.proofs.codec_files.read_codec.Goals as goal

-- the last codec of a sound machine is sound
pub returns : goal.returns
returns c =
    let codec : CodecFile = c.in_ok-ok_or.field-0 in
    let codecs : List CodecFile = c.into_vec-codecs.result.items in
    let all : All IsSoundCodec codecs = rw c.into_vec-codecs.ensures c.in_ok-machine.ensures.sound.each in
    let some : 0 < length codecs = search rules in
    let last : slice_index_or codecs (length codecs - 1) codec ≡ codec = search rules in
    subst IsSoundCodec last (All-get_or IsSoundCodec codecs (length codecs - 1) codec (omega (arith, some)) all)
