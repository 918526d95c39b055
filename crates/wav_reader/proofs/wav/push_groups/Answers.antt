use Rattle.std.proofs.Common.{◌≤◌, length, arith}
use Rattle.std.proofs.lemmas.List.{take_rest}
use Rattle.wav_reader.specs.Readers.{group_length}
use Rattle.wav_reader.proofs.PutLemmas.{part_step}
use Rattle.wav_reader.proofs.wav.push_groups.Goals as goal

pub loop-rest-preserved : goal.loop-rest-preserved
loop-rest-preserved c =
    let size = c.group_len-size.ensures.value in
    let test = c.loop-rest-test.true in
    let enough : group_length c.args.mono c.args.bits ≤ length c.loop-rest.rest.now = omega (arith, size, test) in
    rw (take_rest, size)
    (part_step c.args.mono c.args.bits c.args.ring.now.items c.loop-rest.ring.items c.extend_from_slice.new.self.items c.group_of.result c.loop-rest.rest.now c.args.samples.now enough
    c.group_of.ensures c.in_ok-extend_from_slice.ensures.items c.loop-rest.invariant)
