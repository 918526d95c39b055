use Rattle.std.proofs.Common.{◌≤◌, ℕ, ◌*◌, ◌/◌, take, ap, ◌∙◌, length, arith}
use Rattle.std.proofs.lemmas.List.{take_rest}
use Rattle.circular_buffer.specs.Buffer.{Buffer}
use Rattle.wav_reader.specs.Readers.{group_length}
use Rattle.wav_reader.proofs.CountLemmas.{some-inside}
use Rattle.wav_reader.proofs.PutLemmas.{parts_step, parts_room}
use Rattle.wav_reader.proofs.ring_parts.put_groups.Goals as goal

pub put_last-requires : goal.put_last-requires
put_last-requires c =
    let rest = c.loop-rest.rest.now in
    let many = ap (λ (n : ℕ). length rest / n) c.group_len-size.ensures.value in
    let count = c.min-count.ensures in
    let few : c.min-count.result ≤ length c.loop-rest.rest.now / group_length c.args.mono c.args.bits = omega (arith, count, many) in
    let enough = some-inside c.min-count.result (length rest) (group_length c.args.mono c.args.bits) few in
    let capacity = c.loop-rest.invariant.capacity in
    let fits = parts_room c.args.mono c.args.bits c.args.held.now.items c.loop-rest.held.items (take (c.min-count.result * 16) c.groups_of-part.result) rest c.args.samples.now
    c.min-count.result c.args.held.now.capacity enough c.groups_of-part.ensures c.loop-rest.invariant.put c.requires.room in
    omega (arith, fits, capacity)

pub loop-rest-preserved : goal.loop-rest-preserved
loop-rest-preserved c =
    let rest = c.loop-rest.rest.now in
    let size = c.group_len-size.ensures.value in
    let many = ap (λ (n : ℕ). length rest / n) c.group_len-size.ensures.value in
    let count = c.min-count.ensures in
    let few : c.min-count.result ≤ length c.loop-rest.rest.now / group_length c.args.mono c.args.bits = omega (arith, count, many) in
    let enough = some-inside c.min-count.result (length rest) (group_length c.args.mono c.args.bits) few in
    let more = ap (λ (held : Buffer ℕ). held.items) c.put_last.ensures in
    rw (take_rest, size)
    (record {
      put = parts_step c.args.mono c.args.bits c.args.held.now.items c.loop-rest.held.items c.put_last.new.held.items (take (c.min-count.result * 16) c.groups_of-part.result) rest
          c.args.samples.now c.min-count.result enough c.groups_of-part.ensures more c.loop-rest.invariant.put;
      capacity = ap (λ (held : Buffer ℕ). held.capacity) c.put_last.ensures ∙ c.loop-rest.invariant.capacity;
    })
