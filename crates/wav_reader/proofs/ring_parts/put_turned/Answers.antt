use Rattle.std.proofs.Common.{◌≡◌, ℕ, ap, ◌∙◌, take, arith}
use Rattle.wav_reader.specs.Readers.{ring_part}
use Rattle.wav_reader.proofs.PutLemmas.{rest_room}
use Rattle.wav_reader.proofs.ring_parts.put_turned.Goals as goal

pub put_last-requires : goal.put_last-requires
put_last-requires c =
    let rest = c.put_groups-rest.result.now in
    let few : take c.few_len.result c.few_of-last.result ≡ ring_part c.args.mono c.args.bits c.put_groups-rest.result.now =
    ap (λ (n : ℕ). take n c.few_of-last.result) c.few_len.ensures.value ∙ c.few_of-last.ensures in
    let room = c.requires.room in
    let capacity = c.put_groups-rest.ensures.capacity in
    let fits = rest_room c.args.mono c.args.bits c.args.held.now.items c.put_groups-rest.new.held.items (take c.few_len.result c.few_of-last.result) rest c.args.samples.now
    c.args.held.now.capacity few c.put_groups-rest.ensures.put room in
    omega (arith, fits, capacity)
