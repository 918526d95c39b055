-- What the ring gets for samples, put last group by group.
use Rattle.std.proofs.Common.{◌≡◌, ◌≤◌, ℕ, ◌+◌, ◌*◌, ◌/◌, Bool, List, ◌++◌, drop, length, sym, ap, ◌∙◌, append_assoc, length-append, arith}
use Rattle.stream_format.specs.declared.format.Bits.{Bits}
use Rattle.wav_reader.specs.Readers.{group_length, ring_part, slot_length, slots}
use Rattle.wav_reader.proofs.RingLemmas.{part-group, part-groups}

-- a group more
pub part_step : (mono : Bool) (bits : Bits) (old held new group rest samples : List ℕ) → group_length mono bits ≤ length rest → group ≡ slots mono bits rest (16 / slot_length mono bits)
    → new ≡ held ++ group → held ++ ring_part mono bits rest ≡ old ++ ring_part mono bits samples
    → new ++ ring_part mono bits (drop (group_length mono bits) rest) ≡ old ++ ring_part mono bits samples
part_step mono bits old held new group rest samples enough is more so_far =
    let first = slots mono bits rest (16 / slot_length mono bits) in
    let later = ring_part mono bits (drop (group_length mono bits) rest) in
    ap (λ (new : List ℕ). new ++ later) (more ∙ ap (λ (group : List ℕ). held ++ group) is)
    ∙ append_assoc held first later
    ∙ ap (λ (both : List ℕ). held ++ both) (sym (part-group mono bits rest enough))
    ∙ so_far

-- some groups more
pub parts_step : (mono : Bool) (bits : Bits) (old held new groups rest samples : List ℕ) (count : ℕ) → count * group_length mono bits ≤ length rest
    → groups ≡ slots mono bits rest (count * (16 / slot_length mono bits)) → new ≡ held ++ groups → held ++ ring_part mono bits rest ≡ old ++ ring_part mono bits samples
    → new ++ ring_part mono bits (drop (count * group_length mono bits) rest) ≡ old ++ ring_part mono bits samples
parts_step mono bits old held new groups rest samples count enough is more so_far =
    let first = slots mono bits rest (count * (16 / slot_length mono bits)) in
    let later = ring_part mono bits (drop (count * group_length mono bits) rest) in
    ap (λ (new : List ℕ). new ++ later) (more ∙ ap (λ (groups : List ℕ). held ++ groups) is)
    ∙ append_assoc held first later
    ∙ ap (λ (both : List ℕ). held ++ both) (sym (part-groups mono bits rest count enough))
    ∙ so_far

-- there is room for them
pub parts_room : (mono : Bool) (bits : Bits) (old held groups rest samples : List ℕ) (count room : ℕ) → count * group_length mono bits ≤ length rest
    → groups ≡ slots mono bits rest (count * (16 / slot_length mono bits)) → held ++ ring_part mono bits rest ≡ old ++ ring_part mono bits samples
    → length old + length (ring_part mono bits samples) ≤ room → length held + length groups ≤ room
parts_room mono bits old held groups rest samples count room enough is so_far fits =
    let first = slots mono bits rest (count * (16 / slot_length mono bits)) in
    let later = ring_part mono bits (drop (count * group_length mono bits) rest) in
    let all = ap length so_far in
    let one = length-append held (ring_part mono bits rest) in
    let other = length-append old (ring_part mono bits samples) in
    let parts = ap length (part-groups mono bits rest count enough) in
    let both = length-append first later in
    let same = ap length is in
    omega (arith, all, one, other, parts, both, same, fits)

-- and for the rest
pub rest_room : (mono : Bool) (bits : Bits) (old held last rest samples : List ℕ) (room : ℕ) → last ≡ ring_part mono bits rest
    → held ++ ring_part mono bits rest ≡ old ++ ring_part mono bits samples → length old + length (ring_part mono bits samples) ≤ room → length held + length last ≤ room
rest_room mono bits old held last rest samples room is so_far fits =
    let all = ap length so_far in
    let one = length-append held (ring_part mono bits rest) in
    let other = length-append old (ring_part mono bits samples) in
    let same = ap length is in
    omega (arith, all, one, other, same, fits)
