use Rattle.std.proofs.Common.{◌≡◌, ◌<◌, ◌^◌, refl, sym, arith}
use Rattle.std.specs.Prelude.{bit_and, bit_or}
use Rattle.std.proofs.lemmas.Nat.{and_le_r, or_lt}
use Rattle.hda_registers.specs.Access.{part}
use Rattle.hda_registers.proofs.Groups.{masked_whole, part_above, put_part, beside_put}
use Rattle.hda_registers.proofs.Reading.{named-masked, whole_word}
use Rattle.hda_registers.proofs.StreamReads.{stream_word_0, stream_word_1, stream_word_2, stream_word_3, stream_word_4, stream_word_6, stream_word_other}
use Rattle.hda_registers.proofs.streams.Stream.word.Goals as goal

pub returns-in-0 : goal.returns-in-0
returns-in-0 c = λ covered written.
    rw (← c.self.view_is)
    (stream_word_0 c.args.shape _ _ c.in-0.is (bit_and c.self.inside.control.0 0x3CF0001F) (sym (masked_whole 0 1 c.self.inside.control.0 0x3CF0001F refl)) (sym (masked_whole 1 1 c.self.inside.control.0 0x3CF0001F refl)) (sym (masked_whole 2 1 c.self.inside.control.0 0x3CF0001F refl)) (sym (masked_whole 3 1 c.self.inside.control.0 0x3CF0001F refl)) (sym (masked_whole 4 1 c.self.inside.control.0 0x3CF0001F refl)) (sym (masked_whole 20 4 c.self.inside.control.0 0x3CF0001F refl)) (sym (masked_whole 26 1 c.self.inside.control.0 0x3CF0001F refl)) (sym (masked_whole 27 1 c.self.inside.control.0 0x3CF0001F refl)) (sym (masked_whole 28 1 c.self.inside.control.0 0x3CF0001F refl)) (sym (masked_whole 29 1 c.self.inside.control.0 0x3CF0001F refl)) (named-masked c.self.inside.control.0 0x3CF0001F refl))

pub returns-in-1 : goal.returns-in-1
returns-in-1 c = λ covered written.
    rw (← c.self.view_is)
    (stream_word_1 c.args.shape _ _ c.in-1.is c.self.inside.position refl (whole_word c.self.inside.position (omega arith)))

pub returns-in-2 : goal.returns-in-2
returns-in-2 c = λ covered written.
    rw (← c.self.view_is)
    (stream_word_2 c.args.shape _ _ c.in-2.is c.self.inside.buffer_length refl (whole_word c.self.inside.buffer_length (omega arith)))

pub returns-in-3 : goal.returns-in-3
returns-in-3 c = λ covered written.
    rw (← c.self.view_is)
    (stream_word_3 c.args.shape _ _ c.in-3.is (bit_and c.self.inside.last_index 0xFF) (sym (masked_whole 0 8 c.self.inside.last_index 0xFF refl)) (named-masked c.self.inside.last_index 0xFF refl))

pub returns-in-4 : goal.returns-in-4
returns-in-4 c = λ covered written.
    let word = c.self.inside.format in
    let fifo = c.args.shape.fifo in
    let small : fifo < 2 ^ 16 = omega arith in
    let low : part 0 16 fifo ≡ fifo = omega arith in
    let high : part 16 16 fifo ≡ 0 = part_above 16 16 fifo small in
    let fits : fifo < 2 ^ 32 = omega arith in
    let masked : bit_and word 0xFFFF0000 < 2 ^ 32 = omega (arith, and_le_r word 0xFFFF0000) in
    rw (← c.self.view_is, c.from.ensures)
    (stream_word_4 c.args.shape _ _ c.in-4.is (bit_or (bit_and word 0xFFFF0000) fifo)
    (sym (put_part 0 16 word 0xFFFF0000 fifo refl low)) (sym (beside_put 16 16 word 0xFFFF0000 fifo refl high))
    (whole_word (bit_or (bit_and word 0xFFFF0000) fifo) (or_lt 32 (bit_and word 0xFFFF0000) fifo masked fits)))

pub returns-in-6 : goal.returns-in-6
returns-in-6 c = λ covered written.
    rw (← c.self.view_is)
    (stream_word_6 c.args.shape _ _ c.in-6.is (bit_and c.self.inside.list_base 0xFFFFFF80) (sym (masked_whole 7 25 c.self.inside.list_base 0xFFFFFF80 refl)) (named-masked c.self.inside.list_base 0xFFFFFF80 refl))

pub returns-in_default : goal.returns-in_default
returns-in_default c = λ covered written.
    stream_word_other c.args.shape c.args.self.now _ (omega arith) (omega arith) (omega arith) (omega arith) (omega arith) (omega arith)
