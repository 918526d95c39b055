use Rattle.std.proofs.Common.{refl, sym, arith}
use Rattle.std.specs.Prelude.{bit_and}
use Rattle.hda_registers.proofs.Groups.{masked_whole}
use Rattle.hda_registers.proofs.Reading.{named-masked, whole_word, whole_part, flag-with_size, size-with_size, named-with_size, with_size}
use Rattle.hda_registers.proofs.GlobalReads.{global_word_0, global_word_1, global_word_2, global_word_3, global_word_8, global_word_9, global_word_12, global_word_16, global_word_18, global_word_19, global_word_20, global_word_22, global_word_23, global_word_other}
use Rattle.hda_registers.proofs.controller.Controller.word.Goals as goal

pub returns-in-0 : goal.returns-in-0
returns-in-0 c = λ covered written.
    rw (← c.self.view_is)
    (global_word_0 c.args.shape _ c.args.status _ c.in-0.is 0x01001100 refl refl refl refl)

pub returns-in-1 : goal.returns-in-1
returns-in-1 c = λ covered written.
    rw (← c.self.view_is)
    (global_word_1 c.args.shape _ c.args.status _ c.in-1.is 0x001D003C refl refl refl)

pub returns-in-2 : goal.returns-in-2
returns-in-2 c = λ covered written.
    rw (← c.self.view_is)
    (global_word_2 c.args.shape _ c.args.status _ c.in-2.is (bit_and c.self.inside.control.0 0x101) (sym (masked_whole 0 1 c.self.inside.control.0 0x101 refl)) (sym (masked_whole 8 1 c.self.inside.control.0 0x101 refl)) (named-masked c.self.inside.control.0 0x101 refl))

pub returns-in-3 : goal.returns-in-3
returns-in-3 c = λ covered written.
    rw (← c.self.view_is)
    (global_word_3 c.args.shape _ c.args.status _ c.in-3.is (bit_and c.self.inside.wake 0x7FFF7FFF) (sym (masked_whole 0 15 c.self.inside.wake 0x7FFF7FFF refl)) (sym (masked_whole 16 15 c.self.inside.wake 0x7FFF7FFF refl)) (named-masked c.self.inside.wake 0x7FFF7FFF refl))

pub returns-in-8 : goal.returns-in-8
returns-in-8 c = λ covered written.
    rw (← c.self.view_is)
    (global_word_8 c.args.shape _ c.args.status _ c.in-8.is (bit_and c.self.inside.interrupts.0 0xC0000003) (sym (masked_whole 0 1 c.self.inside.interrupts.0 0xC0000003 refl)) (sym (masked_whole 1 1 c.self.inside.interrupts.0 0xC0000003 refl)) (sym (masked_whole 30 1 c.self.inside.interrupts.0 0xC0000003 refl)) (sym (masked_whole 31 1 c.self.inside.interrupts.0 0xC0000003 refl)) (named-masked c.self.inside.interrupts.0 0xC0000003 refl))

pub returns-in-9 : goal.returns-in-9
returns-in-9 c = λ covered written.
    rw (← c.self.view_is)
    (global_word_9 c.args.shape _ c.args.status _ c.in-9.is c.args.status (whole_part c.args.status (omega arith)) (whole_word c.args.status (omega arith)))

pub returns-in-12 : goal.returns-in-12
returns-in-12 c = λ covered written.
    rw (← c.self.view_is)
    (global_word_12 c.args.shape _ c.args.status _ c.in-12.is c.self.inside.wall_clock refl (whole_word c.self.inside.wall_clock (omega arith)))

pub returns-in-16 : goal.returns-in-16
returns-in-16 c = λ covered written.
    rw (← c.self.view_is)
    (global_word_16 c.args.shape _ c.args.status _ c.in-16.is (bit_and c.self.inside.corb_base 0xFFFFFF80) (sym (masked_whole 7 25 c.self.inside.corb_base 0xFFFFFF80 refl)) (named-masked c.self.inside.corb_base 0xFFFFFF80 refl))

pub returns-in-18 : goal.returns-in-18
returns-in-18 c = λ covered written.
    rw (← c.self.view_is)
    (global_word_18 c.args.shape _ c.args.status _ c.in-18.is (bit_and c.self.inside.corb_pointers 0x80FF00FF) (sym (masked_whole 0 8 c.self.inside.corb_pointers 0x80FF00FF refl)) (sym (masked_whole 16 8 c.self.inside.corb_pointers 0x80FF00FF refl)) (sym (masked_whole 31 1 c.self.inside.corb_pointers 0x80FF00FF refl)) (named-masked c.self.inside.corb_pointers 0x80FF00FF refl))

pub returns-in-19 : goal.returns-in-19
returns-in-19 c = λ covered written.
    rw (← c.self.view_is, c.size_bits.ensures)
    (global_word_19 c.args.shape _ c.args.status _ c.in-19.is (with_size c.self.inside.corb_control.0 0x3 c.args.shape.corb) (flag-with_size 0 1 c.self.inside.corb_control.0 0x3 c.args.shape.corb refl refl refl refl) (flag-with_size 1 1 c.self.inside.corb_control.0 0x3 c.args.shape.corb refl refl refl refl) (size-with_size c.self.inside.corb_control.0 0x3 c.args.shape.corb refl) (named-with_size c.self.inside.corb_control.0 0x3 0xFF0003 c.args.shape.corb refl refl refl refl))

pub returns-in-20 : goal.returns-in-20
returns-in-20 c = λ covered written.
    rw (← c.self.view_is)
    (global_word_20 c.args.shape _ c.args.status _ c.in-20.is (bit_and c.self.inside.rirb_base 0xFFFFFF80) (sym (masked_whole 7 25 c.self.inside.rirb_base 0xFFFFFF80 refl)) (named-masked c.self.inside.rirb_base 0xFFFFFF80 refl))

pub returns-in-22 : goal.returns-in-22
returns-in-22 c = λ covered written.
    rw (← c.self.view_is)
    (global_word_22 c.args.shape _ c.args.status _ c.in-22.is (bit_and c.self.inside.rirb_pointers 0xFF00FF) (sym (masked_whole 0 8 c.self.inside.rirb_pointers 0xFF00FF refl)) (sym (masked_whole 16 8 c.self.inside.rirb_pointers 0xFF00FF refl)) (named-masked c.self.inside.rirb_pointers 0xFF00FF refl))

pub returns-in-23 : goal.returns-in-23
returns-in-23 c = λ covered written.
    rw (← c.self.view_is, c.size_bits-in-23.ensures)
    (global_word_23 c.args.shape _ c.args.status _ c.in-23.is (with_size c.self.inside.rirb_control.0 0x107 c.args.shape.rirb) (flag-with_size 0 1 c.self.inside.rirb_control.0 0x107 c.args.shape.rirb refl refl refl refl) (flag-with_size 1 1 c.self.inside.rirb_control.0 0x107 c.args.shape.rirb refl refl refl refl) (flag-with_size 2 1 c.self.inside.rirb_control.0 0x107 c.args.shape.rirb refl refl refl refl) (flag-with_size 8 1 c.self.inside.rirb_control.0 0x107 c.args.shape.rirb refl refl refl refl) (size-with_size c.self.inside.rirb_control.0 0x107 c.args.shape.rirb refl) (named-with_size c.self.inside.rirb_control.0 0x107 0xFF0107 c.args.shape.rirb refl refl refl refl))

pub returns-in_default : goal.returns-in_default
returns-in_default c = λ covered written.
    global_word_other c.args.shape c.args.self.now c.args.status _ (omega arith) (omega arith) (omega arith) (omega arith) (omega arith) (omega arith) (omega arith) (omega arith) (omega arith) (omega arith) (omega arith) (omega arith) (omega arith)
