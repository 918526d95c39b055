use Rattle.std.proofs.Common.{◌≢◌, ℕ, arith}
use Rattle.hda_registers.proofs.GlobalWrites.{control_word, wake_word, interrupts_word, corb_base_word, corb_pointers_word, corb_control_word, rirb_base_word, rirb_pointers_word, rirb_control_word, other_word}
use Rattle.hda_registers.proofs.controller.Controller.write.Goals as goal

pub returns-in-2 : goal.returns-in-2
returns-in-2 c =
    let i = c.self.inside in
    rw (c.leaves.ensures, ← c.self.view_is)
    (control_word c.args.shape c.args.access c.in-2.is c.requires i.control.0 i.wake i.interrupts.0 i.wall_clock i.corb_base i.corb_pointers i.corb_control.0 i.rirb_base i.rirb_pointers i.rirb_control.0)

pub returns-in-3 : goal.returns-in-3
returns-in-3 c =
    let i = c.self.inside in
    rw (c.leaves-self-inside.ensures, ← c.self.view_is)
    (wake_word c.args.shape c.args.access c.in-3.is c.requires i.control.0 i.wake i.interrupts.0 i.wall_clock i.corb_base i.corb_pointers i.corb_control.0 i.rirb_base i.rirb_pointers i.rirb_control.0)

pub returns-in-8 : goal.returns-in-8
returns-in-8 c =
    let i = c.self.inside in
    rw (c.leaves-in-8.ensures, ← c.self.view_is)
    (interrupts_word c.args.shape c.args.access c.in-8.is c.requires i.control.0 i.wake i.interrupts.0 i.wall_clock i.corb_base i.corb_pointers i.corb_control.0 i.rirb_base i.rirb_pointers i.rirb_control.0)

pub returns-in-16 : goal.returns-in-16
returns-in-16 c =
    let i = c.self.inside in
    rw (c.leaves-self-inside-in-16.ensures, ← c.self.view_is)
    (corb_base_word c.args.shape c.args.access c.in-16.is c.requires i.control.0 i.wake i.interrupts.0 i.wall_clock i.corb_base i.corb_pointers i.corb_control.0 i.rirb_base i.rirb_pointers i.rirb_control.0)

pub returns-in-19 : goal.returns-in-19
returns-in-19 c =
    let i = c.self.inside in
    rw (c.leaves-in-19.ensures, ← c.self.view_is)
    (corb_control_word c.args.shape c.args.access c.in-19.is c.requires i.control.0 i.wake i.interrupts.0 i.wall_clock i.corb_base i.corb_pointers i.corb_control.0 i.rirb_base i.rirb_pointers i.rirb_control.0)

pub returns-in-20 : goal.returns-in-20
returns-in-20 c =
    let i = c.self.inside in
    rw (c.leaves-self-inside-in-20.ensures, ← c.self.view_is)
    (rirb_base_word c.args.shape c.args.access c.in-20.is c.requires i.control.0 i.wake i.interrupts.0 i.wall_clock i.corb_base i.corb_pointers i.corb_control.0 i.rirb_base i.rirb_pointers i.rirb_control.0)

pub returns-in-23 : goal.returns-in-23
returns-in-23 c =
    let i = c.self.inside in
    rw (c.leaves-in-23.ensures, ← c.self.view_is)
    (rirb_control_word c.args.shape c.args.access c.in-23.is c.requires i.control.0 i.wake i.interrupts.0 i.wall_clock i.corb_base i.corb_pointers i.corb_control.0 i.rirb_base i.rirb_pointers i.rirb_control.0)

pub returns-in-18 : goal.returns-in-18
returns-in-18 c =
    let i = c.self.inside in
    let after = c.corb_pointers_after-self-inside in
    rw (← c.self.view_is)
    (corb_pointers_word c.args.shape c.args.access c.in-18.is i.control.0 i.wake i.interrupts.0 i.wall_clock i.corb_base i.corb_pointers i.corb_control.0 i.rirb_base i.rirb_pointers i.rirb_control.0 after.result
    after.ensures.write_pointer after.ensures.read_pointer after.ensures.pointer_reset)

pub returns-in-22 : goal.returns-in-22
returns-in-22 c =
    let i = c.self.inside in
    let after = c.rirb_pointers_after-self-inside in
    rw (← c.self.view_is)
    (rirb_pointers_word c.args.shape c.args.access c.in-22.is i.control.0 i.wake i.interrupts.0 i.wall_clock i.corb_base i.corb_pointers i.corb_control.0 i.rirb_base i.rirb_pointers i.rirb_control.0 after.result
    after.ensures.write_pointer after.ensures.count)

pub returns-in_default : goal.returns-in_default
returns-in_default c =
    let w : ℕ = c.args.access.word in
    let n2 : c.args.access.word ≢ 2 = omega arith in
    other_word c.args.shape c.args.access c.args.self.now n2 (omega arith) (omega arith) (omega arith) (omega arith) (omega arith) (omega arith) (omega arith) (omega arith)
