use Rattle.std.proofs.Common.{◌+◌, [], drop, refl, sym, ap, subst, ◌∙◌, arith}
use Rattle.hda_registers.specs.Fields.{Fields}
use Rattle.world_streams.specs.Streams.{due}
use Rattle.world_streams.specs.Output.{Missed, Sent}
use Rattle.hda_world.specs.Worlds.{output_of}
use Rattle.hda_world.specs.Steps.{frame_carried, frame_step}
use Rattle.device_core.specs.Devices.{IsWorld}
use Rattle.heard_lists.proofs.Callers.{hole-grows, gap-grows, HasRoom-fewer}
use Rattle.codec_graph.specs.declared.pin_kind.PinKind.{PinKind}
use Rattle.hda_controller.specs.Controllers.{ControllerState}
use Rattle.hda_controller.specs.Hearing.{AreHeardAs, FramesHeardAs}
use Rattle.hda_controller.proofs.Growth.{grew_idle, grew_gap, grew_hole, blocks_heard, due_here}
use Rattle.hda_controller.proofs.Unheard.{listed-moved}
use Rattle.hda_controller.proofs.controller.Controller.link_alone.Goals as goal

pub returns-in-Idle-clause-heard : goal.returns-in-Idle-clause-heard
returns-in-Idle-clause-heard c memory world is = grew_idle c.args.self.now.kind world c.args.heard.now (c.in-Idle.ensures.answer memory world is).0

pub returns-in-Idle-clause-room : goal.returns-in-Idle-clause-room
returns-in-Idle-clause-room c more has = HasRoom-fewer more (4 + more) c.args.heard.now (omega arith) has

pub returns-in-Gap-clause-heard : goal.returns-in-Gap-clause-heard
returns-in-Gap-clause-heard c memory world is =
    grew_gap c.args.self.now.kind world c.args.heard.now c.args.heard.now (c.in-Gap.ensures.answer memory world is).0
    (gap-grows c.args.self.now.kind (frame_carried world (Sent [])) c.args.heard.now refl)

pub returns-in-Gap-clause-room : goal.returns-in-Gap-clause-room
returns-in-Gap-clause-room c more has = HasRoom-fewer more (4 + more) c.args.heard.now (omega arith) has

pub hear_frame-requires-clause-due : goal.hear_frame-requires-clause-due
hear_frame-requires-clause-due c =
    let some = c.is_some_world.ensures [] in
    let is = subst (λ (state : ControllerState). IsWorld [] state.device some.0) c.self.view_is some.1 in
    due_here some.0 c.in-Blocks.blocks c.args.self.now.device.registers c.frame.new.self.device.registers is.registers_are c.frame.ensures.sound
    (c.in-Blocks.ensures.answer [] some.0 is).1

pub hear_frame-requires-clause-lists : goal.hear_frame-requires-clause-lists
hear_frame-requires-clause-lists c =
    subst (λ (kind : PinKind). AreHeardAs kind c.frame.new.self.device.codecs c.args.heard.now) (sym c.frame.ensures.kind)
    (listed-moved c.args.self.now.kind c.args.self.now.device c.frame.new.self.device c.frame.ensures.codecs c.frame.ensures.sound c.args.heard.now c.requires.lists)

pub returns-in-Blocks-clause-heard : goal.returns-in-Blocks-clause-heard
returns-in-Blocks-clause-heard c memory world is =
    let answer = c.in-Blocks.ensures.answer memory world is in
    subst (λ (kind : PinKind). FramesHeardAs kind world (frame_step world) c.args.heard.now c.hear_frame.new.heard) c.frame.ensures.kind
    (blocks_heard c.frame.new.self.kind world c.frame.new.self.device c.in-Blocks.blocks c.frame.new.into c.args.heard.now c.hear_frame.new.heard (drop (due (output_of world)) _)
    (c.frame.ensures.codecs ∙ sym is.codecs_are)
    (c.frame.ensures.sound.tag ∙ ap (λ (f : Fields). f.output.tag) (sym is.registers_are))
    (c.frame.ensures.sound.format ∙ ap (λ (f : Fields). f.output.format) (sym is.registers_are))
    answer.0 answer.1 answer.2 c.hear_frame.ensures.heard)

pub miss-requires : goal.miss-requires
miss-requires c = HasRoom-fewer 1 4 c.args.heard.now (omega arith) c.requires.room

pub returns-in-Hole-clause-heard : goal.returns-in-Hole-clause-heard
returns-in-Hole-clause-heard c memory world is =
    grew_hole c.args.self.now.kind world c.args.heard.now c.miss.new.self (c.in-Hole.ensures.answer memory world is).0
    (c.miss.ensures.lists ∙ hole-grows c.args.self.now.kind (frame_carried world Missed) c.args.heard.now refl)

pub returns-in-Hole-clause-room : goal.returns-in-Hole-clause-room
returns-in-Hole-clause-room c more has = c.miss.ensures.room more (HasRoom-fewer (1 + more) (4 + more) c.args.heard.now (omega arith) has)
