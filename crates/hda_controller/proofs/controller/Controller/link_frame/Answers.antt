use Rattle.std.proofs.Common.{◌≡◌, ◌+◌, [], ◌∷◌, ℕ, List, drop, map, refl, sym, ap, subst, ◌∙◌, arith}
use Rattle.hda_registers.specs.Fields.{Fields}
use Rattle.world_streams.specs.Streams.{due}
use Rattle.world_streams.specs.Output.{Missed, Sent}
use Rattle.heard_frames.specs.declared.heard.Heard.TheVariants.{Hole}
use Rattle.hda_world.specs.Worlds.{output_of}
use Rattle.hda_world.specs.Steps.{frame_carried, frame_step}
use Rattle.device_core.specs.Devices.{DeviceState, IsWorld}
use Rattle.heard_lists.specs.Listings.{Listing, with_items}
use Rattle.heard_lists.proofs.Callers.{hole-grows, gap-grows, HasRoom-fewer}
use Rattle.codec_graph.specs.declared.pin_kind.PinKind.{PinKind}
use Rattle.hda_controller.specs.Controllers.{ControllerState, signal_now}
use Rattle.hda_controller.specs.Hearing.{AreHeardAs, FramesHeardAs}
use Rattle.hda_controller.specs.Unheard.{AreWhole, block_count, heard_now, layout_now}
use Rattle.hda_controller.proofs.Growth.{grew_idle, grew_gap, grew_hole, blocks_heard, due_here}
use Rattle.hda_controller.proofs.Unheard.{count-none, heard-none, heard-same, listed-moved, room-moved, whole-moved, whole-none}
use Rattle.hda_controller.proofs.controller.Controller.link_frame.Goals as goal

-- ---- no block is due, or none comes

pub returns-in-Idle-clause-heard : goal.returns-in-Idle-clause-heard
returns-in-Idle-clause-heard c memory world is =
    let lists : List Listing = heard_now c.args.self.now.kind c.args.self.now.device c.args.unheard.now.items c.args.heard.now in
    subst (λ (kind : PinKind). FramesHeardAs c.args.self.now.kind world (frame_step world) lists (heard_now kind c.frame.new.self.device c.args.unheard.now.items c.args.heard.now)) (sym c.frame.ensures.kind)
    (subst (FramesHeardAs c.args.self.now.kind world (frame_step world) lists)
    (sym (heard-same c.args.self.now.kind c.args.self.now.device c.frame.new.self.device c.frame.ensures.codecs c.frame.ensures.sound c.args.unheard.now.items c.args.heard.now))
    (grew_idle c.args.self.now.kind world lists (c.in-Idle.ensures.answer memory world is).0))

pub returns-in-Idle-clause-whole : goal.returns-in-Idle-clause-whole
returns-in-Idle-clause-whole c =
    whole-moved c.args.self.now.device c.frame.new.self.device c.frame.ensures.codecs c.frame.ensures.sound c.args.unheard.now.items c.requires.whole

pub returns-in-Idle-clause-room : goal.returns-in-Idle-clause-room
returns-in-Idle-clause-room c more has =
    room-moved c.args.self.now.device c.frame.new.self.device c.frame.ensures.codecs c.frame.ensures.sound c.args.unheard.now.items more (4 + more) c.args.heard.now (omega arith) has

pub returns-in-Idle-clause-lists : goal.returns-in-Idle-clause-lists
returns-in-Idle-clause-lists c =
    subst (λ (kind : PinKind). AreHeardAs kind c.frame.new.self.device.codecs c.args.heard.now) (sym c.frame.ensures.kind)
    (listed-moved c.args.self.now.kind c.args.self.now.device c.frame.new.self.device c.frame.ensures.codecs c.frame.ensures.sound c.args.heard.now c.requires.lists)

pub returns-in-Gap-clause-heard : goal.returns-in-Gap-clause-heard
returns-in-Gap-clause-heard c memory world is =
    let lists : List Listing = heard_now c.args.self.now.kind c.args.self.now.device c.args.unheard.now.items c.args.heard.now in
    subst (λ (kind : PinKind). FramesHeardAs c.args.self.now.kind world (frame_step world) lists (heard_now kind c.frame.new.self.device c.args.unheard.now.items c.args.heard.now)) (sym c.frame.ensures.kind)
    (subst (FramesHeardAs c.args.self.now.kind world (frame_step world) lists)
    (sym (heard-same c.args.self.now.kind c.args.self.now.device c.frame.new.self.device c.frame.ensures.codecs c.frame.ensures.sound c.args.unheard.now.items c.args.heard.now))
    (grew_gap c.args.self.now.kind world lists lists (c.in-Gap.ensures.answer memory world is).0 (gap-grows c.args.self.now.kind (frame_carried world (Sent [])) lists refl)))

pub returns-in-Gap-clause-whole : goal.returns-in-Gap-clause-whole
returns-in-Gap-clause-whole c =
    whole-moved c.args.self.now.device c.frame.new.self.device c.frame.ensures.codecs c.frame.ensures.sound c.args.unheard.now.items c.requires.whole

pub returns-in-Gap-clause-room : goal.returns-in-Gap-clause-room
returns-in-Gap-clause-room c more has =
    room-moved c.args.self.now.device c.frame.new.self.device c.frame.ensures.codecs c.frame.ensures.sound c.args.unheard.now.items more (4 + more) c.args.heard.now (omega arith) has

pub returns-in-Gap-clause-lists : goal.returns-in-Gap-clause-lists
returns-in-Gap-clause-lists c =
    subst (λ (kind : PinKind). AreHeardAs kind c.frame.new.self.device.codecs c.args.heard.now) (sym c.frame.ensures.kind)
    (listed-moved c.args.self.now.kind c.args.self.now.device c.frame.new.self.device c.frame.ensures.codecs c.frame.ensures.sound c.args.heard.now c.requires.lists)

-- ---- blocks

pub keep-requires-clause-due : goal.keep-requires-clause-due
keep-requires-clause-due c =
    let some = c.is_some_world.ensures [] in
    let is = subst (λ (state : ControllerState). IsWorld [] state.device some.0) c.self.view_is some.1 in
    due_here some.0 c.in-Blocks.blocks c.args.self.now.device.registers c.frame.new.self.device.registers is.registers_are c.frame.ensures.sound
    (c.in-Blocks.ensures.answer [] some.0 is).1

pub keep-requires-clause-whole : goal.keep-requires-clause-whole
keep-requires-clause-whole c =
    whole-moved c.args.self.now.device c.frame.new.self.device c.frame.ensures.codecs c.frame.ensures.sound c.args.unheard.now.items c.requires.whole

pub keep-requires-clause-room : goal.keep-requires-clause-room
keep-requires-clause-room c =
    room-moved c.args.self.now.device c.frame.new.self.device c.frame.ensures.codecs c.frame.ensures.sound c.args.unheard.now.items 4 4 c.args.heard.now (omega arith) c.requires.room

pub keep-requires-clause-lists : goal.keep-requires-clause-lists
keep-requires-clause-lists c =
    subst (λ (kind : PinKind). AreHeardAs kind c.frame.new.self.device.codecs c.args.heard.now) (sym c.frame.ensures.kind)
    (listed-moved c.args.self.now.kind c.args.self.now.device c.frame.new.self.device c.frame.ensures.codecs c.frame.ensures.sound c.args.heard.now c.requires.lists)

pub returns-in-Blocks-clause-heard : goal.returns-in-Blocks-clause-heard
returns-in-Blocks-clause-heard c memory world is =
    let answer = c.in-Blocks.ensures.answer memory world is in
    let device : DeviceState = c.frame.new.self.device in
    let lists : List Listing = heard_now c.frame.new.self.kind device c.keep.new.unheard.items c.keep.new.heard in
    subst (λ (kind : PinKind). FramesHeardAs kind world (frame_step world) (heard_now kind c.args.self.now.device c.args.unheard.now.items c.args.heard.now) lists) c.frame.ensures.kind
    (subst (λ (before : List Listing). FramesHeardAs c.frame.new.self.kind world (frame_step world) before lists)
    (heard-same c.frame.new.self.kind c.args.self.now.device device c.frame.ensures.codecs c.frame.ensures.sound c.args.unheard.now.items c.args.heard.now)
    (blocks_heard c.frame.new.self.kind world device c.in-Blocks.blocks c.frame.new.into (heard_now c.frame.new.self.kind device c.args.unheard.now.items c.args.heard.now) lists (drop (due (output_of world)) c.args.bytes.now)
    (c.frame.ensures.codecs ∙ sym is.codecs_are)
    (c.frame.ensures.sound.tag ∙ ap (λ (f : Fields). f.output.tag) (sym is.registers_are))
    (c.frame.ensures.sound.format ∙ ap (λ (f : Fields). f.output.format) (sym is.registers_are))
    answer.0 answer.1 answer.2 c.keep.ensures.heard))

pub returns-in-Blocks-clause-room : goal.returns-in-Blocks-clause-room
returns-in-Blocks-clause-room c more has =
    c.keep.ensures.room more
    (room-moved c.args.self.now.device c.frame.new.self.device c.frame.ensures.codecs c.frame.ensures.sound c.args.unheard.now.items (4 + more) (4 + more) c.args.heard.now (omega arith) has)

-- ---- a hole

pub miss-requires-clause-whole : goal.miss-requires-clause-whole
miss-requires-clause-whole c =
    whole-moved c.args.self.now.device c.frame.new.self.device c.frame.ensures.codecs c.frame.ensures.sound c.args.unheard.now.items c.requires.whole

pub miss-requires-clause-room : goal.miss-requires-clause-room
miss-requires-clause-room c =
    room-moved c.args.self.now.device c.frame.new.self.device c.frame.ensures.codecs c.frame.ensures.sound c.args.unheard.now.items 1 4 c.args.heard.now (omega arith) c.requires.room

pub miss-requires-clause-lists : goal.miss-requires-clause-lists
miss-requires-clause-lists c =
    subst (λ (kind : PinKind). AreHeardAs kind c.frame.new.self.device.codecs c.args.heard.now) (sym c.frame.ensures.kind)
    (listed-moved c.args.self.now.kind c.args.self.now.device c.frame.new.self.device c.frame.ensures.codecs c.frame.ensures.sound c.args.heard.now c.requires.lists)

pub returns-in-Hole-clause-heard : goal.returns-in-Hole-clause-heard
returns-in-Hole-clause-heard c memory world is =
    let device : DeviceState = c.frame.new.self.device in
    let lists : List Listing = heard_now c.frame.new.self.kind c.args.self.now.device c.args.unheard.now.items c.args.heard.now in
    let missed : c.miss.new.heard ≡ map (with_items (Hole ∷ [])) lists =
    c.miss.ensures.heard
    ∙ ap (map (with_items (Hole ∷ [])))
    (heard-same c.frame.new.self.kind c.args.self.now.device device c.frame.ensures.codecs c.frame.ensures.sound c.args.unheard.now.items c.args.heard.now) in
    let none : heard_now c.frame.new.self.kind device c.miss.new.unheard.items c.miss.new.heard ≡ c.miss.new.heard =
    ap (λ (bytes : List ℕ). heard_now c.frame.new.self.kind device bytes c.miss.new.heard) c.miss.ensures.none ∙ heard-none (layout_now device) (signal_now c.frame.new.self.kind device) c.miss.new.heard in
    subst (λ (kind : PinKind). FramesHeardAs kind world (frame_step world) (heard_now kind c.args.self.now.device c.args.unheard.now.items c.args.heard.now)
    (heard_now c.frame.new.self.kind device c.miss.new.unheard.items c.miss.new.heard)) c.frame.ensures.kind
    (subst (FramesHeardAs c.frame.new.self.kind world (frame_step world) lists) (sym none)
    (grew_hole c.frame.new.self.kind world lists c.miss.new.heard (c.in-Hole.ensures.answer memory world is).0 (missed ∙ hole-grows c.frame.new.self.kind (frame_carried world Missed) lists refl)))

pub returns-in-Hole-clause-whole : goal.returns-in-Hole-clause-whole
returns-in-Hole-clause-whole c =
    subst (AreWhole (layout_now c.frame.new.self.device)) (sym c.miss.ensures.none) (whole-none (layout_now c.frame.new.self.device))

pub returns-in-Hole-clause-room : goal.returns-in-Hole-clause-room
returns-in-Hole-clause-room c more has =
    let device : DeviceState = c.frame.new.self.device in
    let none : block_count (layout_now device) c.miss.new.unheard.items ≡ 0 =
    ap (block_count (layout_now device)) c.miss.ensures.none ∙ count-none (layout_now device) in
    HasRoom-fewer (block_count (layout_now device) c.miss.new.unheard.items + more) more c.miss.new.heard (omega (arith, none))
    (c.miss.ensures.room more
    (room-moved c.args.self.now.device device c.frame.ensures.codecs c.frame.ensures.sound c.args.unheard.now.items (1 + more) (4 + more) c.args.heard.now (omega arith) has))
