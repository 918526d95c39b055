use Rattle.std.proofs.Common.{◌≡◌, ℕ, List, Option, Some, None, refl, ap, sym, subst, ◌∙◌, length}
use Rattle.std.specs.Vec.{with_items}
use Rattle.codec_graph.specs.CodecStates.{CodecState, taken}
use Rattle.world_rings.specs.declared.response.Response.{Response}
use Rattle.world_steps.specs.declared.Step.TheVariants as step
use Rattle.hda_world.specs.Worlds.{codec_at, with_codec}
use Rattle.hda_world.specs.Steps.{address_of, is_busy, corb_step}
use Rattle.device_core.specs.Codecs.{addresses_of, handed_by, handed_now}
use Rattle.device_core.specs.Captures.{CaptureState}
use Rattle.device_core.specs.declared.capture.Source.TheVariants.{Stale}
use Rattle.device_core.specs.Devices.{DeviceState, IsWorld}
use Rattle.device_core.specs.Keeping.{IsDevice}
use Rattle.device_core.proofs.Places.{put_back}
use Rattle.device_core.proofs.Handing.{handed_within, length-with_codec}
use Rattle.device_core.proofs.Standing.{shown_world, shown_is}
use Rattle.device_core.proofs.Steps.{step_keeps, corb_handed, corb_still, busy_hands_none}
use Rattle.device_core.proofs.device.Device.corb.Goals as goal
use Rattle.hda_world.proofs.Callers.{addresses-with_codec}

pub returns-then-is_busy-clause-handed : goal.returns-then-is_busy-clause-handed
returns-then-is_busy-clause-handed c =
    let next = sym c.next_word.ensures ∙ c.in-Some.is in
    let busy = ap (λ (codecs : List CodecState). is_busy (codec_at (address_of c.in-Some.word) codecs)) (sym c.as_slice.ensures.value) ∙ (sym c.is_busy.ensures ∙ c.if-is_busy.true) in
    subst (λ (device : DeviceState). None ≡ handed_now device.registers c.args.memory.now device.codecs) c.self.view_is
    (sym (ap (λ (word : Option ℕ). handed_by word c.self.inside.codecs.items) next ∙ busy_hands_none c.in-Some.word c.self.inside.codecs.items busy))

pub invariant_of-self : goal.invariant_of-self
invariant_of-self c =
    let before : DeviceState = record { registers = c.self.inside.registers; codecs = c.self.inside.codecs.items; waiting = c.self.inside.rings; frames = c.self.inside.frames; input = c.self.inside.input; output = c.self.inside.output } in
    let memory = c.args.memory.now in
    let word = c.in-Some.word in
    let next = sym c.next_word.ensures ∙ c.in-Some.is in
    let free = ap (λ (codecs : List CodecState). is_busy (codec_at (address_of word) codecs)) (sym c.as_slice.ensures.value) ∙ (sym c.is_busy.ensures ∙ c.if-is_busy.false) in
    let back = put_back (address_of word) (λ codec. taken codec word) c.self.inside.codecs c.hand.new.codecs (c.hand.ensures.codecs ∙ ap (with_codec (address_of word) (λ codec. taken codec word)) c.as_mut_slice.ensures.value) in
    let moved = corb_handed memory before (shown_world memory before) word c.corb-word.new.regs (with_items c.self.inside.codecs c.hand.new.codecs).items Stale (shown_is memory before c.self.invariant) next free c.corb-word.ensures.registers back in
    subst (λ (input : CaptureState). IsDevice (record before { registers = c.corb-word.new.regs; codecs = (with_items c.self.inside.codecs c.hand.new.codecs).items; waiting = c.corb-word.new.self; input = input })) (sym c.forget.ensures)
    (subst (λ (waiting : List Response). IsDevice (record before { registers = c.corb-word.new.regs; codecs = (with_items c.self.inside.codecs c.hand.new.codecs).items; waiting = waiting; input = record before.input { source = Stale } })) (sym c.corb-word.ensures.waiting)
    (step_keeps step.Corb memory memory before _ c.self.invariant moved (corb_still (shown_world memory before)) (ap addresses_of back ∙ addresses-with_codec (address_of word) (λ codec. taken codec word) (λ codec. refl) before.codecs) tt refl refl))

pub returns-clause-stands : goal.returns-clause-stands
returns-clause-stands c world is =
    let before : DeviceState = record { registers = c.self.inside.registers; codecs = c.self.inside.codecs.items; waiting = c.self.inside.rings; frames = c.self.inside.frames; input = c.self.inside.input; output = c.self.inside.output } in
    let memory = c.args.memory.now in
    let here : IsWorld memory before world = subst (λ (device : DeviceState). IsWorld memory device world) (sym c.self.view_is) is in
    let word = c.in-Some.word in
    let next = sym c.next_word.ensures ∙ c.in-Some.is in
    let free = ap (λ (codecs : List CodecState). is_busy (codec_at (address_of word) codecs)) (sym c.as_slice.ensures.value) ∙ (sym c.is_busy.ensures ∙ c.if-is_busy.false) in
    let back = put_back (address_of word) (λ codec. taken codec word) c.self.inside.codecs c.hand.new.codecs (c.hand.ensures.codecs ∙ ap (with_codec (address_of word) (λ codec. taken codec word)) c.as_mut_slice.ensures.value) in
    subst (λ (input : CaptureState). IsWorld memory (record before { registers = c.corb-word.new.regs; codecs = (with_items c.self.inside.codecs c.hand.new.codecs).items; waiting = c.corb-word.new.self; input = input }) (corb_step world)) (sym c.forget.ensures)
    (subst (λ (waiting : List Response). IsWorld memory (record before { registers = c.corb-word.new.regs; codecs = (with_items c.self.inside.codecs c.hand.new.codecs).items; waiting = waiting; input = record before.input { source = Stale } }) (corb_step world)) (sym c.corb-word.ensures.waiting)
    (corb_handed memory before world word c.corb-word.new.regs (with_items c.self.inside.codecs c.hand.new.codecs).items Stale here next free c.corb-word.ensures.registers back))

pub returns-clause-there : goal.returns-clause-there
returns-clause-there c =
    let word = c.in-Some.word in
    let back = put_back (address_of word) (λ codec. taken codec word) c.self.inside.codecs c.hand.new.codecs (c.hand.ensures.codecs ∙ ap (with_codec (address_of word) (λ codec. taken codec word)) c.as_mut_slice.ensures.value) in
    handed_within c.hand.result word c.self.inside.codecs.items (with_items c.self.inside.codecs c.hand.new.codecs).items (c.hand.ensures.handed ∙ ap (handed_by (Some word)) c.as_mut_slice.ensures.value)
    (ap length back ∙ length-with_codec (address_of word) (λ codec. taken codec word) c.self.inside.codecs.items)
