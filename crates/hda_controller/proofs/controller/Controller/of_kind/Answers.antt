use Rattle.std.proofs.Common.{◌≡◌, ◌≤◌, ℕ, List, [], sym, ap, subst, ◌∙◌}
use Rattle.std.specs.Prelude.{All}
use Rattle.std.proofs.lemmas.List.Elements.{All-map}
use Rattle.codec_graph.specs.CodecStates.{CodecState}
use Rattle.codec_sound.specs.Keeping.{KeptSignals}
use Rattle.hda_registers.specs.Fields.{Fields}
use Rattle.hda_registers.specs.declared.shapes.Shape.{Shape}
use Rattle.device_core.specs.Codecs.{AreAddresses, AreIdle, addresses_of}
use Rattle.device_core.specs.Devices.{IsWorld, new_world}
use Rattle.hda_controller.specs.Keeping.{AreKeptFor}
use Rattle.hda_controller.specs.Hearing.{AreHeardAs}
use Rattle.hda_controller.specs.Openings.{codecs_in}
use Rattle.hda_controller.proofs.Listed.{heard_listed, addresses_opened}
use Rattle.hda_controller.proofs.Start.{addresses_good, nothing_waits}
use Rattle.hda_controller.proofs.controller.Controller.of_kind.Goals as goal

pub shape_of-shape-requires-clause-addresses : goal.shape_of-shape-requires-clause-addresses
shape_of-shape-requires-clause-addresses c =
    subst (λ (codecs : List CodecState). All (λ a. a ≤ 14) (addresses_of codecs)) (sym (c.as_slice-3.ensures.value ∙ (c.in_ok-codecs.ensures ∙ ap codecs_in c.as_slice.ensures)))
    (addresses_good c.args.machine.now c.requires).few

pub new-requires-clause-addresses : goal.new-requires-clause-addresses
new-requires-clause-addresses c =
    subst (λ (codecs : List CodecState). AreAddresses (addresses_of codecs)) (sym (c.in_ok-codecs.ensures ∙ ap codecs_in c.as_slice.ensures)) (addresses_good c.args.machine.now c.requires)

pub new-requires-clause-idle : goal.new-requires-clause-idle
new-requires-clause-idle c = subst AreIdle (sym (c.in_ok-codecs.ensures ∙ ap codecs_in c.as_slice.ensures)) (nothing_waits c.args.machine.now.codecs)

pub invariant_of-result : goal.invariant_of-result
invariant_of-result c =
    let is = c.in_ok-device.ensures.stands [] in
    let codecs = ap codecs_in c.as_slice-2.ensures ∙ (sym (c.in_ok-codecs.ensures ∙ ap codecs_in c.as_slice.ensures) ∙ is.codecs_are) in
    let kept = c.in_ok-kept.kept.items in
    subst (λ (f : Fields). AreKeptFor c.args.kind f.output.tag f.output.format c.in_ok-device.device.codecs kept) is.registers_are
    (subst (λ (codecs : List CodecState). AreKeptFor c.args.kind 0 0 codecs kept) codecs c.in_ok-kept.ensures.fit)

pub returns-clause-stands : goal.returns-clause-stands
returns-clause-stands c memory =
    subst (λ (shape : Shape). IsWorld memory c.in_ok-device.device (new_world memory shape (codecs_in c.args.machine.now.codecs))) c.shape_of-shape.ensures
    (subst (λ (codecs : List CodecState). IsWorld memory c.in_ok-device.device (new_world memory c.shape_of-shape.result codecs)) (c.in_ok-codecs.ensures ∙ ap codecs_in c.as_slice.ensures)
    (c.in_ok-device.ensures.stands memory))

pub returns-clause-renewals : goal.returns-clause-renewals
returns-clause-renewals c = All-map (λ (count : ℕ). count ≡ 0) (λ (one : KeptSignals). one.renewals) c.in_ok-kept.kept.items c.in_ok-kept.ensures.counts

pub returns-clause-lists : goal.returns-clause-lists
returns-clause-lists c lists listed =
    subst (λ (codecs : List CodecState). AreHeardAs c.args.kind codecs lists) (sym (c.in_ok-codecs.ensures ∙ ap codecs_in c.as_slice.ensures) ∙ (c.in_ok-device.ensures.stands []).codecs_are)
    (heard_listed c.args.kind c.args.machine.now lists c.requires listed)

pub returns-clause-addresses : goal.returns-clause-addresses
returns-clause-addresses c =
    ap addresses_of (sym (c.in_ok-device.ensures.stands []).codecs_are ∙ (c.in_ok-codecs.ensures ∙ ap codecs_in c.as_slice.ensures))
    ∙ addresses_opened c.args.machine.now.codecs
