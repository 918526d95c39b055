use Rattle.std.proofs.Common.{◌≡◌, ◌≤◌, ◌+◌, ◌*◌, ℕ, List, length, map, take, Option, sym, ap, ◌∙◌, rules, arith}
use Rattle.stream_format.specs.Cadence.{bytes_of_block}
use Rattle.stream_format.specs.Layouts.{Layout}
use Rattle.heard_lists.specs.Listings.{Listing, with_blocks}
use Rattle.hda_controller.specs.Controllers.{signal_now}
use Rattle.hda_controller.specs.Unheard.{block_count, heard_now, layout_now, with_heard}
use Rattle.hda_controller.proofs.Due.{due_fit, due_whole, due_items, due_layout}
use Rattle.hda_controller.proofs.controller.Controller.keep.Goals as goal
use Rattle.heard_lists.proofs.Callers.{HasRoom-fewer}

pub overflow_mul-size : goal.overflow_mul-size
overflow_mul-size c =
    let fit : c.args.blocks * c.block_bytes.result ≤ 128 =
    due_fit c.args.self.now.device.registers.output.format c.args.blocks c.in-Some.format c.requires.due c.in-Some.ensures c.block_bytes.result c.block_bytes.ensures in
    search rules

pub shared_ref_as_front-keep_bytes : goal.shared_ref_as_front-keep_bytes
shared_ref_as_front-keep_bytes c =
    due_fit c.args.self.now.device.registers.output.format c.args.blocks c.in-Some.format c.requires.due c.in-Some.ensures c.block_bytes.result c.block_bytes.ensures

pub keep_bytes-requires-clause-whole : goal.keep_bytes-requires-clause-whole
keep_bytes-requires-clause-whole c =
    let long : length c.args.bytes.now ≡ 128 = search rules in
    due_whole c.args.self.now.device.registers.output.format c.args.blocks c.in-Some.format c.requires.due c.in-Some.ensures c.block_bytes.result c.args.bytes.now c.block_bytes.ensures long

pub keep_bytes-requires-clause-room : goal.keep_bytes-requires-clause-room
keep_bytes-requires-clause-room c =
    let before : ℕ = block_count (layout_now c.args.self.now.device) c.args.unheard.now.items in
    HasRoom-fewer before (before + 4) c.args.heard.now (omega arith) c.requires.room

pub returns-clause-heard : goal.returns-clause-heard
returns-clause-heard c layout reads =
    let device = c.args.self.now.device in
    let front : List ℕ = take (c.args.blocks * c.block_bytes.result) c.args.bytes.now in
    let before : List Listing = heard_now c.args.self.now.kind device c.args.unheard.now.items c.args.heard.now in
    let size : c.block_bytes.result ≡ bytes_of_block layout.channels layout.bits =
    c.block_bytes.ensures
    ∙ ap (λ (l : Layout). bytes_of_block l.channels l.bits)
    (sym (due_layout device.registers.output.format c.args.blocks c.in-Some.format c.requires.due c.in-Some.ensures layout reads)) in
    c.keep_bytes.ensures.heard
    ∙ (ap (λ (found : Option Layout). with_heard found (signal_now c.args.self.now.kind device) front before) reads
    ∙ ap (λ (n : ℕ). map (with_blocks (signal_now c.args.self.now.kind device) layout (take (c.args.blocks * n) c.args.bytes.now)) before) size)

pub returns-clause-room : goal.returns-clause-room
returns-clause-room c more has =
    let long : length c.args.bytes.now ≡ 128 = search rules in
    let device = c.args.self.now.device in
    let before : ℕ = block_count (layout_now device) c.args.unheard.now.items in
    let these : ℕ = block_count (layout_now device) (take (c.args.blocks * c.block_bytes.result) c.args.bytes.now) in
    let few : these ≤ 4 =
    due_items device.registers.output.format c.args.blocks c.in-Some.format c.requires.due c.in-Some.ensures c.block_bytes.result c.args.bytes.now c.block_bytes.ensures long in
    c.keep_bytes.ensures.room more (HasRoom-fewer (before + (these + more)) (before + (4 + more)) c.args.heard.now (omega (arith, few)) has)
