use Rattle.std.proofs.Common.{◌≡◌, ◌≤◌, ◌+◌, ◌*◌, ◌/◌, ℕ, length, map, take, get_or, sym, ap, ◌∙◌, rules, arith}
use Rattle.stream_format.specs.Cadence.{block_bytes, bytes_of_block}
use Rattle.stream_format.specs.Layouts.{Layout}
use Rattle.hda_world.specs.Worlds.{codec_at}
use Rattle.heard_lists.specs.Listings.{Listing, with_blocks}
use Rattle.hda_controller.specs.Controllers.{signal_now}
use Rattle.hda_controller.proofs.Due.{among, due_fit, few_items, due_layout}
use Rattle.hda_controller.proofs.controller.Controller.hear_frame.Goals as goal
use Rattle.heard_lists.proofs.Callers.{HasRoom-fewer}

pub overflow_mul-size : goal.overflow_mul-size
overflow_mul-size c =
    let fit : c.args.blocks * c.block_bytes.result ≤ 128 =
    due_fit c.args.self.now.device.registers.output.format c.args.blocks c.in-Some.format c.requires.due c.in-Some.ensures c.block_bytes.result c.block_bytes.ensures in
    search rules

pub shared_ref_as_front-hear : goal.shared_ref_as_front-hear
shared_ref_as_front-hear c =
    due_fit c.args.self.now.device.registers.output.format c.args.blocks c.in-Some.format c.requires.due c.in-Some.ensures c.block_bytes.result c.block_bytes.ensures

pub hear-requires-clause-room : goal.hear-requires-clause-room
hear-requires-clause-room c =
    let long : length c.args.bytes.now ≡ 128 = search rules in
    HasRoom-fewer (length (take (c.args.blocks * c.block_bytes.result) c.args.bytes.now) / block_bytes c.in-Some.format) 4 c.args.heard.now
    (few_items c.args.self.now.device.registers.output.format c.args.blocks c.in-Some.format c.requires.due c.in-Some.ensures c.block_bytes.result c.args.bytes.now c.block_bytes.ensures long)
    c.requires.room

pub hear-requires-clause-pairs : goal.hear-requires-clause-pairs
hear-requires-clause-pairs c k d within =
    let listing : Listing = get_or c.args.heard.now k d in
    let device = c.args.self.now.device in
    among c.args.self.now.kind c.in-Some.format (codec_at listing.codec device.codecs) device.registers.output.tag device.registers.output.format listing.pin c.in-Some.ensures

pub returns-clause-heard : goal.returns-clause-heard
returns-clause-heard c layout reads =
    let device = c.args.self.now.device in
    let same = due_layout device.registers.output.format c.args.blocks c.in-Some.format c.requires.due c.in-Some.ensures layout reads in
    let size : c.block_bytes.result ≡ bytes_of_block layout.channels layout.bits =
    c.block_bytes.ensures ∙ ap (λ (l : Layout). bytes_of_block l.channels l.bits) (sym same) in
    c.hear.ensures.lists
    ∙ (ap (λ (l : Layout). map (with_blocks (signal_now c.args.self.now.kind device) l (take (c.args.blocks * c.block_bytes.result) c.args.bytes.now)) c.args.heard.now) (sym same)
    ∙ ap (λ (n : ℕ). map (with_blocks (signal_now c.args.self.now.kind device) layout (take (c.args.blocks * n) c.args.bytes.now)) c.args.heard.now) size)

pub returns-clause-room : goal.returns-clause-room
returns-clause-room c more has =
    let long : length c.args.bytes.now ≡ 128 = search rules in
    let these : ℕ = length (take (c.args.blocks * c.block_bytes.result) c.args.bytes.now) / block_bytes c.in-Some.format in
    let few : these ≤ 4 =
    few_items c.args.self.now.device.registers.output.format c.args.blocks c.in-Some.format c.requires.due c.in-Some.ensures c.block_bytes.result c.args.bytes.now c.block_bytes.ensures long in
    c.hear.ensures.room more (HasRoom-fewer (these + more) (4 + more) c.args.heard.now (omega (arith, few)) has)
