use Rattle.std.proofs.Common.{◌≡◌, ◌+◌, ℕ, get_or, Option, refl, sym, subst, arith}
use Rattle.stream_format.specs.Layouts.{Layout}
use Rattle.heard_lists.specs.Listings.{Listing, HasRoom}
use Rattle.hda_world.specs.Worlds.{codec_at}
use Rattle.hda_controller.specs.Controllers.{signal_now}
use Rattle.hda_controller.specs.Hearing.{AreHeardAs}
use Rattle.hda_controller.specs.Unheard.{block_count, with_heard}
use Rattle.hda_controller.proofs.Due.{among}
use Rattle.hda_controller.proofs.Unheard.{listed-on}
use Rattle.hda_controller.proofs.controller.Controller.hear.Goals as goal

pub hear-requires-clause-room : goal.hear-requires-clause-room
hear-requires-clause-room c =
    subst (λ (found : Option Layout). HasRoom (block_count found c.args.bytes.now) c.args.heard.now) (sym c.in-Some.ensures) c.requires.room

pub hear-requires-clause-pairs : goal.hear-requires-clause-pairs
hear-requires-clause-pairs c k d within =
    let listing : Listing = get_or c.args.heard.now k d in
    let device = c.args.self.now.device in
    among c.args.self.now.kind c.in-Some.format (codec_at listing.codec device.codecs) device.registers.output.tag device.registers.output.format listing.pin c.in-Some.ensures

pub returns-in-Some-clause-heard : goal.returns-in-Some-clause-heard
returns-in-Some-clause-heard c =
    subst (λ (found : Option Layout). c.hear.new.self ≡ with_heard found (signal_now c.args.self.now.kind c.args.self.now.device) c.args.bytes.now c.args.heard.now) c.in-Some.ensures c.hear.ensures.lists

pub returns-in-Some-clause-room : goal.returns-in-Some-clause-room
returns-in-Some-clause-room c more has =
    c.hear.ensures.room more
    (subst (λ (found : Option Layout). HasRoom (block_count found c.args.bytes.now + more) c.args.heard.now) (sym c.in-Some.ensures) has)

pub returns-in-Some-clause-lists : goal.returns-in-Some-clause-lists
returns-in-Some-clause-lists c =
    subst (AreHeardAs c.args.self.now.kind c.args.self.now.device.codecs) (sym (returns-in-Some-clause-heard c))
    (listed-on c.args.self.now.kind c.args.self.now.device.codecs _ (signal_now c.args.self.now.kind c.args.self.now.device) c.args.bytes.now c.args.heard.now c.requires.lists)

pub returns-in_default-clause-heard : goal.returns-in_default-clause-heard
returns-in_default-clause-heard c =
    subst (λ (found : Option Layout). c.args.heard.now ≡ with_heard found (signal_now c.args.self.now.kind c.args.self.now.device) c.args.bytes.now c.args.heard.now) c.in_default.ensures refl

pub returns-in_default-clause-room : goal.returns-in_default-clause-room
returns-in_default-clause-room c more has =
    let none : 0 + more ≡ more = omega arith in
    subst (λ (items : ℕ). HasRoom items c.args.heard.now) none
    (subst (λ (found : Option Layout). HasRoom (block_count found c.args.bytes.now + more) c.args.heard.now) (sym c.in_default.ensures) has)
