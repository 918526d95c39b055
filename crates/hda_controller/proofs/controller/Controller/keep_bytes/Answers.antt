use Rattle.std.proofs.Common.{◌≡◌, ◌+◌, ℕ, List, refl, sym, ap, subst, ◌∙◌, arith}
use Rattle.heard_lists.specs.Listings.{HasRoom}
use Rattle.hda_controller.specs.Controllers.{signal_now}
use Rattle.hda_controller.specs.Unheard.{AreWhole, block_count, heard_now, layout_now}
use Rattle.hda_controller.proofs.Unheard.{count-on, whole-on, heard-on}
use Rattle.hda_controller.proofs.controller.Controller.keep_bytes.Goals as goal
use Rattle.heard_lists.proofs.Callers.{HasRoom-fewer}

-- ---- there is room

pub returns-in-Ok-clause-heard : goal.returns-in-Ok-clause-heard
returns-in-Ok-clause-heard c =
    let device = c.args.self.now.device in
    ap (λ (bytes : List ℕ). heard_now c.args.self.now.kind device bytes c.args.heard.now) c.in-Ok.ensures.ok
    ∙ heard-on device.registers.output.format (layout_now device) refl (signal_now c.args.self.now.kind device) c.args.unheard.now.items c.args.bytes.now c.args.heard.now c.requires.before

pub returns-in-Ok-clause-whole : goal.returns-in-Ok-clause-whole
returns-in-Ok-clause-whole c =
    let device = c.args.self.now.device in
    subst (AreWhole (layout_now device)) (sym c.in-Ok.ensures.ok)
    (whole-on device.registers.output.format (layout_now device) refl c.args.unheard.now.items c.args.bytes.now c.requires.before c.requires.whole)

pub returns-in-Ok-clause-room : goal.returns-in-Ok-clause-room
returns-in-Ok-clause-room c more has =
    let device = c.args.self.now.device in
    let before : ℕ = block_count (layout_now device) c.args.unheard.now.items in
    let these : ℕ = block_count (layout_now device) c.args.bytes.now in
    let count : block_count (layout_now device) c.try_extend_from_slice.new.self.items ≡ before + these =
    ap (block_count (layout_now device)) c.in-Ok.ensures.ok
    ∙ count-on device.registers.output.format (layout_now device) refl c.args.unheard.now.items c.args.bytes.now c.requires.before in
    HasRoom-fewer (block_count (layout_now device) c.try_extend_from_slice.new.self.items + more) (before + (these + more)) c.args.heard.now (omega (arith, count)) has

-- ---- there is none

pub keep_first-requires-clause-room : goal.keep_first-requires-clause-room
keep_first-requires-clause-room c =
    subst (λ (bytes : List ℕ). HasRoom (block_count (layout_now c.args.self.now.device) bytes) c.args.heard.now) (sym (ap (λ v. v.items) c.in-Err.ensures.err)) c.requires.room

pub returns-in-Err-clause-heard : goal.returns-in-Err-clause-heard
returns-in-Err-clause-heard c =
    let device = c.args.self.now.device in
    ap (λ (bytes : List ℕ). heard_now c.args.self.now.kind device bytes c.keep_first.new.heard) c.keep_first.ensures.bytes
    ∙ (ap (heard_now c.args.self.now.kind device c.args.bytes.now) c.keep_first.ensures.heard
    ∙ ap (λ v. heard_now c.args.self.now.kind device c.args.bytes.now (heard_now c.args.self.now.kind device v.items c.args.heard.now)) c.in-Err.ensures.err)

pub returns-in-Err-clause-whole : goal.returns-in-Err-clause-whole
returns-in-Err-clause-whole c =
    subst (AreWhole (layout_now c.args.self.now.device)) (sym c.keep_first.ensures.bytes) c.requires.whole

pub returns-in-Err-clause-room : goal.returns-in-Err-clause-room
returns-in-Err-clause-room c more has =
    let device = c.args.self.now.device in
    subst (λ (bytes : List ℕ). HasRoom (block_count (layout_now device) bytes + more) c.keep_first.new.heard) (sym c.keep_first.ensures.bytes)
    (c.keep_first.ensures.room (block_count (layout_now device) c.args.bytes.now + more)
    (subst (λ (bytes : List ℕ). HasRoom (block_count (layout_now device) bytes + (block_count (layout_now device) c.args.bytes.now + more)) c.args.heard.now) (sym (ap (λ v. v.items) c.in-Err.ensures.err)) has))
