use Rattle.std.proofs.Common.{◌≡◌, ◌+◌, ◌-◌, ◌*◌, ℕ, List, refl, sym, ap, subst, ◌∙◌, arith}
use Rattle.codec_graph.specs.declared.pin_kind.PinKind.{PinKind}
use Rattle.hda_world.specs.Worlds.{World}
use Rattle.hda_world.specs.Steps.{times, frame_step}
use Rattle.heard_lists.specs.Listings.{Listing, HasRoom}
use Rattle.hda_controller.specs.Controllers.{StandsFor, signal_now}
use Rattle.hda_controller.specs.Hearing.{CameAs, FramesHeardAs}
use Rattle.hda_controller.specs.Unheard.{AreWhole, block_count, heard_now, layout_now}
use Rattle.hda_controller.proofs.Growth.{grew_still, grew_on, came_still, came_on, times-one_more}
use Rattle.hda_controller.proofs.Unheard.{count-none, heard-none, whole-none}
use Rattle.hda_controller.proofs.controller.Controller.link_together.Goals as goal
use Rattle.heard_lists.proofs.Callers.{HasRoom-fewer}

pub loop-passed-init : goal.loop-passed-init
loop-passed-init c =
    let device = c.args.self.now.device in
    let none = c.new-unheard.ensures in
    let heard : heard_now c.args.self.now.kind device c.new-unheard.result.items c.args.heard.now ≡ c.args.heard.now =
    ap (λ (bytes : List ℕ). heard_now c.args.self.now.kind device bytes c.args.heard.now) none ∙ heard-none (layout_now device) (signal_now c.args.self.now.kind device) c.args.heard.now in
    let count : block_count (layout_now device) c.new-unheard.result.items ≡ 0 = ap (block_count (layout_now device)) none ∙ count-none (layout_now device) in
    record {
      stands = λ memory world is. is;
      heard = λ memory world is. subst (FramesHeardAs c.args.self.now.kind world world c.args.heard.now) (sym heard) (grew_still c.args.self.now.kind world world c.args.heard.now refl);
      whole = subst (AreWhole (layout_now device)) (sym none) (whole-none (layout_now device));
      room = λ more has.
          HasRoom-fewer (block_count (layout_now device) c.new-unheard.result.items + (4 * (c.args.frames - 0) + more)) (4 * c.args.frames + more) c.args.heard.now (omega (arith, count)) has;
      lists = c.requires.lists;
      kept = refl;
      kind = refl;
      came = λ memory world is. came_still world world c.args.came.now.items refl;
      space = λ more fits. omega (arith, fits);
    }

pub link_frame-requires-clause-room : goal.link_frame-requires-clause-room
link_frame-requires-clause-room c =
    let before : ℕ = block_count (layout_now c.loop-passed.self.device) c.loop-passed.unheard.items in
    HasRoom-fewer (before + 4) (before + (4 * (c.args.frames - c.loop-passed._passed) + 0)) c.loop-passed.heard (let passed = c.loop-passed-test.true in omega (arith, passed))
    (c.loop-passed.invariant.room 0 (HasRoom-fewer (4 * c.args.frames + 0) (4 * c.args.frames) c.args.heard.now (omega arith) c.requires.room))

pub link_frame-requires-clause-whole : goal.link_frame-requires-clause-whole
link_frame-requires-clause-whole c = c.loop-passed.invariant.whole

pub link_frame-requires-clause-lists : goal.link_frame-requires-clause-lists
link_frame-requires-clause-lists c = c.loop-passed.invariant.lists

pub loop-passed-preserved : goal.loop-passed-preserved
loop-passed-preserved c =
    let passed : ℕ = c.loop-passed._passed in
    let left : ℕ = c.args.frames - (passed + 1) in
    let test = c.loop-passed-test.true in
    let before : ℕ = block_count (layout_now c.loop-passed.self.device) c.loop-passed.unheard.items in
    let old : List Listing = heard_now c.loop-passed.self.kind c.loop-passed.self.device c.loop-passed.unheard.items c.loop-passed.heard in
    let new : List Listing = heard_now c.link_frame.new.self.kind c.link_frame.new.self.device c.link_frame.new.unheard.items c.link_frame.new.heard in
    record {
      stands = λ memory world is.
          subst (λ (w : World). StandsFor memory c.link_frame.new.self w) (sym (times-one_more passed frame_step world))
          (c.link_frame.ensures.stands memory (times passed frame_step world) (c.loop-passed.invariant.stands memory world is));
      heard = λ memory world is.
          subst (λ (w : World). FramesHeardAs c.args.self.now.kind world w c.args.heard.now new) (sym (times-one_more passed frame_step world))
          (grew_on c.args.self.now.kind world (times passed frame_step world) (frame_step (times passed frame_step world)) c.args.heard.now old new
          (c.loop-passed.invariant.heard memory world is)
          (subst (λ (kind : PinKind). FramesHeardAs kind (times passed frame_step world) (frame_step (times passed frame_step world)) old new) c.loop-passed.invariant.kind
          (c.link_frame.ensures.heard memory (times passed frame_step world) (c.loop-passed.invariant.stands memory world is))));
      whole = c.link_frame.ensures.whole;
      room = λ more has.
          c.link_frame.ensures.room (4 * left + more)
          (HasRoom-fewer (before + (4 + (4 * left + more))) (before + (4 * (c.args.frames - passed) + more)) c.loop-passed.heard (omega (arith, test)) (c.loop-passed.invariant.room more has));
      lists = c.link_frame.ensures.lists;
      kept = c.link_frame.ensures.kept ∙ c.loop-passed.invariant.kept;
      kind = c.link_frame.ensures.kind ∙ c.loop-passed.invariant.kind;
      came = λ memory world is.
          subst (λ (w : World). CameAs world w c.args.came.now.items c.link_frame.new.came.items) (sym (times-one_more passed frame_step world))
          (came_on world (times passed frame_step world) (frame_step (times passed frame_step world)) c.args.came.now.items c.loop-passed.came.items c.link_frame.new.came.items
          (c.loop-passed.invariant.came memory world is) (c.link_frame.ensures.came memory (times passed frame_step world) (c.loop-passed.invariant.stands memory world is)));
      space = λ more fits.
          c.link_frame.ensures.space (4 * left + more) (let room = c.loop-passed.invariant.space more fits in omega (arith, test, room));
    }

pub hear-requires-clause-room : goal.hear-requires-clause-room
hear-requires-clause-room c =
    let device = c.loop-passed.self.device in
    let before : ℕ = block_count (layout_now device) c.loop-passed.unheard.items in
    subst (λ (bytes : List ℕ). HasRoom (block_count (layout_now device) bytes) c.loop-passed.heard) (sym c.as_slice.ensures.value)
    (HasRoom-fewer before (before + (4 * (c.args.frames - c.loop-passed._passed) + 0)) c.loop-passed.heard (omega arith)
    (c.loop-passed.invariant.room 0 (HasRoom-fewer (4 * c.args.frames + 0) (4 * c.args.frames) c.args.heard.now (omega arith) c.requires.room)))

pub hear-requires-clause-lists : goal.hear-requires-clause-lists
hear-requires-clause-lists c = c.loop-passed.invariant.lists

pub returns-clause-stands : goal.returns-clause-stands
returns-clause-stands c memory world is =
    let end : c.loop-passed._passed ≡ c.args.frames = omega arith in
    subst (λ (n : ℕ). StandsFor memory c.loop-passed.self (times n frame_step world)) end (c.loop-passed.invariant.stands memory world is)

pub returns-clause-heard : goal.returns-clause-heard
returns-clause-heard c memory world is =
    let end : c.loop-passed._passed ≡ c.args.frames = omega arith in
    let device = c.loop-passed.self.device in
    let lists : c.hear.new.heard ≡ heard_now c.loop-passed.self.kind device c.loop-passed.unheard.items c.loop-passed.heard =
    c.hear.ensures.heard ∙ ap (λ (bytes : List ℕ). heard_now c.loop-passed.self.kind device bytes c.loop-passed.heard) c.as_slice.ensures.value in
    subst (λ (l : List Listing). FramesHeardAs c.args.self.now.kind world (times c.args.frames frame_step world) c.args.heard.now l) (sym lists)
    (subst (λ (n : ℕ). FramesHeardAs c.args.self.now.kind world (times n frame_step world) c.args.heard.now (heard_now c.loop-passed.self.kind device c.loop-passed.unheard.items c.loop-passed.heard)) end
    (c.loop-passed.invariant.heard memory world is))

pub returns-clause-room : goal.returns-clause-room
returns-clause-room c more has =
    let device = c.loop-passed.self.device in
    let before : ℕ = block_count (layout_now device) c.loop-passed.unheard.items in
    c.hear.ensures.room more
    (subst (λ (bytes : List ℕ). HasRoom (block_count (layout_now device) bytes + more) c.loop-passed.heard) (sym c.as_slice.ensures.value)
    (HasRoom-fewer (before + more) (before + (4 * (c.args.frames - c.loop-passed._passed) + more)) c.loop-passed.heard (omega arith) (c.loop-passed.invariant.room more has)))

pub returns-clause-kept : goal.returns-clause-kept
returns-clause-kept c = c.loop-passed.invariant.kept

pub link_frame-requires-clause-space : goal.link_frame-requires-clause-space
link_frame-requires-clause-space c = (let test = c.loop-passed-test.true in let room = c.loop-passed.invariant.space 0 (omega (arith, c.requires.space)) in omega (arith, test, room))

pub returns-clause-came : goal.returns-clause-came
returns-clause-came c memory world is =
    let end : c.loop-passed._passed ≡ c.args.frames = omega arith in
    subst (λ (n : ℕ). CameAs world (times n frame_step world) c.args.came.now.items c.loop-passed.came.items) end (c.loop-passed.invariant.came memory world is)

pub returns-clause-space : goal.returns-clause-space
returns-clause-space c more fits = (let room = c.loop-passed.invariant.space more fits in omega (arith, room))

pub returns-clause-kind : goal.returns-clause-kind
returns-clause-kind c = c.loop-passed.invariant.kind
