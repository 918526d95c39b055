use Rattle.std.proofs.Common.{◌≡◌, ◌+◌, ◌++◌, nat_le, ℕ, List, length, replicate, Bool, true, false, refl, sym, ap, subst, ◌∙◌, arith}
use Rattle.world_streams.specs.Input.{given_block, entered_after, marks_after}
use Rattle.stream_fetch.specs.Fetching.{Fetching}
use Rattle.stream_descriptor.specs.Taking.{blocks_in}
use Rattle.stream_descriptor.proofs.Accepting.{Accepted, at_first, accept_more, accept_last, accept_all}
use Rattle.stream_descriptor.proofs.stream.taking.accept_blocks.Goals as goal

pub loop-place-init : goal.loop-place-init
loop-place-init c = record {
  accepted = at_first c.args.blocks.size c.args.sound.now c.args.blocks.from c.args.blocks.count c.args.fetch.now.capacity c.args.fetch.now.bytes;
  kept = refl;
}

-- the FIFO with other bytes
abbrev with_bytes : List ℕ → Fetching → Fetching
with_bytes bytes fetch = record fetch { bytes = bytes }

-- a FIFO with the capacity of another one has room as that one has
same_room : (size : ℕ) (start now : Fetching) (result room : Bool) → now ≡ with_bytes now.bytes start → result ≡ nat_le (length now.bytes + size) now.capacity → result ≡ room
    → nat_le (length now.bytes + size) start.capacity ≡ room
same_room size start now result room kept fits is = ap (λ (fetch : Fetching). nat_le (length now.bytes + size) fetch.capacity) (sym kept) ∙ sym fits ∙ is

pub loop-place-preserved : goal.loop-place-preserved
loop-place-preserved c =
    let here = c.loop-place.invariant in
    let took = c.if-not-accept_block.false in
    let fits = same_room c.args.blocks.size c.args.fetch.now c.loop-place.fetch _ true here.kept c.accept_block.ensures.fits took in
    let bytes = c.loop-place.fetch.bytes ++ given_block c.args.blocks.size c.args.sound.now (c.args.blocks.from + c.loop-place.place) in
    let is : c.accept_block.new.fetch ≡ with_bytes bytes c.args.fetch.now = c.accept_block.ensures.taken took ∙ ap (with_bytes bytes) here.kept in
    let now : c.accept_block.new.fetch.bytes ≡ bytes = ap (λ (fetch : Fetching). fetch.bytes) is in
    record {
      accepted = (
          subst (λ (bytes : List ℕ). Accepted c.args.blocks.size c.args.sound.now c.args.blocks.from c.args.blocks.count c.args.fetch.now.capacity c.args.fetch.now.bytes bytes (c.loop-place.place + 1)) (sym now)
          (accept_more c.args.blocks.size c.args.sound.now c.args.blocks.from c.args.blocks.count c.args.fetch.now.capacity c.args.fetch.now.bytes c.loop-place.fetch.bytes c.loop-place.place c.loop-place-test.true fits here.accepted));
      kept = is ∙ ap (λ (bytes : List ℕ). with_bytes bytes c.args.fetch.now) (sym now);
    }

pub returns-then-not-accept_block-clause-fetch : goal.returns-then-not-accept_block-clause-fetch
returns-then-not-accept_block-clause-fetch c =
    let here = c.loop-place.invariant in
    let full = same_room c.args.blocks.size c.args.fetch.now c.loop-place.fetch _ false here.kept c.accept_block.ensures.fits c.if-not-accept_block.true in
    let last = accept_last c.args.blocks.size c.args.sound.now c.args.blocks.from c.args.blocks.count c.args.fetch.now.capacity c.args.fetch.now.bytes c.loop-place.fetch.bytes c.loop-place.place full here.accepted in
    c.accept_block.ensures.kept c.if-not-accept_block.true ∙ here.kept ∙ ap (λ (bytes : List ℕ). with_bytes bytes c.args.fetch.now) (sym last.0)

pub returns-then-not-accept_block-clause-marks : goal.returns-then-not-accept_block-clause-marks
returns-then-not-accept_block-clause-marks c =
    let here = c.loop-place.invariant in
    let full = same_room c.args.blocks.size c.args.fetch.now c.loop-place.fetch _ false here.kept c.accept_block.ensures.fits c.if-not-accept_block.true in
    sym (accept_last c.args.blocks.size c.args.sound.now c.args.blocks.from c.args.blocks.count c.args.fetch.now.capacity c.args.fetch.now.bytes c.loop-place.fetch.bytes c.loop-place.place full here.accepted).1

-- all came
all : (c : goal.After-loop-place)
    → (entered_after c.args.fetch.now.capacity 0 c.args.fetch.now.bytes (blocks_in c.args.sound.now c.args.blocks) ≡ c.loop-place.fetch.bytes)
    × (marks_after c.args.fetch.now.capacity 0 c.args.fetch.now.bytes (blocks_in c.args.sound.now c.args.blocks) ≡ replicate c.args.blocks.count true ++ replicate 0 false)
all c =
    accept_all c.args.blocks.size c.args.sound.now c.args.blocks.from c.args.blocks.count c.args.fetch.now.capacity c.args.fetch.now.bytes c.loop-place.fetch.bytes c.loop-place.place
    (omega (arith, c.loop-place-test.false, c.loop-place.auto.place-end)) c.loop-place.invariant.accepted

pub returns-clause-fetch : goal.returns-clause-fetch
returns-clause-fetch c = c.loop-place.invariant.kept ∙ ap (λ (bytes : List ℕ). with_bytes bytes c.args.fetch.now) (sym (all c).0)

pub returns-clause-marks : goal.returns-clause-marks
returns-clause-marks c = sym (all c).1
