-- The trail of a stretch over a poll: whether the outstanding command was answered is said by what is written once the poll is done.
use Rattle.std.proofs.Common.{◌≡◌, ◌≤◌, ◌+◌, ◌*◌, ◌/◌, ◌%◌, ◌==◌, ◌&&◌, ℕ, Bool, true, false, not, List, [], ◌∷◌, ◌++◌, map, drop, if◌then◌else◌, refl, sym, ap, subst, ◌∙◌, append_assoc, arith, rules, tests, lit≤}
use Rattle.std.specs.List.{list_any}
use Rattle.verb_codes.specs.Words.{has_bit}
use Rattle.hda_registers.specs.declared.shapes.Width.TheVariants.{One, Two}
use Rattle.hda_registers.specs.declared.places.TheConstants.{RIRBWP, RIRBSTS}
use Rattle.hda_registers.specs.Fields.{Fields, entries_of, is_out_of_reset}
use Rattle.hda_registers.proofs.Callers.{read-response_flag}
use Rattle.world_rings.specs.declared.response.Response.{Response}
use Rattle.world_rings.specs.declared.entries.TheConstants.{RESPONSE_BYTES}
use Rattle.world_rings.specs.Engines.{can_respond}
use Rattle.world_steps.specs.declared.Step.{Step}
use Rattle.hda_world.specs.Worlds.{World}
use Rattle.hda_world.specs.Steps.{passed}
use Rattle.hda_world.specs.Events.{Event, Stepped, Read, Write, DmaRead, happens, after}
use Rattle.hda_world.specs.Tellings.{Telling, world_of, Accessed, MakesBy, Makes}
use Rattle.hda_world.specs.Kept.{Kept}
use Rattle.hda_world.proofs.Callers.{accessed_then, frames_after, passed_global, access_leaves, world_of-went, by_moves}
use Rattle.command_engine.specs.declared.ring_places.RingPlaces.{RingPlaces}
use Rattle.command_engine.specs.Entries.{answers_it}
use Rattle.command_engine.specs.Polling.{PollReads, asked_of, entry_reads, batch_accesses, poll_accesses}
use Rattle.driver_progress.specs.Tasks.{Task, DriverLine}
use Rattle.driver_progress.specs.Progress.{Trail, trail_of, is_answered}
use Rattle.driver_progress.specs.Noting.{ArePlain, with_accesses}
use Rattle.driver_progress.proofs.TrailRows.{ConformsTo, trail_went, conforms_went, trail_stepped, conforms_stepped, trail_row}

-- ---- RINTFL is a bit, and while it is 1 nothing is written

abbrev IsBit : World → Type 0
IsBit world = world.registers.global.response_flag ≤ 1

flag_passed : (world : World) → (passed world).registers.global.response_flag ≡ world.registers.global.response_flag
flag_passed world = ap (λ global. global.response_flag) (passed_global world)

pub keeps_bit : Kept IsBit
keeps_bit = record {
  codecs = record {
    hands = λ world holds can free. holds;
    sends = λ world address item rest holds out room are. holds;
    loses = λ world address holds out. holds;
    plugs = λ world address nid present holds. holds;
  };
  responds = λ world response rest holds can are. lit≤ tt;
  bytes = record {
    comes = λ world holds can room good is. holds;
    ends = λ world holds can room good is. holds;
    breaks = λ world holds can room bad. holds;
    refuses = λ world holds must. holds;
  };
  input = by_moves IsBit (λ world change holds moves. holds);
  passes = λ world holds out still. subst (λ (flag : ℕ). flag ≤ 1) (sym (flag_passed world)) holds;
  frames = frames_after IsBit (λ world holds out. subst (λ (flag : ℕ). flag ≤ 1) (sym (flag_passed world)) holds) (record {
    gaps = λ world holds can none. holds;
    sends = λ world holds can some enough. holds;
    misses = λ world holds can short. holds;
    stops = λ world holds must. holds;
  });
}

-- RINTFL is 1, and just these responses were written
record IsFlagged (written : List Response) (world : World) : Type 0 where
  flag : world.registers.global.response_flag ≡ 1
  same : world.written ≡ written

no_more : (fields : Fields) → fields.global.response_flag ≡ 1 → can_respond fields ≡ true → ⊥
no_more fields flag can = and_false _ (ap (λ (flag : ℕ). is_out_of_reset fields.global && fields.global.rirb_run == 1 && not (flag == 1)) (sym flag) ∙ can)
  where
    and_false : (b : Bool) → (b && false) ≡ true → ⊥
    and_false true is = cc
    and_false false is = cc

keeps_flagged : (written : List Response) → Kept (IsFlagged written)
keeps_flagged written = record {
  codecs = record {
    hands = λ world holds can free. record { flag = holds.flag; same = holds.same };
    sends = λ world address item rest holds out room are. record { flag = holds.flag; same = holds.same };
    loses = λ world address holds out. record { flag = holds.flag; same = holds.same };
    plugs = λ world address nid present holds. record { flag = holds.flag; same = holds.same };
  };
  responds = λ world response rest holds can are. absurd (no_more world.registers holds.flag can);
  bytes = record {
    comes = λ world holds can room good is. record { flag = holds.flag; same = holds.same };
    ends = λ world holds can room good is. record { flag = holds.flag; same = holds.same };
    breaks = λ world holds can room bad. record { flag = holds.flag; same = holds.same };
    refuses = λ world holds must. record { flag = holds.flag; same = holds.same };
  };
  input = by_moves (IsFlagged written) (λ world change holds moves. record { flag = holds.flag; same = holds.same });
  passes = λ world holds out still. record { flag = flag_passed world ∙ holds.flag; same = holds.same };
  frames = frames_after (IsFlagged written) (λ world holds out. record { flag = flag_passed world ∙ holds.flag; same = holds.same }) (record {
    gaps = λ world holds can none. record { flag = holds.flag; same = holds.same };
    sends = λ world holds can some enough. record { flag = holds.flag; same = holds.same };
    misses = λ world holds can short. record { flag = holds.flag; same = holds.same };
    stops = λ world holds must. record { flag = holds.flag; same = holds.same };
  });
}

-- ---- the rest of a poll

cleared : (written : List Response) (old new : Telling) → Accessed old new (Write RIRBSTS One 1) → IsFlagged written (world_of old) → (world_of new).written ≡ written
cleared written old new accessed flagged =
    accessed_then (IsFlagged written) (λ (world : World). world.written ≡ written) (Write RIRBSTS One 1) (keeps_flagged written) (λ world before honest. (access_leaves world RIRBSTS 1 One).written ∙ before.same) old new accessed flagged

entries_then : (rirb size place : ℕ) (entries : List (List ℕ)) (written : List Response) (old new : Telling) → MakesBy (entry_reads rirb size place entries ++ Write RIRBSTS One 1 ∷ []) old new → IsFlagged written (world_of old)
    → (world_of new).written ≡ written
entries_then rirb size place [] written old new (middle, clears, last) flagged =
    subst (λ (telling : Telling). (world_of telling).written ≡ written) (sym last) (cleared written old middle clears flagged)
entries_then rirb size place (entry ∷ entries) written old new (middle, reads, more) flagged =
    entries_then rirb size (place + 1) entries written middle new more
    (accessed_then (IsFlagged written) (IsFlagged written) (DmaRead (rirb + RESPONSE_BYTES * (place % size)) entry) (keeps_flagged written) (λ world before honest. before) old middle reads flagged)

entries_plain : (rirb size place : ℕ) (entries : List (List ℕ)) → ArePlain (entry_reads rirb size place entries ++ Write RIRBSTS One 1 ∷ [])
entries_plain rirb size place [] = (refl, tt)
entries_plain rirb size place (entry ∷ entries) = (tt, entries_plain rirb size (place + 1) entries)

-- ---- the whole poll

-- RINTFL was read, and by its bit what was written stays until the poll is done
rest_written : (flagged : Bool) (rirb : ℕ) (rings : RingPlaces) (pointer : ℕ) (entries : List (List ℕ)) (middle new : Telling) → (flagged ≡ true → (world_of middle).registers.global.response_flag ≡ 1)
    → MakesBy (if flagged then batch_accesses rirb rings pointer entries else []) middle new → (world_of new).written ≡ (world_of middle).written
rest_written false rirb rings pointer entries middle new is last = ap (λ (telling : Telling). (world_of telling).written) last
rest_written true rirb rings pointer entries middle new is (one, first, rest) =
    let written = (world_of middle).written in
    entries_then rirb (entries_of rings.rirb) (rings.read + 1) entries written one new rest
    (accessed_then (IsFlagged written) (IsFlagged written) (Read RIRBWP Two pointer) (keeps_flagged written) (λ world before honest. before) middle one first (record { flag = is refl; same = refl }))

rest_plain : (flagged : Bool) (rirb : ℕ) (rings : RingPlaces) (pointer : ℕ) (entries : List (List ℕ)) → ArePlain (if flagged then batch_accesses rirb rings pointer entries else [])
rest_plain false rirb rings pointer entries = tt
rest_plain true rirb rings pointer entries = (refl, entries_plain rirb (entries_of rings.rirb) (rings.read + 1) entries)

-- what RIRBSTS read is RINTFL
record IsShown (flag : ℕ) (world : World) : Type 0 where
  bit : IsBit world
  shown : flag ≡ world.registers.global.response_flag

flag_shown : (flag : ℕ) (old middle : Telling) → Accessed old middle (Read RIRBSTS One flag) → IsBit (world_of old) → IsShown flag (world_of middle)
flag_shown flag old middle accessed bit =
    accessed_then IsBit (IsShown flag) (Read RIRBSTS One flag) keeps_bit (λ world before honest. record { bit = before; shown = honest ∙ read-response_flag world.registers }) old middle accessed bit

flag_set : (flag : ℕ) (world : World) → IsShown flag world → has_bit flag 0 ≡ true → world.registers.global.response_flag ≡ 1
flag_set flag world is has = let bit = is.bit in let shown = is.shown in let low : flag / 1 % 2 ≡ 1 = is_one (flag / 1 % 2) has in omega (arith, bit, shown, low)
  where
    is_one : (n : ℕ) → (n == 1) ≡ true → n ≡ 1
    is_one n is = search (rules, tests)

-- a read after steps changes nothing
read_last : (flag : ℕ) (steps : List Step) (world : World) → after (map Stepped steps ++ Read RIRBSTS One flag ∷ []) world ≡ after (map Stepped steps) world
read_last flag [] world = refl
read_last flag (step ∷ steps) world = read_last flag steps (happens world (Stepped step))

-- a poll as two: the read of RIRBSTS, which changes nothing, and a row of plain accesses after which what was written is as it was
pub record PollSplit (rirb : ℕ) (rings : RingPlaces) (reads : PollReads) (old new : Telling) : Type 0 where
  pub middle : Telling
  pub first : Accessed old middle (Read RIRBSTS One reads.flag)
  pub there : world_of middle ≡ after (map Stepped first.steps) (world_of old)
  pub rest : Makes (if has_bit reads.flag 0 then batch_accesses rirb rings reads.pointer reads.entries else []) middle new
  pub plain : ArePlain (if has_bit reads.flag 0 then batch_accesses rirb rings reads.pointer reads.entries else [])
  pub same : (world_of new).written ≡ (world_of middle).written

pub poll_split : (rirb : ℕ) (rings : RingPlaces) (reads : PollReads) (old new : Telling) → Makes (poll_accesses rirb rings reads) old new → IsBit (world_of old) → PollSplit rirb rings reads old new
poll_split rirb rings reads old new makes bit = by makes.by
  where
    by : MakesBy (poll_accesses rirb rings reads) old new → PollSplit rirb rings reads old new
    by (middle, first, rest) = record {
      middle = middle;
      first = first;
      there = world_of-went old middle _ first.went ∙ read_last reads.flag first.steps (world_of old);
      rest = record { by = rest };
      plain = rest_plain (has_bit reads.flag 0) rirb rings reads.pointer reads.entries;
      same = rest_written (has_bit reads.flag 0) rirb rings reads.pointer reads.entries middle new (flag_set reads.flag (world_of middle) (flag_shown reads.flag old middle first bit)) rest;
    }

-- over a poll a trail gains its accesses, and whether the outstanding command was answered is said by what is written at its end
pub poll_trail : (task : Task) (lines : List DriverLine) (rirb : ℕ) (rings : RingPlaces) (reads : PollReads) (old new : Telling) → Makes (poll_accesses rirb rings reads) old new → IsBit (world_of old)
    → (trail_of task lines new ≡ record (with_accesses (trail_of task lines old) (poll_accesses rirb rings reads)) { answered = is_answered (trail_of task lines old) (world_of new) })
    × (ConformsTo task lines old → ConformsTo task lines new)
poll_trail task lines rirb rings reads old new makes bit =
    let split = poll_split rirb rings reads old new makes bit in
    let old-trail = trail_of task lines old in
    let row = trail_row task lines (if has_bit reads.flag 0 then batch_accesses rirb rings reads.pointer reads.entries else []) split.middle new split.rest split.plain in
    let here : trail_of task lines split.middle ≡ record (with_accesses old-trail (Read RIRBSTS One reads.flag ∷ [])) { answered = is_answered old-trail (world_of split.middle) } =
    trail_went task lines old split.middle _ split.first.went
    ∙ trail_stepped task split.first.steps (Read RIRBSTS One reads.flag) (world_of old) old-trail
    ∙ ap (λ (world : World). record (with_accesses old-trail (Read RIRBSTS One reads.flag ∷ [])) { answered = is_answered old-trail world }) (sym split.there) in (
      row.0 ∙ ap (λ (trail : Trail). with_accesses trail (if has_bit reads.flag 0 then batch_accesses rirb rings reads.pointer reads.entries else [])) here
          ∙ ap (λ (made : List Event). record old-trail { made = made; answered = is_answered old-trail (world_of split.middle) }) (append_assoc old-trail.made (Read RIRBSTS One reads.flag ∷ []) (if has_bit reads.flag 0 then batch_accesses rirb rings reads.pointer reads.entries else []))
          ∙ ap (λ (written : List Response). record (with_accesses old-trail (poll_accesses rirb rings reads)) { answered = list_any (answers_it (asked_of old-trail.state.rings.outstanding)) (drop old-trail.written written) }) (sym split.same),
      λ conforms. row.1 (conforms_went task lines old split.middle _ split.first.went (conforms_stepped task split.first.steps (Read RIRBSTS One reads.flag) (world_of old) old-trail tt) conforms),
    )
