-- A call while commands are sent keeps to progress, and stands to the world as before.
use Rattle.std.proofs.Common.{◌≡◌, ◌≤◌, ℕ, Bool, true, false, List, length, Option, Some, None, refl, sym, ap, subst, ◌∙◌, arith, length-append, ◌⊎◌, inl, inr}
use Rattle.std.proofs.lemmas.Bool.{false≢true}
use Rattle.std.specs.Prelude.{◌&&◌, not}
use Rattle.std.specs.Option.{is_some}
use Rattle.verb_codes.specs.declared.verbs.Command.{Command}
use Rattle.codec_graph.specs.declared.raw.RawCodec.{RawCodec}
use Rattle.route_planner.specs.declared.routes.Plan.{Plan}
use Rattle.route_setup.specs.Means.{Means}
use Rattle.hda_world.specs.Worlds.{World, TakenCommand}
use Rattle.hda_world.specs.Events.{Event}
use Rattle.hda_world.specs.Tellings.{Telling, world_of, Makes}
use Rattle.command_engine.specs.declared.ring_places.RingPlaces.{RingPlaces}
use Rattle.command_engine.specs.declared.answers.Outstanding.{Outstanding}
use Rattle.command_engine.specs.Belonging.{from_after}
use Rattle.command_engine.specs.Fetchings.{Stands, AscendFrom, graphs_in}
use Rattle.command_engine.specs.Polling.{asked_of, rings_polled, still_outstanding}
use Rattle.driver_progress.specs.declared.phase.Phase.{Phase}
use Rattle.driver_progress.specs.declared.phase.Phase.TheVariants.{Settling, Walking, SettingUp, Ready}
use Rattle.driver_progress.specs.Phases.{is_asking, goes_on, can_follow}
use Rattle.driver_progress.specs.Tasks.{Task, Order, DriverLine}
use Rattle.driver_progress.specs.Seen.{seen_by, values_of}
use Rattle.driver_progress.specs.Progress.{Trail, trail_of}
use Rattle.driver_progress.specs.Answers.{AnswersAgree}
use Rattle.driver_progress.specs.Commands.{ask_accesses}
use Rattle.driver_bring_up.specs.Commanding.{IsStretch, answer_in, rings_with, sent_with, submit_made}
use Rattle.driver_bring_up.specs.declared.bringing.BringUp.{BringUp}
use Rattle.driver_bring_up.specs.Calls.{state_of, is_ended, AgreesAfter, ReadsOn, IsKept}
use Rattle.driver_bring_up.specs.Told.{LooksOn, IsGivenUp}
use Rattle.laws_bring_up.specs.Stretches.{IsOpen, IsDone}
use Rattle.laws_bring_up.specs.Standing.{IsTaskOfCodecs, IsAsking, StandsIn}
use Rattle.laws_bring_up.proofs.Accesses.{submit_are, looked_accesses}
use Rattle.laws_bring_up.proofs.Finding.{going_finds}
use Rattle.laws_bring_up.proofs.Rows.{stretch_done}
use Rattle.laws_bring_up.proofs.Walked.{walked_by}
use Rattle.laws_bring_up.proofs.Grows.{row_on, both_on}
use Rattle.laws_bring_up.proofs.Noting.{Laws, call_noted}
use Rattle.laws_bring_up.proofs.Following.{AgendaLaws, Later, row_remembers, Stage, IsLed, looks_by, stage_on, ordered, idle_ordered, with_order}

-- ---- phases

pub not_settles : (phase new : Phase) → goes_on phase ≡ true → phase ≡ Settling → new ≡ Walking → ⊥
not_settles phase new goes is walking = false≢true (sym (ap goes_on is) ∙ goes)

none_ends : (asks follows : Bool) → (asks && (false && follows)) ≡ false
none_ends true follows = refl
none_ends false follows = refl

on_ends : (asks found follows goes : Bool) → goes ≡ true → (asks && (found && (follows && not goes))) ≡ false
on_ends true true true true is = refl
on_ends true true true false is = cc
on_ends true true false goes is = refl
on_ends true false follows goes is = refl
on_ends false found follows goes is = refl

pub not_over : (old new : Phase) (found : Option ℕ) → ((word : ℕ) → found ≡ Some word → goes_on new ≡ true) → is_ended old (is_some found) new ≡ false
not_over old new None goes = none_ends (is_asking old) (can_follow new && not (goes_on new))
not_over old new (Some word) goes = on_ends (is_asking old) true (can_follow new) (goes_on new) (goes word refl)

-- the phase after a look: more commands may come, or one was given up
leads_to : (outstanding : Option Outstanding) (clock : ℕ) (old new : Phase) (found : Option ℕ) → goes_on old ≡ true → ((word : ℕ) → found ≡ Some word → goes_on new ≡ true) → (found ≡ None → (new ≡ old) ⊎ IsGivenUp outstanding clock new)
    → (goes_on new ≡ true) ⊎ IsGivenUp outstanding clock new
leads_to outstanding clock old new None goes on waits = by (waits refl)
  where
    by : (new ≡ old) ⊎ IsGivenUp outstanding clock new → (goes_on new ≡ true) ⊎ IsGivenUp outstanding clock new
    by (inl same) = inl (ap goes_on same ∙ goes)
    by (inr given_up) = inr given_up
leads_to outstanding clock old new (Some word) goes on waits = inl (on word refl)

-- ---- what was outstanding, and is

outstanding_with : (order : Option Order) (clock : ℕ) (rings : RingPlaces) → (rings_with order clock rings).outstanding ≡ with_order order clock rings.outstanding
outstanding_with None clock rings = refl
outstanding_with (Some order) clock rings = refl

module _ (means : Means) (verbs : RawCodec → List Command) (graphs : List RawCodec) (task : Task) (laws : AgendaLaws means verbs graphs)
    (of : IsTaskOfCodecs means verbs graphs task) where
  pub stands_in : (phase : Phase) (written : ℕ) (bring_up : BringUp) (world : World) → goes_on phase ≡ true → IsAsking means verbs graphs task written bring_up world → StandsIn phase means verbs graphs task written bring_up world
  stands_in Walking written bring_up world goes asking = asking
  stands_in SettingUp written bring_up world goes asking = asking
  stands_in Ready written bring_up world goes asking = asking
  stands_in phase written bring_up world goes asking = absurd (false≢true goes)

  stands_then : (outstanding : Option Outstanding) (clock written : ℕ) (bring_up : BringUp) (world : World) → (goes_on bring_up.phase ≡ true) ⊎ IsGivenUp outstanding clock bring_up.phase → IsAsking means verbs graphs task written bring_up world
      → StandsIn bring_up.phase means verbs graphs task written bring_up world
  stands_then outstanding clock written bring_up world (inl goes) asking = stands_in bring_up.phase written bring_up world goes asking
  stands_then outstanding clock written bring_up world (inr given_up) asking =
      subst (λ (phase : Phase). StandsIn phase means verbs graphs task written bring_up world) (sym given_up.is) (walked_by means verbs graphs task of bring_up.sent bring_up.engine.rings.outstanding bring_up.agenda asking.follows)

  -- how the agenda was led
  pub led_of : (made : List Event) (old new : BringUp) (found : Option ℕ) → goes_on old.phase ≡ true → answer_in old.engine.rings made ≡ found → ReadsOn means made old new
      → IsLed means verbs graphs task laws of.is_for of.right.well_formed found old.agenda new.agenda new.phase
  led_of made old new None goes is reads = reads.left (λ asking. is) (not_settles old.phase new.phase goes)
  led_of made old new (Some word) goes is reads =
      let taken = reads.taken word is in (taken.0, taken.1, reads.addresses (not_settles old.phase new.phase goes))

  pub at_blocks : (from read : ℕ) (old new : BringUp) (world : World) → IsKept old new → Stands from read old.engine.corb.address old.engine.rirb.address new.engine.rings world
      → Stands from read new.engine.corb.address new.engine.rirb.address new.engine.rings world
  at_blocks from read old new world kept stands =
      subst (λ (rirb : ℕ). Stands from read new.engine.corb.address rirb new.engine.rings world) (sym (ap (λ rirb. rirb.address) kept.rirb))
      (subst (λ (corb : ℕ). Stands from read corb old.engine.rirb.address new.engine.rings world) (sym (ap (λ corb. corb.address) kept.corb)) stands)

  pub record Kept (lines left : List DriverLine) (new : BringUp) (after : Telling) : Type 0 where
    pub done : IsDone task lines left (state_of new) after
    pub graphs_are : graphs_in (world_of after).codecs ≡ graphs
    pub stage : StandsIn new.phase means verbs graphs task (trail_of task lines after).written new (world_of after)

  pub looks_on : Laws → (lines left : List DriverLine) (budget : ℕ) (irq : Bool) (old new : BringUp) (made : List Event) (before after : Telling) → IsOpen task lines left (Some (record { irq = irq; budget = budget })) (state_of old) before
      → goes_on old.phase ≡ true → graphs_in (world_of before).codecs ≡ graphs → (a : IsAsking means verbs graphs task (trail_of task lines before).written old (world_of before)) → ReadsOn means made old new
      → (is_ended old.phase (is_some (answer_in old.engine.rings made)) new.phase ≡ false → AgreesAfter old new task → IsStretch task (state_of old) (Some (record { irq = irq; budget = budget })) made (is_some (answer_in old.engine.rings made)) (state_of new))
      → IsKept old new → Makes made before after → LooksOn irq old new made a.from a.read before after → Kept lines left new after
  looks_on notes lines left budget irq old new made before after opened goes graphs_are a reads is kept makes on =
      let looked = on.looked in
      let rings = old.engine.rings in
      let found = answer_in rings made in
      let line : Option DriverLine = Some (record { irq = irq; budget = budget }) in
      let ask = ask_accesses old.engine.rirb.address on.clock rings on.reads in
      let rest = submit_made old.engine.corb.address (rings_polled rings on.reads) on.order in
      let started = world_of before in
      let ends = world_of looked.ends in
      let finish = world_of after in
      let to_ends : Later started ends = record {
        on = both_on started (world_of looked.begins) ends (row_on on.first before looked.begins looked.first_made) (row_on ask looked.begins looked.ends looked.look_made);
        remembers = λ start begun is. row_remembers ask looked.begins looked.ends looked.look_made start begun (row_remembers on.first before looked.begins looked.first_made start begun is);
      } in
      let to_after : Later ends finish = record { on = row_on rest looked.ends after looked.rest_made; remembers = row_remembers rest looked.ends after looked.rest_made } in
      let known = to_ends.remembers a.taken.start a.taken.begun a.taken.remembers in
      let graphs_ends = known.graphs ∙ sym a.taken.remembers.graphs ∙ graphs_are in
      let ascend = subst (AscendFrom 0) graphs_ends looked.stands.ascend in
      let from_within = a.stands.from_within in
      let long = ap (λ (commands : List TakenCommand). length commands) to_ends.on.taken ∙ length-append started.commands to_ends.on.more_taken in
      let within : a.from ≤ length ends.commands = omega (arith, from_within, long) in
      let stage = stage_on means verbs graphs task laws of.is_for of.right.well_formed old.sent rings.outstanding old.agenda a.from started ends from_within to_ends (record { last = a.last; follows = a.follows; taken = a.taken }) in
      let looks = looks_by means verbs graphs task laws of.is_for of.right.well_formed old.sent rings.outstanding found old.agenda new.agenda a.from new.phase ends ascend graphs_ends within stage looked.belongs (led_of made old new found goes refl reads) in
      let polled : (rings_polled rings on.reads).outstanding ≡ still_outstanding rings.outstanding found = ap (λ (found : Option ℕ). still_outstanding rings.outstanding found) looked.found_is in
      let idle = λ (free : on.free ≡ true). sym polled ∙ on.idle free in
      let idle_then = λ (one : Order) (some : on.order ≡ Some one). polled ∙ idle_ordered means verbs graphs task laws of.is_for of.right.well_formed on.free old.sent (still_outstanding rings.outstanding found) new.agenda on.order on.order_is idle looks.stage.follows one some in
      let from' = from_after found a.from ends.commands in
      let next = stage_on means verbs graphs task laws of.is_for of.right.well_formed _ _ new.agenda from' ends finish looks.within to_after
      (ordered means verbs graphs task laws of.is_for of.right.well_formed on.free old.sent (still_outstanding rings.outstanding found) new.agenda from' on.clock on.order ends on.order_is idle looks.stage) in
      let outstanding = ap (λ (rings : RingPlaces). rings.outstanding) on.rings ∙ outstanding_with on.order on.clock (rings_polled rings on.reads) ∙ ap (λ (outstanding : Option Outstanding). with_order on.order on.clock outstanding) polled in
      let stood = subst (λ (sent : ℕ). Stage means verbs graphs task laws of.is_for of.right.well_formed sent new.engine.rings.outstanding new.agenda from' finish) (sym on.sent)
      (subst (λ (outstanding : Option Outstanding). Stage means verbs graphs task laws of.is_for of.right.well_formed (sent_with on.order old.sent) outstanding new.agenda from' finish) (sym outstanding) next) in
      let noted = call_noted notes task lines left line irq old new made a.from a.read before after opened a.agree on idle_then in
      let stretch = is (not_over old.phase new.phase found looks.goes) (λ asking goes. laws.agrees _ new.agenda task stood.follows of.is_for) in
      let written = sym (ap (λ (trail : Trail). trail.written) noted.trail) in record {
        done = stretch_done task lines left line (state_of old) (state_of new) made (is_some found) noted.written before after opened makes.by
            (looked_accesses old made on.first on.clock on.reads rest a.from a.read before after looked (submit_are old.engine.corb.address (rings_polled rings on.reads) on.order))
            noted.trail (noted.conforms opened.conforms) stretch (λ some. going_finds old.phase (state_of old) (seen_by (values_of made) (is_some found)) goes);
        graphs_are = (to_after.remembers a.taken.start a.taken.begun known).graphs ∙ sym a.taken.remembers.graphs ∙ graphs_are;
        stage = stands_then rings.outstanding on.clock (trail_of task lines after).written new finish (leads_to rings.outstanding on.clock old.phase new.phase found goes looks.goes on.waits) (record {
          from = from';
          read = length ends.written;
          stands = at_blocks from' (length ends.written) old new finish kept on.stands;
          agree = subst (λ (written : ℕ). AnswersAgree (asked_of new.engine.rings.outstanding) written (length ends.written) finish.written) written noted.agree;
          last = stood.last;
          follows = stood.follows;
          taken = stood.taken;
        });
      }
