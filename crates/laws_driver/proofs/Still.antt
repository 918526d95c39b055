-- A bring-up whose commands are all answered stands to the world as before over a look for interrupts.
use Rattle.std.proofs.Common.{◌≡◌, ◌⊎◌, inl, inr, ◌*◌, ℕ, Bool, true, false, if◌then◌else◌, List, [], ◌∷◌, length, refl, sym, ap, subst, ◌∙◌, arith}
use Rattle.std.specs.Prelude.{All}
use Rattle.std.proofs.lemmas.List.Elements.{All-cons, All-nil}
use Rattle.verb_codes.specs.Words.{has_bit, bits_of}
use Rattle.verb_codes.specs.declared.verbs.Command.{Command}
use Rattle.codec_graph.specs.declared.raw.RawCodec.{RawCodec}
use Rattle.route_planner.specs.declared.routes.Plan.{Plan}
use Rattle.route_setup.specs.Means.{Means}
use Rattle.world_rings.specs.declared.response.Response.{Response}
use Rattle.hda_registers.specs.declared.shapes.Width.{Width}
use Rattle.hda_registers.specs.declared.shapes.Width.TheVariants.{One, Four}
use Rattle.hda_registers.specs.declared.places.TheConstants.{INTSTS}
use Rattle.hda_world.specs.Events.{Event, Read, Write}
use Rattle.hda_world.specs.Tellings.{Telling, world_of, Makes}
use Rattle.command_engine.specs.Apart.{IsBesideBoth}
use Rattle.command_engine.specs.Fetchings as engine
use Rattle.command_engine.specs.Polling.{asked_of}
use Rattle.laws_settings.proofs.Callers.{remembers_itself}
use Rattle.driver_progress.specs.declared.registers.TheConstants.{STREAM_STATUS}
use Rattle.driver_progress.specs.declared.phase.Phase.{Phase}
use Rattle.driver_progress.specs.declared.phase.Phase.TheVariants.{Ready}
use Rattle.driver_progress.specs.Tasks.{Task, DriverLine}
use Rattle.driver_progress.specs.Seen.{interrupts_at, stream_interrupts_at}
use Rattle.driver_progress.specs.Progress.{Trail, trail_of}
use Rattle.driver_progress.specs.Noting.{ArePlain}
use Rattle.driver_progress.proofs.Callers.{trail_row}
use Rattle.driver_progress.specs.Answers.{AnswersAgree}
use Rattle.driver_progress.specs.Interrupts.{clear_accesses}
use Rattle.driver_bring_up.specs.declared.bringing.BringUp.{BringUp}
use Rattle.laws_bring_up.specs.Standing.{IsTaskOfCodecs, IsAsking, StandsIn, IsBroughtUp}
use Rattle.laws_bring_up.proofs.Callers.{AgendaLaws, Laws, Later, row_on, row_remembers, stage_on}
use Rattle.audio_driver.specs.Sounding.{IsLook}
use Rattle.laws_stream.proofs.Callers.{looks_all, stands_row}

-- ---- the accesses of the look

clears_plain : (stream : ℕ) (on : Bool) → ArePlain (if on then Read STREAM_STATUS One stream ∷ Write STREAM_STATUS One (4 * bits_of stream 2 3) ∷ [] else [])
clears_plain stream true = (refl, (refl, tt {0}))
clears_plain stream false = tt {0}

looks_plain : (interrupts stream : ℕ) (on : Bool) → ArePlain (if on then clear_accesses interrupts stream else [])
looks_plain interrupts stream true = clears_plain stream (has_bit interrupts stream_interrupts_at)
looks_plain interrupts stream false = tt {0}

look_plain : (made : List Event) → (made ≡ []) ⊎ IsLook made → ArePlain made
look_plain made (inl none) = subst ArePlain (sym none) (tt {0})
look_plain made (inr look) = subst ArePlain (sym look.is) (refl, looks_plain look.interrupts look.stream (has_bit look.interrupts interrupts_at))

-- what holds of reads, and of a write of the output stream's status, holds of it
pub look_all : (P : Event → Type 0) → ((at value : ℕ) (width : Width) → P (Read at width value)) → ((value : ℕ) → P (Write STREAM_STATUS One value)) → (made : List Event) → (made ≡ []) ⊎ IsLook made → All P made
look_all P reads clears made (inl none) = subst (All P) (sym none) (All-nil P)
look_all P reads clears made (inr look) =
    let interrupts = look.interrupts in
    let stream = look.stream in
    subst (All P) (sym look.is)
    (All-cons P (Read INTSTS Four interrupts) (if has_bit interrupts interrupts_at then clear_accesses interrupts stream else []) (reads INTSTS interrupts Four)
    (looks_all P reads clears interrupts stream (has_bit interrupts interrupts_at)))

look_beside : (made : List Event) → (made ≡ []) ⊎ IsLook made → All IsBesideBoth made
look_beside = look_all IsBesideBoth (λ at value width. tt {0}) (λ value. (record { control = inr (omega arith); rings = inr (omega arith) }, record { control = omega arith; descriptor = inr (omega arith) }))

-- ---- over them

module _ (means : Means) (verbs : RawCodec → List Command) (graphs : List RawCodec) (task : Task) (laws : AgendaLaws means verbs graphs)
    (of : IsTaskOfCodecs means verbs graphs task) (notes : Laws) (lines : List DriverLine) where
  pub still_stands : (bring_up : BringUp) (made : List Event) (before after : Telling) → bring_up.phase ≡ Ready → (made ≡ []) ⊎ IsLook made → Makes made before after
      → IsBroughtUp means verbs graphs task (trail_of task lines before).written bring_up (world_of before) → IsBroughtUp means verbs graphs task (trail_of task lines after).written bring_up (world_of after)
  still_stands bring_up made before after was looks makes stands =
      let corb = bring_up.engine.corb.address in
      let rirb = bring_up.engine.rirb.address in
      let rings = bring_up.engine.rings in
      let written = (trail_of task lines before).written in
      let a : IsAsking means verbs graphs task written bring_up (world_of before) = subst (λ (phase : Phase). StandsIn phase means verbs graphs task written bring_up (world_of before)) was stands.stage in
      let on = row_on made before after makes in
      let later : Later (world_of before) (world_of after) = record { on = on; remembers = row_remembers made before after makes } in
      let stage = stage_on means verbs graphs task laws of.is_for of.right.well_formed bring_up.sent rings.outstanding bring_up.agenda a.from (world_of before) (world_of after) a.stands.from_within later
      (record { last = a.last; follows = a.follows; taken = a.taken }) in
      let same : written ≡ (trail_of task lines after).written = sym (ap (λ (trail : Trail). trail.written) (trail_row task lines made before after makes (look_plain made looks)).0) in
      let asking : IsAsking means verbs graphs task (trail_of task lines after).written bring_up (world_of after) = record {
        from = a.from;
        read = a.read;
        stands = stands_row a.from a.read corb rirb rings made before after makes (look_beside made looks) a.stands;
        agree = subst (λ (written : ℕ). AnswersAgree (asked_of rings.outstanding) written a.read (world_of after).written) same
            (subst (λ (all : List Response). AnswersAgree (asked_of rings.outstanding) written a.read all) (sym on.written)
            (notes.grows (asked_of rings.outstanding) written a.read (world_of before).written on.more_written a.agree));
        last = stage.last;
        follows = stage.follows;
        taken = stage.taken;
      } in record {
        blocks = stands.blocks;
        graphs_are = (row_remembers made before after makes (world_of before).codecs (length (world_of before).commands) (remembers_itself (world_of before))).graphs ∙ stands.graphs_are;
        stage = subst (λ (phase : Phase). StandsIn phase means verbs graphs task (trail_of task lines after).written bring_up (world_of after)) (sym was) asking;
      }
