-- While the input stream does not run no block comes, and where RUN rises none has come.
use Rattle.std.proofs.Common.{◌≡◌, ℕ, Bool, true, false, List, [], ◌∷◌, ◌++◌, map, refl, sym, subst, ap, ◌∙◌}
use Rattle.std.specs.Prelude.{All}
use Rattle.std.proofs.lemmas.List.Elements.{All-append, All-cons, All-head, All-nil, All-tail}
use Rattle.hda_registers.specs.declared.shapes.Width.{Width}
use Rattle.hda_registers.specs.Fields.{is_running}
use Rattle.hda_registers.specs.Access.{written, rose}
use Rattle.world_steps.specs.declared.Step.{Step}
use Rattle.hda_world.specs.Worlds.{World}
use Rattle.hda_world.specs.Steps.{after_steps}
use Rattle.hda_world.specs.Events.{Event, Stepped, Begin, End, Read, Write, DmaRead, DmaWrite, after_write, happens, after}
use Rattle.hda_world.specs.Streaming.{StaysUntaken}
use Rattle.hda_world.specs.Tellings.{Telling, world_of, Went, Accessed, Grew, Makes}
use Rattle.hda_world.proofs.Callers.{world_of-went, woven}
use Rattle.laws_stream.specs.Resting.{Rests, LeavesRest}
use Rattle.laws_stream.specs.Lives.{Along}
use Rattle.laws_stream.proofs.Callers.{all_map, woven_all}

-- what this goes by
pub record CameLaws : Type 0 where
  pub steps : (steps : List Step) (world : World) → is_running world.registers.input ≡ false → StaysUntaken world.registers.input world.input world.came (after_steps steps world)
  pub begins : (world : World) (at value : ℕ) (width : Width) → rose world.registers.input (written world.registers at width value).input ≡ true
      → ((after_write at width value world).came ≡ []) × ((after_write at width value world).input.entered ≡ [])
  pub stays : (world : World) (at value : ℕ) (width : Width) → rose world.registers.input (written world.registers at width value).input ≡ false
      → (after_write at width value world).came ≡ world.came
  pub rests : (fifo : ℕ) (events : List Event) (world : World) → All LeavesRest events → Rests fifo world → Rests fifo (after events world)

-- what holds at every moment of a row holds at every moment of its back
along_back : (Holds : World → Type 0) (front back : List Event) (world : World) → Along Holds (front ++ back) world → Along Holds back (after front world)
along_back Holds [] back world along = along
along_back Holds (event ∷ front) back world along = along_back Holds front back (happens world event) along.1

-- streams rest, and no block came
pub record IsQuiet (fifo : ℕ) (world : World) : Type 0 where
  pub rests : Rests fifo world
  pub none_came : world.came ≡ []

module _ (laws : CameLaws) where
  -- ---- an event

  write_none : (world : World) (at value : ℕ) (width : Width) → world.came ≡ [] → (after_write at width value world).came ≡ []
  write_none world at value width none = by (rose world.registers.input (written world.registers at width value).input) refl
    where
      by : (rises : Bool) → rose world.registers.input (written world.registers at width value).input ≡ rises → (after_write at width value world).came ≡ []
      by true rises = (laws.begins world at value width rises).0
      by false not = laws.stays world at value width not ∙ none

  event_none : (event : Event) (world : World) → is_running world.registers.input ≡ false → world.came ≡ [] → (happens world event).came ≡ []
  event_none (Stepped step) world stopped none = (laws.steps (step ∷ []) world stopped).came_stays ∙ none
  event_none Begin world stopped none = none
  event_none End world stopped none = none
  event_none (Read at width value) world stopped none = none
  event_none (Write at width value) world stopped none = write_none world at value width none
  event_none (DmaRead at bytes) world stopped none = none
  event_none (DmaWrite at bytes) world stopped none = none

  -- ---- while streams rest

  along_none : (fifo : ℕ) (events : List Event) (world : World) → Along (Rests fifo) events world → world.came ≡ [] → (after events world).came ≡ []
  along_none fifo [] world along none = none
  along_none fifo (event ∷ events) world along none =
      along_none fifo events (happens world event) along.1 (event_none event world along.0.input_stopped none)

  -- at every moment of all that is told
  pub grew_none : (fifo : ℕ) (old new : Telling) → Grew old new → Along (Rests fifo) new.journal new.start → (world_of old).came ≡ [] → (world_of new).came ≡ []
  grew_none fifo old new grew along none =
      let events = grew.events in
      let whole = subst (λ (journal : List Event). Along (Rests fifo) journal old.start) grew.went.journal (subst (λ (start : World). Along (Rests fifo) new.journal start) grew.went.start along) in
      ap (λ (world : World). world.came) (world_of-went old new events grew.went)
      ∙ along_none fifo events (world_of old) (along_back (Rests fifo) old.journal events old.start whole) none

  -- ---- over events that leave them at rest

  events_along : (fifo : ℕ) (events : List Event) (world : World) → All LeavesRest events → Rests fifo world → Along (Rests fifo) events world
  events_along fifo [] world all rests = rests
  events_along fifo (event ∷ events) world all rests = (
    rests,
    events_along fifo events (happens world event) (All-tail LeavesRest event events all)
        (laws.rests fifo (event ∷ []) world (All-cons LeavesRest event [] (All-head LeavesRest event events all) (All-nil LeavesRest)) rests),
  )

  pub events_quiet : (fifo : ℕ) (events : List Event) (world : World) → All LeavesRest events → IsQuiet fifo world → IsQuiet fifo (after events world)
  events_quiet fifo events world all quiet = record {
    rests = laws.rests fifo events world all quiet.rests;
    none_came = along_none fifo events world (events_along fifo events world all quiet.rests) quiet.none_came;
  }

  went_quiet : (fifo : ℕ) (old new : Telling) (events : List Event) → Went old new events → All LeavesRest events → IsQuiet fifo (world_of old) → IsQuiet fifo (world_of new)
  went_quiet fifo old new events went all quiet =
      subst (IsQuiet fifo) (sym (world_of-went old new events went)) (events_quiet fifo events (world_of old) all quiet)

  pub steps_quiet : (fifo : ℕ) (steps : List Step) (old new : Telling) → Went old new (map Stepped steps) → IsQuiet fifo (world_of old) → IsQuiet fifo (world_of new)
  steps_quiet fifo steps old new went quiet = went_quiet fifo old new (map Stepped steps) went (all_map LeavesRest Stepped (λ step. tt {0}) steps) quiet

  pub mark_quiet : (fifo : ℕ) (mark : Event) (old new : Telling) → LeavesRest mark → Accessed old new mark → IsQuiet fifo (world_of old) → IsQuiet fifo (world_of new)
  mark_quiet fifo mark old new leaves accessed quiet =
      went_quiet fifo old new (map Stepped accessed.steps ++ mark ∷ []) accessed.went
      (All-append LeavesRest (map Stepped accessed.steps) (mark ∷ []) (all_map LeavesRest Stepped (λ step. tt {0}) accessed.steps) (All-cons LeavesRest mark [] leaves (All-nil LeavesRest))) quiet

  pub row_quiet : (fifo : ℕ) (made : List Event) (old new : Telling) → Makes made old new → All LeavesRest made → IsQuiet fifo (world_of old) → IsQuiet fifo (world_of new)
  row_quiet fifo made old new makes all quiet =
      let weaving = woven makes in
      went_quiet fifo old new weaving.events weaving.went (woven_all LeavesRest (λ step. tt {0}) made weaving.events weaving.woven all) quiet
