-- Calls before the first command is sent.
use Rattle.std.proofs.Common.{◌≡◌, ◌==◌, ℕ, Bool, true, false, List, [], ◌∷◌, map, length, if◌then◌else◌, Option, Some, None, refl, sym, ap, subst, ◌∙◌, arith, ◌⊎◌, inl, inr}
use Rattle.std.specs.Prelude.{All, drop}
use Rattle.std.proofs.lemmas.List.{drop_all}
use Rattle.std.proofs.lemmas.List.Elements.{All-nil, All-cons, All-head, All-tail}
use Rattle.verb_codes.specs.Words.{has_bit}
use Rattle.codec_graph.specs.declared.raw.RawCodec.{RawCodec}
use Rattle.codec_graph.specs.CodecStates.{CodecState}
use Rattle.codec_graph.specs.Settings.{Entries}
use Rattle.hda_registers.specs.declared.shapes.RingSize.{RingSize}
use Rattle.hda_world.specs.Worlds.{World, TakenCommand}
use Rattle.hda_world.specs.Events.{Event}
use Rattle.hda_world.specs.Tellings.{Telling, world_of, Makes}
use Rattle.command_engine.specs.Fetchings.{graphs_in}
use Rattle.command_engine.specs.Starting.{codecs_in, rings_of}
use Rattle.laws_settings.specs.Histories.{words_of}
use Rattle.laws_settings.specs.Readings.{IsReading, KeepsDefaults}
use Rattle.laws_settings.proofs.Callers.{remembers_itself, only_asked}
use Rattle.period_writer.specs.Runs.{Tally}
use Rattle.driver_progress.specs.declared.phase.Phase.{Phase}
use Rattle.driver_progress.specs.declared.phase.Phase.TheVariants.{Reset, Settling, Walking}
use Rattle.driver_progress.specs.Tasks.{Task, DriverLine}
use Rattle.driver_progress.specs.Seen.{Seen, clock_of}
use Rattle.driver_progress.specs.States.{State}
use Rattle.driver_progress.specs.Expected.{has_settled}
use Rattle.driver_progress.specs.Next.{next, tally_next, led, reset_if, settled_if, finds_none}
use Rattle.laws_bring_up.proofs.Following.{row_remembers}

-- ---- where progress leads a driver before its first command

reset_sent : (out : Bool) (clock : ℕ) (state : State) → (reset_if out clock state).sent ≡ state.sent
reset_sent true clock state = refl
reset_sent false clock state = refl

-- how far it is after a look whether the codecs had their time: as before, or it walks, and no command was sent
pub record IsSettledOn (state state' : State) : Type 0 where
  pub sent : state'.sent ≡ state.sent
  pub phase : (state'.phase ≡ state.phase) ⊎ ((state'.phase ≡ Walking) × (state'.rings.outstanding ≡ None))

settled_by : (settled none : Bool) (corb rirb : Option RingSize) (state : State) → IsSettledOn state (settled_if settled (if none then None else rings_of corb rirb) state)
settled_by false none corb rirb state = record { sent = refl; phase = inl refl }
settled_by true true corb rirb state = record { sent = refl; phase = inl refl }
settled_by true false None rirb state = record { sent = refl; phase = inl refl }
settled_by true false (Some corb) None state = record { sent = refl; phase = inl refl }
settled_by true false (Some corb) (Some rirb) state = record { sent = refl; phase = inr (refl, refl) }

with_tally : (state state' : State) (tally : Tally) → IsSettledOn state state' → IsSettledOn state (record state' { tally = tally })
with_tally state state' tally is = record { sent = is.sent; phase = is.phase }

found_none : (none : Bool) (state state' : State) → IsSettledOn state state' → IsSettledOn state (if none then state else state')
found_none true state state' is = record { sent = refl; phase = inl refl }
found_none false state state' is = is

at_settling : (task : Task) (state : State) (seen : Seen) (tally : Tally) (phase : Phase) → phase ≡ Settling → IsSettledOn state (led task state seen tally phase)
at_settling task state seen tally phase is =
    subst (λ (phase : Phase). IsSettledOn state (led task state seen tally phase)) (sym is)
    (settled_by (has_settled state.kept (clock_of seen)) (codecs_in seen.changes == 0) _ _ state)

pub settles_on : (task : Task) (state : State) (line : DriverLine) (seen : Seen) → state.phase ≡ Settling → IsSettledOn state (next task state (Some line) seen)
settles_on task state line seen is =
    let tally = tally_next task state (Some line) seen in
    with_tally state _ tally (found_none (finds_none line seen) state (led task state seen tally state.phase) (at_settling task state seen tally state.phase is))

at_reset : (task : Task) (state : State) (seen : Seen) (tally : Tally) (phase : Phase) → phase ≡ Reset → (led task state seen tally phase).sent ≡ state.sent
at_reset task state seen tally phase is =
    ap (λ (phase : Phase). (led task state seen tally phase).sent) is ∙ reset_sent (has_bit seen.control 0) (clock_of seen) state

none_sent : (none : Bool) (state state' : State) → state'.sent ≡ state.sent → (if none then state else state').sent ≡ state.sent
none_sent true state state' is = refl
none_sent false state state' is = is

pub resets_on : (task : Task) (state : State) (line : DriverLine) (seen : Seen) → state.phase ≡ Reset → (next task state (Some line) seen).sent ≡ state.sent
resets_on task state line seen is =
    let tally = tally_next task state (Some line) seen in
    none_sent (finds_none line seen) state (led task state seen tally state.phase) (at_reset task state seen tally state.phase is)

-- and once it is over
same_phase : (none : Bool) (state state' : State) → state'.phase ≡ state.phase → (if none then state else state').phase ≡ state.phase
same_phase true state state' is = refl
same_phase false state state' is = is

pub over_on : (task : Task) (state : State) (line : DriverLine) (seen : Seen) → led task state seen (tally_next task state (Some line) seen) state.phase ≡ state → (next task state (Some line) seen).phase ≡ state.phase
over_on task state line seen is =
    same_phase (finds_none line seen) state (led task state seen (tally_next task state (Some line) seen) state.phase) (ap (λ (state : State). state.phase) is)

pub over_sent : (task : Task) (state : State) (line : DriverLine) (seen : Seen) → led task state seen (tally_next task state (Some line) seen) state.phase ≡ state → (next task state (Some line) seen).sent ≡ state.sent
over_sent task state line seen is =
    none_sent (finds_none line seen) state (led task state seen (tally_next task state (Some line) seen) state.phase) (ap (λ (state : State). state.sent) is)

same_outstanding : (none : Bool) (state state' : State) → state'.rings.outstanding ≡ state.rings.outstanding → (if none then state else state').rings.outstanding ≡ state.rings.outstanding
same_outstanding true state state' is = refl
same_outstanding false state state' is = is

pub over_outstanding : (task : Task) (state : State) (line : DriverLine) (seen : Seen) → led task state seen (tally_next task state (Some line) seen) state.phase ≡ state
    → (next task state (Some line) seen).rings.outstanding ≡ state.rings.outstanding
over_outstanding task state line seen is =
    same_outstanding (finds_none line seen) state (led task state seen (tally_next task state (Some line) seen) state.phase) (ap (λ (state : State). state.rings.outstanding) is)

-- ---- settings, while no command is taken

pub defaults_same : (old new : List CodecState) → map (λ (codec : CodecState). codec.graph) new ≡ map (λ (codec : CodecState). codec.graph) old
    → map (λ (codec : CodecState). codec.settings) new ≡ map (λ (codec : CodecState). codec.settings) old → All KeepsDefaults old → All KeepsDefaults new
defaults_same [] [] graphs settings all = all
defaults_same [] (codec ∷ new) graphs settings all = cc
defaults_same (codec ∷ old) [] graphs settings all = cc
defaults_same (first ∷ old) (codec ∷ new) graphs settings all =
    let graph : codec.graph ≡ first.graph = cc in
    let entries : codec.settings ≡ first.settings = cc in
    let more_graphs : map (λ (codec : CodecState). codec.graph) new ≡ map (λ (codec : CodecState). codec.graph) old = cc in
    let more_settings : map (λ (codec : CodecState). codec.settings) new ≡ map (λ (codec : CodecState). codec.settings) old = cc in
    All-cons KeepsDefaults codec new (keeps first codec graph entries (All-head KeepsDefaults first old all)) (defaults_same old new more_graphs more_settings (All-tail KeepsDefaults first old all))
  where
    keeps : (first codec : CodecState) → codec.graph ≡ first.graph → codec.settings ≡ first.settings → KeepsDefaults first → KeepsDefaults codec
    keeps first codec graph entries is =
        subst (λ (graph : RawCodec). KeepsDefaults (record codec { graph = graph })) (sym graph)
        (subst (λ (settings : Entries). KeepsDefaults (record codec { graph = first.graph; settings = settings })) (sym entries) (record { settings = is.settings; defaults = is.defaults }))

-- what a row of accesses leaves, over which no codec takes a command
pub record IsUnchanged (old new : World) : Type 0 where
  pub graphs : graphs_in new.codecs ≡ graphs_in old.codecs
  pub defaults : All KeepsDefaults old.codecs → All KeepsDefaults new.codecs

pub unchanged : (made : List Event) (old new : Telling) → Makes made old new → (world_of new).commands ≡ (world_of old).commands → IsUnchanged (world_of old) (world_of new)
unchanged made old new makes same =
    let remembers = row_remembers made old new makes (world_of old).codecs (length (world_of old).commands) (remembers_itself (world_of old)) in
    let none = ap (λ (commands : List TakenCommand). drop (length (world_of old).commands) commands) same ∙ drop_all (length (world_of old).commands) (world_of old).commands (omega arith) in
    let settings = only_asked (world_of old).codecs (length (world_of old).commands) (world_of new) remembers (subst (λ (commands : List TakenCommand). All IsReading (words_of commands)) (sym none) (All-nil IsReading)) in record {
      graphs = remembers.graphs;
      defaults = λ all. defaults_same (world_of old).codecs (world_of new).codecs remembers.graphs settings all;
    }
