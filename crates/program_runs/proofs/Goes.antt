-- How items that were run go together, and that one of them goes on.
use Rattle.std.proofs.Common.{◌≡◌, Bool, true, false, ℕ, List, [], ◌∷◌, ◌++◌, length, map, refl, sym, ap, subst, ◌∙◌, append_assoc, append-nil, Some}
use Rattle.std.proofs.lemmas.List.{map-append}
use Rattle.std.proofs.lemmas.List.Elements.{filter_map-append}
use Rattle.verb_codes.specs.declared.verbs.Command.{Command}
use Rattle.codec_graph.specs.declared.raw.RawCodec.{RawCodec}
use Rattle.stream_format.specs.declared.format.Format.{Format}
use Rattle.world_steps.specs.declared.Step.{Step}
use Rattle.schedule_reader.specs.declared.schedule.Item.{Item}
use Rattle.schedule_reader.specs.declared.schedule.Item.TheVariants.{Device, Drive}
use Rattle.schedule_reader.specs.declared.schedule.DriverLine as scheduled
use Rattle.schedule_reader.specs.Counts.{driver_line}
use Rattle.hda_world.specs.Events.{Event, Stepped, Begin, End}
use Rattle.hda_world.specs.Tellings.{Telling, Went, Accessed, MakesBy}
use Rattle.hda_world.proofs.Callers.{went_none, went_both}
use Rattle.command_engine.specs.declared.answers.Event as told
use Rattle.driver_bring_up.specs.declared.answers.TheConstants.{TAG}
use Rattle.driver_progress.specs.Tasks.{Task, DriverLine}
use Rattle.driver_bring_up.specs.Commanding.{entries_in, with_told}
use Rattle.driver_bring_up.specs.Counted.{IsCount}
use Rattle.driver_bring_up.specs.declared.bringing.BringUp.{BringUp}
use Rattle.route_setup.specs.Means.{StreamMeaning}
use Rattle.audio_driver.specs.States.{plays_now}
use Rattle.rig.specs.Follows.{FollowItems}
use Rattle.rig.specs.Stretches.{IsStretchFrom}
use Rattle.laws_bring_up.specs.Standing.{IsTaskOfCodecs}
use Rattle.laws_driver.specs.Sounding.{Parts}
use Rattle.laws_driver.specs.Keeping.{Calls, KeepsPlaying}
use Rattle.program_runs.specs.Lines.{driver_line_of, lines_in}
use Rattle.program_runs.specs.Events.{told_in}
use Rattle.program_runs.specs.Going.{UnderWay, Goes}
use Rattle.program_runs.proofs.Events.{told_both, Run, run_of, counted_on}
use Rattle.program_runs.proofs.LinkFrames.{short_before, not_wrapped}

pub lines_both : (first second : List Item) → lines_in (first ++ second) ≡ lines_in first ++ lines_in second
lines_both first second = ap (map driver_line_of) (filter_map-append driver_line first second) ∙ map-append driver_line_of _ _

-- progress is kept for each task
abbrev pub Keeps : StreamMeaning → Format → Type 0
Keeps means format =
    (verbs : RawCodec → List Command) (graphs : List RawCodec) (task : Task) → IsTaskOfCodecs (means format TAG) verbs graphs task
    → KeepsPlaying (means format TAG) verbs graphs task

-- both halves of a journal follow items: what the rig's laws say of it
abbrev pub FollowBoth : Type 0
FollowBoth = (first second : List Item) (before after : List Event) → FollowItems first before → FollowItems second after → FollowItems (first ++ second) (before ++ after)

abbrev pub FollowsLine : Type 0
FollowsLine = (line : scheduled.DriverLine) (old more : List Event) → IsStretchFrom (length old) line.groups (old ++ more) → FollowItems (Drive line ∷ []) more

-- the accesses of a call, and what it counted of what it read
pub record Made (old new : BringUp) (before after : Telling) : Type 0 where
  pub made : List Event
  pub by : MakesBy made before after
  pub counted : (told : List told.Event) → IsCount told old.jacks → IsCount (with_told told (entries_in made)) new.jacks

module _ (means : StreamMeaning) (format : Format) (play : Bool) where
  -- a call makes some, whether it plays or not
  made_by : (irq : Bool) (budget : ℕ) (old new : Parts) (before after : Telling) → Calls (means format TAG) play irq budget old new (Some before) (Some after)
      → Made old.bring_up new.bring_up before after
  made_by irq budget old new before after calls = by (plays_now play old.bring_up) refl where
    by : (now : Bool) → plays_now play old.bring_up ≡ now → Made old.bring_up new.bring_up before after
    by false is = (let leads = calls.leads is in record { made = leads.made; by = leads.by.is.by; counted = leads.reads.counted })
    by true is = (let sounds = calls.sounds is in record { made = sounds.made; by = sounds.by.is.by; counted = sounds.counted })

  -- nothing was run
  pub goes_none : FollowItems [] [] → (parts : Parts) (telling : Telling) → Goes means format play [] parts parts telling telling
  goes_none none parts telling = record {
    events = [];
    went = went_none telling;
    follow = none;
    leads = λ verbs graphs task all left is short under_way. under_way;
    counted = λ first count. subst (λ (events : List Event). IsCount (told_in events) parts.bring_up.jacks) (sym (append-nil first)) count;
    format_is = refl;
    silent = λ none. refl;
  }

  -- some items and then others
  pub goes_both : FollowBoth → (first second : List Item) (old middle new : Parts) (before between after : Telling) → Goes means format play first old middle before between → Goes means format play second middle new between after
      → Goes means format play (first ++ second) old new before after
  goes_both follow first second old middle new before between after one other = record {
    events = one.events ++ other.events;
    went = went_both before between after one.events other.events one.went other.went;
    follow = follow first second one.events other.events one.follow other.follow;
    leads = λ verbs graphs task all left is short under_way.
        (other.leads verbs graphs task all left is short (one.leads verbs graphs task all (lines_in second ++ left) is (short_before between after other.events other.went short)
        (subst (λ (lines : List DriverLine). UnderWay means format verbs graphs task all lines old before)
        (ap (λ (lines : List DriverLine). lines ++ left) (lines_both first second) ∙ append_assoc (lines_in first) (lines_in second) left) under_way)));
    counted = λ first count.
        (subst (λ (events : List Event). IsCount (told_in events) new.bring_up.jacks) (append_assoc first one.events other.events)
        (other.counted (first ++ one.events) (one.counted first count)));
    format_is = other.format_is ∙ one.format_is;
    silent = λ none. (other.silent none ∙ one.silent none);
  }

  -- a step of the device
  pub step_goes : Keeps means format → (step : Step) (parts : Parts) (before after : Telling) → FollowItems (Device step ∷ []) (Stepped step ∷ []) → Went before after (Stepped step ∷ [])
      → Goes means format play (Device step ∷ []) parts parts before after
  step_goes keeps step parts before after follow went = record {
    events = Stepped step ∷ [];
    went = went;
    follow = follow;
    leads = λ verbs graphs task all left is short under_way. ((keeps verbs graphs task is.of_codecs).steps all left parts (step ∷ []) before after went under_way);
    counted = λ first count. subst (λ (told : List told.Event). IsCount told parts.bring_up.jacks) (sym (told_both first (Stepped step ∷ []) ∙ append-nil (told_in first))) count;
    format_is = refl;
    silent = λ none. refl;
  }

  -- a call of the driver between its marks
  pub line_goes : Keeps means format → FollowsLine → (line : scheduled.DriverLine) (old new : Parts) (before begun made after : Telling) → Accessed before begun Begin
      → Calls (means format TAG) play line.irq line.budget old new (Some begun) (Some made) → Accessed made after End
      → IsStretchFrom (length before.journal) line.groups after.journal → Goes means format play (Drive line ∷ []) old new before after
  line_goes keeps follows line old new before begun made after opened calls ended stretched = record {
    events = events;
    went = went;
    follow = follows line before.journal events (subst (λ (journal : List Event). IsStretchFrom (length before.journal) line.groups journal) went.journal stretched);
    leads = λ verbs graphs task all left is short under_way.
        ((keeps verbs graphs task is.of_codecs).runs all left (driver_line_of line) old new before begun made after opened
        (subst (λ (plays : Bool). Calls (means format TAG) plays line.irq line.budget old new (Some begun) (Some made)) (sym is.plays_is) calls) ended
        (not_wrapped made (short_before made after _ ended.went short)) under_way);
    counted = λ first count. counts first count;
    format_is = new.bring_up.formats ∙ calls.kept.format ∙ sym old.bring_up.formats;
    silent = λ none. calls.writer (ap (λ (plays : Bool). plays_now plays old.bring_up) none);
  } where
    call : Made old.bring_up new.bring_up begun made
    call = made_by line.irq line.budget old new begun made calls

    run : Run call.made before after
    run = run_of call.made before begun made after opened call.by ended

    events : List Event
    events = run.events

    went : Went before after events
    went = run.went

    counts : (first : List Event) → IsCount (told_in first) old.bring_up.jacks → IsCount (told_in (first ++ events)) new.bring_up.jacks
    counts first count = counted_on old.bring_up.jacks new.bring_up.jacks call.made events run.entries first call.counted count
