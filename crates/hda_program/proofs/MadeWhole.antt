-- What comes of a made run.
use Rattle.std.proofs.Common.{◌≡◌, ◌≤◌, ◌+◌, ◌-◌, ◌*◌, ℕ, List, [], ◌∷◌, length, refl, sym, ap, subst, ◌∙◌, arith}
use Rattle.std.specs.Prelude.{All, sum}
use Rattle.stream_format.specs.declared.format.Format.{Format}
use Rattle.stream_format.specs.Cadence.{block_bytes}
use Rattle.stream_format.specs.declared.format.Rate.TheVariants.{R48}
use Rattle.codec_graph.specs.Cycles.{IsWellFormed}
use Rattle.route_planner.specs.declared.routes.Plan.{Plan}
use Rattle.hda_files.specs.declared.machine.Machine.{Machine}
use Rattle.hda_files.specs.Machines.{IsSound}
use Rattle.schedule_reader.specs.declared.schedule.Schedule.{Schedule}
use Rattle.schedule_reader.specs.Schedules.{IsLimited}
use Rattle.wav_reader.specs.declared.wav.Wav.{Wav}
use Rattle.period_writer.specs.declared.course.Span.{Span}
use Rattle.period_writer.specs.declared.geometry.Geometry.{Geometry}
use Rattle.period_writer.specs.Rings.{ring_bytes, limit_of}
use Rattle.period_writer.specs.Runs.{measures}
use Rattle.laws_start.specs.Reading.{IsWhole}
use Rattle.codec_graph.specs.declared.pin_kind.PinKind.TheVariants.{Analog}
use Rattle.laws_start.specs.Tasks.{HavePlans}
use Rattle.sound_report.specs.declared.played.Played.{Played}
use Rattle.program_runs.specs.Histories.{command_total}
use Rattle.program_runs.specs.Shapes.{HasShape}
use Rattle.program_runs.specs.Plays.{IsPlayed}
use Rattle.laws_serving.specs.Rounds.{Round}
use Rattle.laws_serving.specs.ServingSchedules.{ServesCommands, ServesSound}
use Rattle.program_runs.specs.Served.{all_rounds, ServesPlay, PlaysTurns, PlaysByTurns}
use Rattle.laws_serving.specs.Turns.{PlaysInTurns, EndsInTheLast}
use Rattle.made_inputs.specs.MadeMachine.{made_codec, made_machine}
use Rattle.made_inputs.specs.MadeSound.{frames_for, made_format, made_sound}
use Rattle.made_inputs.specs.MadeSchedule.{turns}
use Rattle.made_inputs.proofs.Callers.{length_pcm, length_turns, made_is_limited}
use Rattle.program_runs.specs.MadeRuns.{IsMadeRun}
use Rattle.program_runs.proofs.Callers.{whole}
use Rattle.program_runs.specs.MadeLines.{silence_bytes}
use Rattle.hda_program.specs.MadeEnds.{MadeRunEnds}
use Rattle.hda_program.proofs.MadePlan.{commands_are}
use Rattle.hda_program.proofs.MadeRounds.{IsShort, all_short, serves, plays_in_turns, ends_in_the_last}
use Rattle.hda_program.proofs.MadeHoles.{none_counted}

-- what laws say
abbrev pub ByTurnsLaw : Type 0
ByTurnsLaw =
    (machine : Machine) (plans : List Plan) (wav : Wav) (geometry : Geometry) (schedule : Schedule) (played : Played) (frames : ℕ) (lengths : List ℕ) → IsSound machine → IsWhole machine → HavePlans wav.format machine.codecs plans → IsLimited schedule
    → ServesPlay Analog wav.format machine plans geometry schedule → IsPlayed Analog machine plans wav geometry schedule played → geometry.format.rate ≡ R48 → length wav.pcm ≡ frames * block_bytes geometry.format
    → PlaysTurns wav.format machine plans geometry lengths schedule → EndsInTheLast frames lengths → PlaysByTurns (measures geometry).ring (measures geometry).block frames lengths played

abbrev pub InTimeLaw : Type 0
InTimeLaw =
    (commands ring block fifo limit slack : ℕ) (lengths : List ℕ) (rounds : List Round) → PlaysInTurns commands ring block fifo lengths rounds → All (λ (frames : ℕ). frames ≤ limit) lengths → ServesSound commands limit slack rounds

-- ---- the ring

ring_is : (geometry : Geometry) → HasShape 4 8 192 made_format geometry → (measures geometry).ring ≡ 12288
ring_is geometry shape = ap (λ (n : ℕ). ring_bytes n geometry.period) shape.periods_are ∙ ap (λ (n : ℕ). ring_bytes 4 n) shape.period_is

block_is : (geometry : Geometry) → HasShape 4 8 192 made_format geometry → (measures geometry).block ≡ 4
block_is geometry shape = ap block_bytes shape.format_is

limit_is : (geometry : Geometry) → HasShape 4 8 192 made_format geometry → (measures geometry).limit ≡ 3024
limit_is geometry shape =
    ap (λ (n : ℕ). limit_of n geometry.period geometry.fifo geometry.format) shape.periods_are ∙ ap (λ (n : ℕ). limit_of 4 n geometry.fifo geometry.format) shape.period_is
    ∙ ap (λ (n : ℕ). limit_of 4 8 n geometry.format) shape.fifo_is ∙ ap (limit_of 4 8 192) shape.format_is

within : (limit : ℕ) → limit ≡ 3024 → (lengths : List ℕ) → All IsShort lengths → All (λ (frames : ℕ). frames ≤ limit) lengths
within limit is lengths short = λ k d lt. let few = short k d lt in omega (arith, few, is)

silence_counted : (linked frames : ℕ) → silence_bytes (record { start = 4 * frames; end = 4 * linked + 12288 } ∷ []) ≡ 4 * linked + 12288 - 4 * frames
silence_counted linked frames = omega arith

-- ---- the run

module _ (number : ℕ) (played : Played) (is : IsMadeRun number played) where
  abbrev count : ℕ
  count = is.made.count

  abbrev lengths : List ℕ
  lengths = turns number count

  in_turns : PlaysTurns made_format made_machine is.plans is.geometry lengths is.schedule
  in_turns =
      let base = plays_in_turns 12288 number count (omega arith) in
      let one = subst (λ (schedule : Schedule). PlaysInTurns 44 12288 4 192 lengths (all_rounds schedule).rounds) (sym is.made.is) base in
      let two = subst (λ (commands : ℕ). PlaysInTurns commands 12288 4 192 lengths (all_rounds is.schedule).rounds) (sym (commands_are is.plans is.planned)) one in
      let three = subst (λ (ring : ℕ). PlaysInTurns (command_total Analog made_format made_machine is.plans) ring 4 192 lengths (all_rounds is.schedule).rounds) (sym (ring_is is.geometry is.ring)) two in
      subst (λ (block : ℕ). PlaysInTurns (command_total Analog made_format made_machine is.plans) (measures is.geometry).ring block 192 lengths (all_rounds is.schedule).rounds) (sym (block_is is.geometry is.ring)) three

  commands_served : ServesCommands (0 ∷ []) (command_total Analog made_format made_machine is.plans) (all_rounds is.schedule)
  commands_served =
      subst (λ (commands : ℕ). ServesCommands (0 ∷ []) commands (all_rounds is.schedule)) (sym (commands_are is.plans is.planned))
      (subst (λ (schedule : Schedule). ServesCommands (0 ∷ []) 44 (all_rounds schedule)) (sym is.made.is) (serves number count))

  all_serves : InTimeLaw → ServesPlay Analog made_format made_machine is.plans is.geometry is.schedule
  all_serves law = record {
    commands = commands_served;
    sound = law (command_total Analog made_format made_machine is.plans) (measures is.geometry).ring (measures is.geometry).block 192 (measures is.geometry).limit (measures is.geometry).slack lengths (all_rounds is.schedule).rounds in_turns
        (within (measures is.geometry).limit (limit_is is.geometry is.ring) lengths (all_short number count));
  }

  long : length (made_sound number).pcm ≡ frames_for number * block_bytes is.geometry.format
  long =
      let bytes = length_pcm number in
      let block = block_is is.geometry is.ring in
      let turned : 4 * frames_for number ≡ frames_for number * 4 = omega arith in
      bytes ∙ turned ∙ ap (λ (n : ℕ). frames_for number * n) (sym block)

  abbrev span : ℕ → ℕ → Span
  span ring block = record { start = frames_for number * block; end = sum lengths * block + ring }

  abbrev whole_span : Span
  whole_span = record { start = 4 * frames_for number; end = 4 * sum lengths + 12288 }

  silences_are : span (measures is.geometry).ring (measures is.geometry).block ∷ [] ≡ whole_span ∷ []
  silences_are =
      let by_block = ap (λ (block : ℕ). span (measures is.geometry).ring block ∷ []) (block_is is.geometry is.ring) in
      let by_ring = ap (λ (ring : ℕ). span ring 4 ∷ []) (ring_is is.geometry is.ring) in
      let start : frames_for number * 4 ≡ 4 * frames_for number = omega arith in
      let end : sum lengths * 4 + 12288 ≡ 4 * sum lengths + 12288 = omega arith in
      let turned : span 12288 4 ∷ [] ≡ whole_span ∷ [] =
      ap (λ (n : ℕ). record { start = n; end = sum lengths * 4 + 12288 } ∷ []) start ∙ ap (λ (n : ℕ). record { start = 4 * frames_for number; end = n } ∷ []) end in
      by_block ∙ by_ring ∙ turned

  pub ends : IsWellFormed made_codec → ByTurnsLaw → InTimeLaw → MadeRunEnds number played
  ends well law in_time =
      let sound = is.run.input.sound in
      let all = law made_machine is.plans (made_sound number) is.geometry is.schedule played (frames_for number) lengths sound (whole made_machine refl well sound) is.planned (made_is_limited number is.schedule is.made)
      (all_serves in_time) is.run (ap (λ (format : Format). format.rate) is.ring.format_is) long in_turns (ends_in_the_last number count is.made.turns) in
      record {
        count = count;
        turns_are = is.made.turns;
        commands = is.run.run.commands ∙ commands_are is.plans is.planned;
        done = all.done;
        total = is.run.input.frames_are;
        runs = all.runs ∙ ap (λ (n : ℕ). n + 1) (length_turns number count);
        silences = all.silences ∙ silences_are;
        silence = ap silence_bytes (all.silences ∙ silences_are) ∙ silence_counted (sum lengths) (frames_for number);
        holes = none_counted played.heard all.heard;
      }
