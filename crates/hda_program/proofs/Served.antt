-- How walks and sounds end by schedules that serve them.
use Rattle.std.proofs.Common.{◌≡◌, ◌≤◌, ◌*◌, ◌∙◌, ℕ, List, Bool, true, false, nat_lt, length, inl, inr, Option, Some, None, Ok, Err, refl, sym, ap, subst, rules, if◌then◌else◌}
use Rattle.std.specs.Prelude.{◌⊎◌, IfSome, IsNone, IsSome}
use Rattle.stream_format.specs.declared.format.Format.{Format}
use Rattle.stream_format.specs.Cadence.{block_bytes}
use Rattle.codec_graph.specs.declared.pin_kind.PinKind.{PinKind}
use Rattle.codec_graph.specs.declared.pin_kind.PinKind.TheVariants.{Analog}
use Rattle.route_planner.specs.declared.routes.Plan.{Plan}
use Rattle.hda_outside.specs.Shelf.{Files}
use Rattle.hda_files.specs.declared.machine.Machine.{Machine}
use Rattle.hda_files.specs.Machines.{IsSound}
use Rattle.schedule_reader.specs.declared.schedule.Schedule.{Schedule}
use Rattle.schedule_reader.specs.declared.fault.SchedFault.{SchedFault}
use Rattle.schedule_reader.specs.declared.fault.SchedFault.TheVariants.{TooManySteps, TooManyFrames}
use Rattle.schedule_reader.specs.Counts.{steps_of, frames_of}
use Rattle.schedule_reader.specs.Faults.{first_fault}
use Rattle.schedule_reader.specs.Parts.{parts}
use Rattle.schedule_reader.specs.Schedules.{IsLimited, judged, limited, most_frames, most_steps, rows, schedule_of}
use Rattle.program_words.specs.Asked.{walk, make}
use Rattle.wav_reader.specs.declared.opened.WavHead.{WavHead}
use Rattle.wav_reader.specs.declared.wav.Wav.{Wav}
use Rattle.period_writer.specs.declared.geometry.Geometry.{Geometry}
use Rattle.period_writer.specs.Runs.{Measures, measures}
use Rattle.period_writer.specs.Rings.{ring_bytes, limit_of, slack_of, ahead_of}
use Rattle.laws_start.specs.Reading.{IsRead}
use Rattle.laws_start.specs.Tasks.{HavePlans}
use Rattle.program_runs.specs.Outputs.{HavePlansOf}
use Rattle.capture_report.specs.declared.captured.Captured.{Captured}
use Rattle.sound_report.specs.declared.played.Played.{Played}
use Rattle.sound_report.specs.declared.played.CutLine.{CutLine}
use Rattle.sound_report.specs.declared.played.CutLine.TheVariants as cuts
use Rattle.sound_report.specs.declared.status.Status.TheVariants.{OutOfMemory}
use Rattle.sound_report.specs.Statuses.{number_of}
use Rattle.program_runs.specs.Shapes.{HasShape}
use Rattle.program_runs.specs.Walks.{walk_format, IsWalked}
use Rattle.program_runs.specs.Plays.{IsCutUnder, IsPlayed, IsReadUpTo, sound_with}
use Rattle.program_runs.specs.Histories.{command_total, journal_of, telling_of_run}
use Rattle.laws_serving.specs.ServingSchedules.{ServesSound}
use Rattle.program_runs.specs.Served.{all_rounds, line_count, ServesBringUp, ServesPlay, ServedWalkEnds, ServedPlayEnds, IsFedWhole, PlaysAll}
use Rattle.hda_program.specs.Answers.{HasEnded, HasEndedPlay, HasWritten}
use Rattle.hda_program.specs.Asks.{IsSoundOf, IsWalkOf}
use Rattle.hda_program.specs.Causes.{IsOfPlay, IsOfWalk, IsShortCut}
use Rattle.hda_program.specs.Complete.{CanPlay, CanWalk}
use Rattle.hda_program.specs.Files.{IsMachineOf, IsScheduleOf}
use Rattle.hda_program.specs.Meanings.{end_status, fault_status, run_meant, status_of}
use Rattle.hda_program.specs.PlayedFiles.{HasPlayedFiles}
use Rattle.hda_program.specs.Promises.{HasWalked, HasRun, IsReported, KeepsPromise}
use Rattle.hda_program.specs.Rings.{IsRingOf}
use Rattle.hda_program.specs.Served.{EndsSo, WalksSo, PlaysSo, PlaysWhole}
use Rattle.hda_program.proofs.Complete.{files_complete, sound_complete, walk_complete}
use Rattle.hda_program.proofs.Endings.{never_short, run_promised, same_asked, sound_runs, walk_runs}
use Rattle.hda_program.proofs.OneReading.{one_machine, one_plans, one_schedule, one_wav_format, one_wav_frames}
use Rattle.hda_program.proofs.SoundWords.{no_sound, same_sound}
use Rattle.hda_program.proofs.PlayEndings.{files_promised, files_runs}

-- ---- a schedule that was read is no longer than its limits

within_limits : (made schedule : Schedule) → limited made ≡ Ok schedule → IsLimited schedule
unfolding limited
within_limits made schedule is = by_steps (nat_lt most_steps (steps_of made)) refl is
  where
    by_frames : (long : Bool) → nat_lt most_frames (frames_of made) ≡ long → steps_of made ≤ most_steps → (if long then Err TooManyFrames else Ok made) ≡ Ok schedule → IsLimited schedule
    by_frames true over few is = cc
    by_frames false over few is =
        let short : frames_of made ≤ most_frames = search (rules, over) in
        let same : made ≡ schedule = cc in subst IsLimited same (record { steps = few; frames = short })

    by_steps : (long : Bool) → nat_lt most_steps (steps_of made) ≡ long → (if long then Err TooManySteps else (if nat_lt most_frames (frames_of made) then Err TooManyFrames else Ok made)) ≡ Ok schedule → IsLimited schedule
    by_steps true over is = cc
    by_steps false over is = by_frames (nat_lt most_frames (frames_of made)) refl (search (rules, over)) is

read_limited : (bytes : List ℕ) (schedule : Schedule) → schedule_of bytes ≡ Ok schedule → IsLimited schedule
unfolding schedule_of
read_limited bytes schedule is = by (first_fault (rows bytes)) is
  where
    by : (fault : Option SchedFault) → judged fault (rows bytes) ≡ Ok schedule → IsLimited schedule
    by (Some fault) is = cc
    by None is = within_limits (record { parts = parts (rows bytes) }) schedule is

-- ---- rings of one shape

measures_by : (periods period fifo : ℕ) → Format → Measures
measures_by periods period fifo format = record {
  ring = ring_bytes periods period;
  block = block_bytes format;
  limit = limit_of periods period fifo format;
  slack = slack_of periods period fifo format;
  ahead = ahead_of periods period fifo format;
}

measured : (periods period fifo : ℕ) (format : Format) (geometry : Geometry) → HasShape periods period fifo format geometry → measures geometry ≡ measures_by periods period fifo format
unfolding measures_by
measured periods period fifo format geometry shape =
    ap (λ (n : ℕ). measures_by n geometry.period geometry.fifo geometry.format) shape.periods_are ∙ ap (λ (n : ℕ). measures_by periods n geometry.fifo geometry.format) shape.period_is
    ∙ ap (λ (n : ℕ). measures_by periods period n geometry.format) shape.fifo_is ∙ ap (measures_by periods period fifo) shape.format_is

one_measure : (periods period fifo : ℕ) (format : Format) (one other : Geometry) → HasShape periods period fifo format one → HasShape periods period fifo format other → measures one ≡ measures other
one_measure periods period fifo format one other h k = measured periods period fifo format one h ∙ sym (measured periods period fifo format other k)

-- ---- what laws say of runs

abbrev pub WalkLaw : Type 0
WalkLaw =
    (machine : Machine) (plans : List Plan) (schedule : Schedule) (played : Played) → IsSound machine → IsRead machine → HavePlans walk_format machine.codecs plans → IsLimited schedule → ServesBringUp Analog walk_format machine plans schedule
    → IsWalked machine plans schedule played → ServedWalkEnds (command_total Analog walk_format machine plans) (line_count schedule) played.fault

abbrev pub PlayLaw : Type 0
PlayLaw =
    (kind : PinKind) (machine : Machine) (plans : List Plan) (wav : Wav) (geometry : Geometry) (schedule : Schedule) (played : Played) → IsSound machine → IsRead machine → HavePlansOf kind wav.format machine.codecs plans → IsLimited schedule
    → ServesPlay kind wav.format machine plans geometry schedule → IsPlayed kind machine plans wav geometry schedule played
    → ServedPlayEnds (command_total kind wav.format machine plans) (line_count schedule) (block_bytes wav.format) played.total played.runs played.silences played.fault

abbrev pub WholeLaw : Type 0
WholeLaw =
    (kind : PinKind) (machine : Machine) (plans : List Plan) (wav : Wav) (geometry : Geometry) (schedule : Schedule) (played : Played) (frames : ℕ) → IsSound machine → IsRead machine → HavePlansOf kind wav.format machine.codecs plans → IsLimited schedule
    → ServesPlay kind wav.format machine plans geometry schedule → IsPlayed kind machine plans wav geometry schedule played → length wav.pcm ≡ frames * block_bytes geometry.format
    → IsFedWhole (command_total kind wav.format machine plans) (measures geometry).ring (length wav.pcm) (all_rounds schedule) (telling_of_run machine played).start (journal_of played) → PlaysAll (length wav.pcm) played.silences played.fault

-- ---- the run that is given

-- its reading was cut by nothing
not_cut : (name : List ℕ) (head : WavHead) (read : ℕ) (failed emptied : Type 0) (cut : Option CutLine) → IsCutUnder name head read failed emptied cut → (failed → ⊥) → (IsShortCut cut → ⊥) → cut ≡ None
not_cut name head read failed emptied None under good long = refl
not_cut name head read failed emptied (Some (cuts.Failed text)) under good long = absurd (good under.1)
not_cut name head read failed emptied (Some (cuts.Short place)) under good long = absurd (long tt)

module _ (told : Option Files) (failed : List ℕ → Type 0) where
  -- the walk of these words
  walked_so : (law : WalkLaw) (words : List (List ℕ)) (codec name : List ℕ) (played : Played) → IsWalkOf words codec name → (can : CanWalk told failed codec name) → HasWalked told words played
      → ServesBringUp Analog walk_format can.machine can.plans can.schedule → WalksSo can.machine can.plans can.schedule played
  walked_so law words codec name played asks can walked serves =
      let same : walk walked.codec_name walked.schedule_name ≡ walk codec name = same_asked words _ _ walked.asks asks in
      let codec_is : walked.codec_name ≡ codec = cc in
      let name_is : walked.schedule_name ≡ name = cc in
      let codec_file : IsMachineOf (Some can.files) codec walked.machine =
      subst (λ (told : Option Files). IsMachineOf told codec walked.machine) can.tells (subst (λ (name : List ℕ). IsMachineOf told name walked.machine) codec_is walked.codec_file) in
      let schedule_file : IsScheduleOf (Some can.files) name walked.schedule =
      subst (λ (told : Option Files). IsScheduleOf told name walked.schedule) can.tells (subst (λ (name : List ℕ). IsScheduleOf told name walked.schedule) name_is walked.schedule_file) in
      let machine_is : can.machine ≡ walked.machine = one_machine can.files codec walked.machine can.machine codec_file can.codec_file in
      let schedule_is : can.schedule ≡ walked.schedule = one_schedule can.files name walked.schedule can.schedule schedule_file can.schedule_file in
      let plans_are : can.plans ≡ walked.plans =
      one_plans Analog walk_format walked.machine.codecs walked.plans can.plans walked.planned (subst (λ (machine : Machine). HavePlans walk_format machine.codecs can.plans) machine_is can.planned) in
      let P : Machine → List Plan → Schedule → Type 0 = λ machine plans schedule. ServesBringUp Analog walk_format machine plans schedule → WalksSo machine plans schedule played in
      let here : P walked.machine walked.plans walked.schedule =
      λ serves. law walked.machine walked.plans walked.schedule played walked.run.input.sound (walked.codec_file.bytes, walked.codec_file.reads) walked.planned
      (read_limited walked.schedule_file.bytes walked.schedule walked.schedule_file.reads) serves walked.run in
      (subst (λ (machine : Machine). P machine can.plans can.schedule) (sym machine_is)
      (subst (λ (plans : List Plan). P walked.machine plans can.schedule) (sym plans_are) (subst (λ (schedule : Schedule). P walked.machine walked.plans schedule) (sym schedule_is) here))) serves

  -- the sound of these files
  abbrev SoundsSo : PinKind → Geometry → Played → Machine → List Plan → Format → ℕ → Schedule → Type 0
  SoundsSo kind geometry played machine plans format frames schedule =
      ServesPlay kind format machine plans geometry schedule
      → ServedPlayEnds (command_total kind format machine plans) (line_count schedule) (block_bytes format) frames played.runs played.silences played.fault
      × (IsFedWhole (command_total kind format machine plans) (measures geometry).ring (frames * block_bytes format) (all_rounds schedule) (telling_of_run machine played).start (journal_of played)
      → PlaysAll (frames * block_bytes format) played.silences played.fault)

  sounds_so : (kind : PinKind) (law : PlayLaw) (whole_law : WholeLaw) (files : Files) (emptied : List ℕ → Type 0) (gave : ℕ → Type 0) (codec wav name : List ℕ) (periods period : ℕ) (played : Played) (geometry : Geometry)
      → (run : HasPlayedFiles kind (Some files) failed emptied gave codec wav name periods period played) → played.cut ≡ None → HasShape periods period run.machine.fifo run.head.format geometry
      → SoundsSo kind geometry played run.machine run.plans run.head.format run.head.frames run.schedule
  sounds_so kind law whole_law files emptied gave codec wav name periods period played geometry run uncut shape serves =
      let from = run.run in
      let sounded = from.run in
      let same : measures geometry ≡ measures run.geometry = one_measure periods period run.machine.fifo run.head.format geometry run.geometry shape run.ring in
      let commands = command_total kind run.head.format run.machine run.plans in
      let serves' : ServesPlay kind run.head.format run.machine run.plans run.geometry run.schedule = record {
        commands = serves.commands;
        sound = subst (λ (m : Measures). ServesSound commands m.limit m.slack (all_rounds run.schedule).rounds) same serves.sound;
      } in
      let wav' = sound_with run.head from.pcm in
      let read : IsRead run.machine = (run.codec_file.bytes, run.codec_file.reads) in
      let limits = read_limited run.schedule_file.bytes run.schedule run.schedule_file.reads in
      let all : played.read ≡ run.head.frames = subst (λ (cut : Option CutLine). IsReadUpTo cut played.read run.head.frames) uncut from.sound.up_to in
      let bytes : length from.pcm ≡ run.head.frames * block_bytes run.head.format = from.sound.blocks ∙ ap (λ (n : ℕ). n * block_bytes run.head.format) all in
      let long : length from.pcm ≡ run.head.frames * block_bytes run.geometry.format = bytes ∙ ap (λ (format : Format). run.head.frames * block_bytes format) (sym run.ring.format_is) in (
        subst (λ (total : ℕ). ServedPlayEnds commands (line_count run.schedule) (block_bytes run.head.format) total played.runs played.silences played.fault) sounded.input.frames_are
            (law kind run.machine run.plans wav' run.geometry run.schedule played sounded.input.sound read run.planned limits serves' sounded),
        λ fed. subst (λ (bytes : ℕ). PlaysAll bytes played.silences played.fault) bytes
            (whole_law kind run.machine run.plans wav' run.geometry run.schedule played run.head.frames sounded.input.sound read run.planned limits serves' sounded long
            (subst (λ (bytes : ℕ). IsFedWhole commands (measures run.geometry).ring bytes (all_rounds run.schedule) (telling_of_run run.machine played).start (journal_of played)) (sym bytes)
            (subst (λ (m : Measures). IsFedWhole commands m.ring (run.head.frames * block_bytes run.head.format) (all_rounds run.schedule) (telling_of_run run.machine played).start (journal_of played)) same fed))),
      )

  record SoundedSo (kind : PinKind) (codec wav name : List ℕ) (periods period : ℕ) (can : CanPlay kind told failed codec wav name periods period) (geometry : Geometry) (played : Played) : Type 0 where
    uncut : played.cut ≡ None
    ends : PlaysSo kind can.machine can.plans can.head can.schedule played
    whole : PlaysWhole kind can.machine can.plans can.head geometry can.schedule played

  played_so : (kind : PinKind) (law : PlayLaw) (whole_law : WholeLaw) (emptied : List ℕ → Type 0) (gave : ℕ → Type 0) (codec wav name : List ℕ) (periods period : ℕ) (played : Played) (geometry : Geometry) → (can : CanPlay kind told failed codec wav name periods period)
      → IsRingOf periods period can.machine can.head geometry → HasPlayedFiles kind told failed emptied gave codec wav name periods period played → ServesPlay kind can.head.format can.machine can.plans geometry can.schedule
      → SoundedSo kind codec wav name periods period can geometry played
  played_so kind law whole_law emptied gave codec wav name periods period played geometry can shape given serves =
      let files = can.files in
      let run : HasPlayedFiles kind (Some files) failed emptied gave codec wav name periods period played = subst (λ (told : Option Files). HasPlayedFiles kind told failed emptied gave codec wav name periods period played) can.tells given in
      let machine_is : can.machine ≡ run.machine = one_machine files codec run.machine can.machine run.codec_file can.codec_file in
      let schedule_is : can.schedule ≡ run.schedule = one_schedule files name run.schedule can.schedule run.schedule_file can.schedule_file in
      let format_is : can.head.format ≡ run.head.format = one_wav_format files wav run.head can.head run.wav_file.file can.wav_file in
      let frames_are : can.head.frames ≡ run.head.frames = one_wav_frames files wav run.head can.head run.wav_file.file can.wav_file in
      let plans_are : can.plans ≡ run.plans =
      one_plans kind run.head.format run.machine.codecs run.plans can.plans run.planned
      (subst (λ (machine : Machine). HavePlansOf kind run.head.format machine.codecs can.plans) machine_is (subst (λ (format : Format). HavePlansOf kind format can.machine.codecs can.plans) format_is can.planned)) in
      let shape' : HasShape periods period run.machine.fifo run.head.format geometry =
      subst (λ (machine : Machine). HasShape periods period machine.fifo run.head.format geometry) machine_is (subst (λ (format : Format). HasShape periods period can.machine.fifo format geometry) format_is shape) in
      let long : IsShortCut played.cut → ⊥ = λ short. never_short kind files wav run.head run.machine run.plans run.geometry run.schedule played run.wav_file.file run.run short in
      let uncut = not_cut wav run.head played.read (failed wav) (emptied wav) played.cut run.cut can.wav_given long in
      let P = SoundsSo kind geometry played in
      let here = sounds_so kind law whole_law files emptied gave codec wav name periods period played geometry run uncut shape' in
      let there : P can.machine can.plans can.head.format can.head.frames can.schedule =
      subst (λ (machine : Machine). P machine can.plans can.head.format can.head.frames can.schedule) (sym machine_is)
      (subst (λ (plans : List Plan). P run.machine plans can.head.format can.head.frames can.schedule) (sym plans_are)
      (subst (λ (format : Format). P run.machine run.plans format can.head.frames can.schedule) (sym format_is)
      (subst (λ (frames : ℕ). P run.machine run.plans run.head.format frames can.schedule) (sym frames_are) (subst (λ (schedule : Schedule). P run.machine run.plans run.head.format run.head.frames schedule) (sym schedule_is) here)))) in
      let both = there serves in
      record { uncut = uncut; ends = both.0; whole = both.1 }

-- ---- how the program ends

module _ (before after : Option (List ℕ)) (sink_failed : Type 0) (status : ℕ) (Run : Played → List ℕ → Type 0) (Ends : Played → Type 0) (sink_good : sink_failed → ⊥)
    (each : (played : Played) (text : List ℕ) → Run played text → Ends played × (status_of played ≡ fault_status played.fault)) where
  written_so : (played : Played) (text : List ℕ) → status_of played ≡ fault_status played.fault → HasWritten before after sink_failed (run_meant played text) status → (status ≡ number_of (fault_status played.fault)) ⊎ (status ≡ number_of OutOfMemory)
  written_so played text is (inl whole) = inl (whole.0 ∙ ap number_of is)
  written_so played text is (inr (inl sink)) = absurd (sink_good sink.1)
  written_so played text is (inr (inr memory)) = inr memory.0

  ends_so : (given : Option Played) → IfSome given (KeepsPromise Run before after sink_failed status) → (IsNone given → status ≡ number_of OutOfMemory) → EndsSo Ends given status
  ends_so None promise none = record { run = tt; status_is = inr (none refl) }
  ends_so (Some played) promise none = let done = each played promise.run_text promise.run in record { run = done.0; status_is = written_so played promise.run_text done.1 promise.text }

none_given : (given : Option Played) (status : ℕ) (IsOf : ℕ → Type 0) → IsOf status ⊎ (status ≡ number_of OutOfMemory) → (IsOf status → IsSome given) → IsNone given → status ≡ number_of OutOfMemory
none_given None status IsOf (inl is) some none = let given : IsSome {T = Played} None = some is in cc
none_given None status IsOf (inr memory) some none = memory
none_given (Some played) status IsOf ended some none = let is : IsNone (Some played) = none in cc

module _ (before after : Option (List ℕ)) (sink_failed : Type 0) (given : Option Played) (kept : Option Captured) (status : ℕ) (sink_good : sink_failed → ⊥) (told : Option Files) (failed emptied unasked : List ℕ → Type 0) (gave : ℕ → Type 0) where
  -- the words ask for a walk: no play is given
  walk_of_run : (law : WalkLaw) (words : List (List ℕ)) (codec name : List ℕ) (played : Played) (text : List ℕ) → IsWalkOf words codec name → (can : CanWalk told failed codec name) → HasRun told failed emptied gave words played text
      → ServesBringUp Analog walk_format can.machine can.plans can.schedule → WalksSo can.machine can.plans can.schedule played × (status_of played ≡ fault_status played.fault)
  walk_of_run law words codec name played text walks can (inr made) serves =
      let bad : make made.number ≡ walk codec name = same_asked words _ _ made.asks walks in cc
  walk_of_run law words codec name played text walks can (inl (inl walked, is)) serves =
      (walked_so told failed law words codec name played walks can walked serves, ap (λ (cut : Option CutLine). end_status cut played.fault) walked.run.silent.uncut)
  walk_of_run law words codec name played text walks can (inl (inr sounded, is)) serves =
      no_sound sounded.kind sounded.codec_name sounded.wav_name sounded.schedule_name sounded.periods sounded.period (walk codec name) refl (same_asked words _ _ sounded.asks walks)

  pub walk_serves : (law : WalkLaw) (words : List (List ℕ)) (codec name : List ℕ) → IsWalkOf words codec name → (can : CanWalk told failed codec name) → HasEnded told failed emptied unasked gave words before after sink_failed given kept status
      → ServesBringUp Analog walk_format can.machine can.plans can.schedule → EndsSo (WalksSo can.machine can.plans can.schedule) given status
  walk_serves law words codec name walks can ended serves =
      ends_so before after sink_failed status (HasRun told failed emptied gave words) (WalksSo can.machine can.plans can.schedule) sink_good (λ played text run. walk_of_run law words codec name played text walks can run serves) given
      (run_promised told failed emptied unasked gave words before after sink_failed given kept status ended)
      (none_given given status IsOfWalk (walk_complete before after sink_failed given kept status sink_good told failed emptied unasked gave words codec name walks can ended)
      (λ is. walk_runs told failed emptied unasked gave words before after sink_failed given kept status ended codec name walks is))

  -- the words ask for a sound: no walk is given
  sound_of_run : (kind : PinKind) (law : PlayLaw) (whole_law : WholeLaw) (words : List (List ℕ)) (codec wav name : List ℕ) (periods period : ℕ) (played : Played) (text : List ℕ) (geometry : Geometry) → IsSoundOf kind words codec wav name periods period
      → (can : CanPlay kind told failed codec wav name periods period) → IsRingOf periods period can.machine can.head geometry → HasRun told failed emptied gave words played text → ServesPlay kind can.head.format can.machine can.plans geometry can.schedule
      → SoundedSo told failed kind codec wav name periods period can geometry played
  sound_of_run kind law whole_law words codec wav name periods period played text geometry plays can shape (inr made) serves =
      no_sound kind codec wav name periods period (make made.number) refl (same_asked words _ _ plays made.asks)
  sound_of_run kind law whole_law words codec wav name periods period played text geometry plays can shape (inl (inl walked, is)) serves =
      no_sound kind codec wav name periods period (walk walked.codec_name walked.schedule_name) refl (same_asked words _ _ plays walked.asks)
  sound_of_run kind law whole_law words codec wav name periods period played text geometry plays can shape (inl (inr sounded, is)) serves =
      let files : HasPlayedFiles kind told failed emptied gave codec wav name periods period played =
      same_sound (λ k c w n p q. HasPlayedFiles k told failed emptied gave c w n p q played) sounded.kind kind sounded.codec_name sounded.wav_name sounded.schedule_name codec wav name
      sounded.periods sounded.period periods period (same_asked words _ _ sounded.asks plays) sounded.files in
      played_so told failed kind law whole_law emptied gave codec wav name periods period played geometry can shape files serves

  module _ (kind : PinKind) (law : PlayLaw) (whole_law : WholeLaw) (codec wav name : List ℕ) (periods period : ℕ) (geometry : Geometry) (can : CanPlay kind told failed codec wav name periods period) (shape : IsRingOf periods period can.machine can.head geometry)
      (serves : ServesPlay kind can.head.format can.machine can.plans geometry can.schedule) where
    status_so : (played : Played) → SoundedSo told failed kind codec wav name periods period can geometry played → status_of played ≡ fault_status played.fault
    status_so played so = ap (λ (cut : Option CutLine). end_status cut played.fault) so.uncut

    module _ (Ends : Played → Type 0) (each : (played : Played) → SoundedSo told failed kind codec wav name periods period can geometry played → Ends played) where
      words_so : (words : List (List ℕ)) → IsSoundOf kind words codec wav name periods period → HasEnded told failed emptied unasked gave words before after sink_failed given kept status → EndsSo Ends given status
      words_so words plays ended =
          ends_so before after sink_failed status (HasRun told failed emptied gave words) Ends sink_good
          (λ played text run. let so = sound_of_run kind law whole_law words codec wav name periods period played text geometry plays can shape run serves in (each played so, status_so played so)) given
          (run_promised told failed emptied unasked gave words before after sink_failed given kept status ended)
          (none_given given status IsOfPlay (sound_complete before after sink_failed given kept status sink_good told failed emptied unasked gave words kind codec wav name periods period plays can ended)
          (λ is. sound_runs told failed emptied unasked gave words before after sink_failed given kept status ended kind codec wav name periods period plays (inl is)))

      files_so : HasEndedPlay kind told failed emptied unasked gave codec wav name periods period before after sink_failed given kept status → EndsSo Ends given status
      files_so ended =
          ends_so before after sink_failed status (IsReported (HasPlayedFiles kind told failed emptied gave codec wav name periods period)) Ends sink_good
          (λ played text run. let so = played_so told failed kind law whole_law emptied gave codec wav name periods period played geometry can shape run.0 serves in (each played so, status_so played so)) given
          (files_promised kind told failed emptied unasked gave codec wav name periods period before after sink_failed given kept status ended)
          (none_given given status IsOfPlay (files_complete before after sink_failed given kept status sink_good told failed emptied unasked gave kind codec wav name periods period can ended)
          (λ is. files_runs kind told failed emptied unasked gave codec wav name periods period before after sink_failed given kept status ended (inl is)))

    pub sound_serves : (words : List (List ℕ)) → IsSoundOf kind words codec wav name periods period → HasEnded told failed emptied unasked gave words before after sink_failed given kept status
        → EndsSo (PlaysSo kind can.machine can.plans can.head can.schedule) given status
    sound_serves words plays ended = words_so (PlaysSo kind can.machine can.plans can.head can.schedule) (λ played so. so.ends) words plays ended

    pub sound_serves_whole : (words : List (List ℕ)) → IsSoundOf kind words codec wav name periods period → HasEnded told failed emptied unasked gave words before after sink_failed given kept status
        → EndsSo (PlaysWhole kind can.machine can.plans can.head geometry can.schedule) given status
    sound_serves_whole words plays ended = words_so (PlaysWhole kind can.machine can.plans can.head geometry can.schedule) (λ played so. so.whole) words plays ended

    pub files_serve : HasEndedPlay kind told failed emptied unasked gave codec wav name periods period before after sink_failed given kept status → EndsSo (PlaysSo kind can.machine can.plans can.head can.schedule) given status
    files_serve ended = files_so (PlaysSo kind can.machine can.plans can.head can.schedule) (λ played so. so.ends) ended

    pub files_serve_whole : HasEndedPlay kind told failed emptied unasked gave codec wav name periods period before after sink_failed given kept status
        → EndsSo (PlaysWhole kind can.machine can.plans can.head geometry can.schedule) given status
    files_serve_whole ended = files_so (PlaysWhole kind can.machine can.plans can.head geometry can.schedule) (λ played so. so.whole) ended
