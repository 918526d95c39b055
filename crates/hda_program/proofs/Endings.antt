-- What the statuses of the program come to, and when it gives a run.
use Rattle.std.proofs.Common.{◌≡◌, ◌≢◌, ◌∙◌, ℕ, List, [], ◌∷◌, Bool, true, false, inl, inr, Option, Some, None, refl, sym, ap, subst, arith}
use Rattle.std.specs.Prelude.{◌⊎◌, ◌==◌, ◌||◌, if◌then◌else◌, IfSome, IsNone, IsSome, IsSomeAnd}
use Rattle.std.specs.List.{Contains}
use Rattle.std.proofs.lemmas.List.Elements.{Contains-append_right}
use Rattle.codec_graph.specs.declared.pin_kind.PinKind.{PinKind}
use Rattle.codec_graph.specs.declared.pin_kind.PinKind.TheVariants.{Analog}
use Rattle.route_planner.specs.declared.routes.Plan.{Plan}
use Rattle.hda_files.specs.declared.machine.CodecFile.{CodecFile}
use Rattle.hda_files.specs.declared.machine.Machine.{Machine}
use Rattle.schedule_reader.specs.declared.schedule.Schedule.{Schedule}
use Rattle.period_writer.specs.declared.geometry.Geometry.{Geometry}
use Rattle.wav_reader.specs.declared.opened.WavHead.{WavHead}
use Rattle.stream_format.specs.declared.format.Format.{Format}
use Rattle.hda_outside.specs.Shelf.{Files}
use Rattle.stream_format.specs.Cadence.{hertz}
use Rattle.program_words.specs.Asked.{Asked, bits_of, make, request_of, route, walk}
use Rattle.capture_report.specs.declared.captured.Captured.{Captured}
use Rattle.sound_report.specs.declared.played.Played.{Played}
use Rattle.sound_report.specs.declared.played.PlayFault.{PlayFault}
use Rattle.sound_report.specs.declared.played.PlayFault.TheVariants as fault
use Rattle.sound_report.specs.declared.played.CutLine.{CutLine}
use Rattle.sound_report.specs.declared.played.CutLine.TheVariants as cuts
use Rattle.sound_report.specs.declared.status.Status.{Status}
use Rattle.sound_report.specs.declared.status.Status.TheVariants.{Done, WordsRefused, ShelfFailed, SinkFailed, CodecRefused, WavRefused, ScheduleRefused, NothingRouted, Unanswered, Late, ScheduleEnded, OutOfMemory, GeometryRefused, WavShrank}
use Rattle.sound_report.specs.Statuses.{number_of}
use Rattle.hda_program.specs.Answers.{HasEnded, HasEndedWith, HasWritten, IsMeant}
use Rattle.program_runs.specs.Plays.{IsCutUnder, IsPlayedFrom}
use Rattle.hda_program.specs.Asks.{IsNoCommand, IsRouteOf, IsSoundOf, IsWalkOf, Names, files_asked}
use Rattle.hda_program.specs.Files.{IsHeadIn}
use Rattle.hda_program.specs.Causes.{HasBadCodecFile, HasBadGiven, HasBadRecordingRing, HasBadRing, HasBadSchedule, HasBadWav, HasManyDigitalPins, HasPlanned, HasPlannedInput, HasSomeInput, NoRoute, SomeRoute, HasStoppedUnread, HasUnreadFile, IsFailedCut, IsOfSound, IsOfWalk, IsRunless, IsShortCut, OfItsWav, WasShortened, WasUnread}
use Rattle.hda_program.specs.PlayedFiles.{HasPlayedFiles}
use Rattle.hda_program.specs.Promises.{HasCaptured, HasRun, KeepsPromise}
use Rattle.hda_program.specs.Made.{HasMadeRun, WantsMade}
use Rattle.hda_program.specs.Meanings.{Meant, capture_status, end_status, fault_status, of_capture, run_meant, status_of, telling}
use Rattle.program_captures.specs.Inputs.{HasNoInput}
use Rattle.hda_program.proofs.SoundWords.{no_sound, sound_files}
use Rattle.hda_program.proofs.CaptureWords.{not_capture_and_sound, not_capture_and_walk}
use Rattle.hda_program.proofs.Cases.{Case, Cause as CauseOf, IsRouted, WordsCase, cases, ran, recorded, said}

-- ---- numbers

-- the status with a number
abbrev pub status_with : ℕ → Status
status_with n =
    if n == 0 then Done
    else (if n == 2 then WordsRefused
    else (if n == 3 then ShelfFailed
    else (if n == 4 then SinkFailed
    else (if n == 5 then CodecRefused
    else (if n == 6 then WavRefused
    else (if n == 7 then ScheduleRefused
    else (if n == 8 then NothingRouted
    else (if n == 9 then Unanswered
    else (if n == 10 then Late
    else (if n == 11 then ScheduleEnded
    else (if n == 12 then OutOfMemory
    else (if n == 13 then GeometryRefused else WavShrank))))))))))))

status_again : (status : Status) → status_with (number_of status) ≡ status
status_again Done = refl
status_again WordsRefused = refl
status_again ShelfFailed = refl
status_again SinkFailed = refl
status_again CodecRefused = refl
status_again WavRefused = refl
status_again ScheduleRefused = refl
status_again NothingRouted = refl
status_again Unanswered = refl
status_again Late = refl
status_again ScheduleEnded = refl
status_again OutOfMemory = refl
status_again GeometryRefused = refl
status_again WavShrank = refl

-- the numbers with which a run ends
abbrev is_end : ℕ → Bool
is_end n = n == 0 || n == 3 || n == 9 || n == 10 || n == 11 || n == 14

run_ends : (cut : Option CutLine) (end : Option PlayFault) → is_end (number_of (end_status cut end)) ≡ true
run_ends (Some (cuts.Failed name)) end = refl
run_ends (Some (cuts.Short place)) end = refl
run_ends None None = refl
run_ends None (Some (fault.Unanswered codec command issued noticed)) = refl
run_ends None (Some (fault.Late from to limit)) = refl
run_ends None (Some (fault.CommandsLeft sent of)) = refl
run_ends None (Some (fault.FramesLeft written heard of)) = refl

-- no run ends with this number
abbrev pub IsNoEnd : ℕ → Type 0
IsNoEnd n = is_end n ≡ false

number_run : (meant : Meant) (played : Played) (text : List ℕ) → meant ≡ run_meant played text → number_of meant.status ≡ number_of (status_of played)
number_run meant played text e = ap (λ (m : Meant). number_of m.status) e

pub run_differs : {X : Type 0} (meant : Meant) (played : Played) (text : List ℕ) (n : ℕ) → meant ≡ run_meant played text → number_of meant.status ≡ n → IsNoEnd n → X
run_differs meant played text n e number no_end =
    let is : number_of (status_of played) ≡ n = sym (number_run meant played text e) ∙ number in
    let bad : true ≡ false = sym (run_ends played.cut played.fault) ∙ ap is_end is ∙ no_end in cc

-- a capture ends as a run whose reading was not cut
pub number_captured : (meant : Meant) (captured : Captured) → meant ≡ of_capture captured → number_of meant.status ≡ number_of (capture_status captured)
number_captured meant captured e = ap (λ (m : Meant). number_of m.status) e

pub capture_differs : {X : Type 0} (meant : Meant) (captured : Captured) (n : ℕ) → meant ≡ of_capture captured → number_of meant.status ≡ n → IsNoEnd n → X
capture_differs meant captured n e number no_end =
    let is : number_of (capture_status captured) ≡ n = sym (number_captured meant captured e) ∙ number in
    let bad : true ≡ false = sym (run_ends None captured.fault) ∙ ap is_end is ∙ no_end in cc

-- ---- a cut

-- a run ends with 3 where its reading was cut by a fault, and with 14 where it was cut by the file's end
failed_cut : (name : List ℕ) (head : WavHead) (read : ℕ) (failed emptied : Type 0) (cut : Option CutLine) (end : Option PlayFault) → IsCutUnder name head read failed emptied cut
    → number_of (end_status cut end) ≡ 3 → IsFailedCut name cut × failed
failed_cut name head read failed emptied (Some (cuts.Failed text)) end under number = under
failed_cut name head read failed emptied (Some (cuts.Short place)) end under number = absurd (omega (arith, number))
failed_cut name head read failed emptied None None under number = absurd (omega (arith, number))
failed_cut name head read failed emptied None (Some (fault.Unanswered codec command issued noticed)) under number = absurd (omega (arith, number))
failed_cut name head read failed emptied None (Some (fault.Late from to limit)) under number = absurd (omega (arith, number))
failed_cut name head read failed emptied None (Some (fault.CommandsLeft sent of)) under number = absurd (omega (arith, number))
failed_cut name head read failed emptied None (Some (fault.FramesLeft written heard of)) under number = absurd (omega (arith, number))

short_cut : (name : List ℕ) (head : WavHead) (read : ℕ) (failed emptied : Type 0) (cut : Option CutLine) (end : Option PlayFault) → IsCutUnder name head read failed emptied cut
    → number_of (end_status cut end) ≡ 14 → IsShortCut cut × emptied
short_cut name head read failed emptied (Some (cuts.Failed text)) end under number = absurd (omega (arith, number))
short_cut name head read failed emptied (Some (cuts.Short place)) end under number = (tt, under.1)
short_cut name head read failed emptied None None under number = absurd (omega (arith, number))
short_cut name head read failed emptied None (Some (fault.Unanswered codec command issued noticed)) under number = absurd (omega (arith, number))
short_cut name head read failed emptied None (Some (fault.Late from to limit)) under number = absurd (omega (arith, number))
short_cut name head read failed emptied None (Some (fault.CommandsLeft sent of)) under number = absurd (omega (arith, number))
short_cut name head read failed emptied None (Some (fault.FramesLeft written heard of)) under number = absurd (omega (arith, number))

-- a walk ends with neither
uncut_end : (cut : Option CutLine) (end : Option PlayFault) → cut ≡ None → number_of (end_status cut end) ≡ number_of (fault_status end)
uncut_end cut end none = ap (λ (c : Option CutLine). number_of (end_status c end)) none

no_walk_end : (end : Option PlayFault) (n : ℕ) → number_of (fault_status end) ≡ n → (n ≡ 3) ⊎ (n ≡ 14) → ⊥
no_walk_end None n number (inl is) = omega (arith, number, is)
no_walk_end None n number (inr is) = omega (arith, number, is)
no_walk_end (Some (fault.Unanswered codec command issued noticed)) n number (inl is) = omega (arith, number, is)
no_walk_end (Some (fault.Unanswered codec command issued noticed)) n number (inr is) = omega (arith, number, is)
no_walk_end (Some (fault.Late from to limit)) n number (inl is) = omega (arith, number, is)
no_walk_end (Some (fault.Late from to limit)) n number (inr is) = omega (arith, number, is)
no_walk_end (Some (fault.CommandsLeft sent of)) n number (inl is) = omega (arith, number, is)
no_walk_end (Some (fault.CommandsLeft sent of)) n number (inr is) = omega (arith, number, is)
no_walk_end (Some (fault.FramesLeft written heard of)) n number (inl is) = omega (arith, number, is)
no_walk_end (Some (fault.FramesLeft written heard of)) n number (inr is) = omega (arith, number, is)

-- nor does a capture
pub no_capture_end : (captured : Captured) (n : ℕ) → number_of (capture_status captured) ≡ n → (n ≡ 3) ⊎ (n ≡ 14) → ⊥
no_capture_end captured n number either = no_walk_end captured.fault n number either

-- nor does what was made
made_number : {words : List (List ℕ)} {text : List ℕ} (played : Played) → HasMadeRun words played text → (n : ℕ) → number_of (status_of played) ≡ n → (n ≡ 3) ⊎ (n ≡ 14) → ⊥
made_number played made n number either = no_walk_end played.fault n (sym (uncut_end played.cut played.fault made.run.uncut) ∙ number) either

-- a sound of a told file does not get shorter
never_cut : (kind : PinKind) (files : Files) (name : List ℕ) (head : WavHead) (machine : Machine) (plans : List Plan) (geometry : Geometry) (schedule : Schedule) (played : Played)
    → IsHeadIn files name head → IsPlayedFrom kind (Some files) name head machine plans geometry schedule played → (cut : Option CutLine) → played.cut ≡ cut → IsShortCut cut → ⊥
never_cut kind files name head machine plans geometry schedule played h run None is short = short
never_cut kind files name head machine plans geometry schedule played h run (Some (cuts.Failed text)) is short = short
never_cut kind files name head machine plans geometry schedule played h run (Some (cuts.Short place)) is short =
    run.sound.never_short h.bytes (record { files = files; told_is = refl; file_is = h.file; head_is = h.says }) place is

pub never_short : (kind : PinKind) (files : Files) (name : List ℕ) (head : WavHead) (machine : Machine) (plans : List Plan) (geometry : Geometry) (schedule : Schedule) (played : Played)
    → IsHeadIn files name head → IsPlayedFrom kind (Some files) name head machine plans geometry schedule played → IsShortCut played.cut → ⊥
never_short kind files name head machine plans geometry schedule played h run short =
    never_cut kind files name head machine plans geometry schedule played h run played.cut refl short

module _ (failed emptied : List ℕ → Type 0) (gave : ℕ → Type 0) where
  pub played_unread : {kind : PinKind} {told : Option Files} {codec name : List ℕ} {periods period : ℕ} (wav : List ℕ) (played : Played) → HasPlayedFiles kind told failed emptied gave codec wav name periods period played
      → number_of (status_of played) ≡ 3 → WasUnread failed wav played
  played_unread wav played run number =
      let cut = failed_cut wav run.head played.read (failed wav) (emptied wav) played.cut played.fault run.cut number in record { cut = cut.0; cause = cut.1 }

  pub played_short : {kind : PinKind} {told : Option Files} {codec name : List ℕ} {periods period : ℕ} (wav : List ℕ) (played : Played) → HasPlayedFiles kind told failed emptied gave codec wav name periods period played
      → number_of (status_of played) ≡ 14 → WasShortened emptied wav played
  played_short wav played run number =
      let cut = short_cut wav run.head played.read (failed wav) (emptied wav) played.cut played.fault run.cut number in record { cut = cut.0; cause = cut.1 }

  pub told_never_short : (kind : PinKind) (files : Files) {codec name : List ℕ} {periods period : ℕ} (wav : List ℕ) (played : Played) → HasPlayedFiles kind (Some files) failed emptied gave codec wav name periods period played
      → number_of (status_of played) ≡ 14 → ⊥
  told_never_short kind files wav played run number =
      never_short kind files wav run.head run.machine run.plans run.geometry run.schedule played run.wav_file.file run.run (played_short wav played run number).cut

  -- a run of the words
  run_unread : {told : Option Files} {words : List (List ℕ)} (played : Played) (text : List ℕ) → HasRun told failed emptied gave words played text → number_of (status_of played) ≡ 3
      → OfItsWav (λ wav. WasUnread failed wav played) words
  run_unread played text (inl (inl walked, is)) number =
      absurd (no_walk_end played.fault 3 (sym (uncut_end played.cut played.fault walked.run.silent.uncut) ∙ number) (inl refl))
  run_unread played text (inr made) number = absurd (made_number played made 3 number (inl refl))
  run_unread played text (inl (inr sounded, is)) number = record {
    kind = sounded.kind;
    codec_name = sounded.codec_name;
    wav_name = sounded.wav_name;
    schedule_name = sounded.schedule_name;
    periods = sounded.periods;
    period = sounded.period;
    asks = sounded.asks;
    cut = played_unread sounded.wav_name played sounded.files number;
  }

  run_short : {told : Option Files} {words : List (List ℕ)} (played : Played) (text : List ℕ) → HasRun told failed emptied gave words played text → number_of (status_of played) ≡ 14
      → OfItsWav (λ wav. WasShortened emptied wav played) words
  run_short played text (inl (inl walked, is)) number =
      absurd (no_walk_end played.fault 14 (sym (uncut_end played.cut played.fault walked.run.silent.uncut) ∙ number) (inr refl))
  run_short played text (inr made) number = absurd (made_number played made 14 number (inr refl))
  run_short played text (inl (inr sounded, is)) number = record {
    kind = sounded.kind;
    codec_name = sounded.codec_name;
    wav_name = sounded.wav_name;
    schedule_name = sounded.schedule_name;
    periods = sounded.periods;
    period = sounded.period;
    asks = sounded.asks;
    cut = played_short sounded.wav_name played sounded.files number;
  }

  run_told : (files : Files) {words : List (List ℕ)} (played : Played) (text : List ℕ) → HasRun (Some files) failed emptied gave words played text → number_of (status_of played) ≡ 14 → ⊥
  run_told files played text (inl (inl walked, is)) number =
      no_walk_end played.fault 14 (sym (uncut_end played.cut played.fault walked.run.silent.uncut) ∙ number) (inr refl)
  run_told files played text (inr made) number = made_number played made 14 number (inr refl)
  run_told files played text (inl (inr sounded, is)) number = told_never_short sounded.kind files sounded.wav_name played sounded.files number

-- ---- the words are those of one command

pub same_asked : (words : List (List ℕ)) (a b : Asked) → request_of words ≡ Some a → request_of words ≡ Some b → a ≡ b
same_asked words a b first second = let same : Some a ≡ Some b = sym first ∙ second in cc

pub not_route_and_walk : (words : List (List ℕ)) (name : List ℕ) (format : Format) (codec schedule : List ℕ) → IsRouteOf words name format → IsWalkOf words codec schedule → ⊥
not_route_and_walk words name format codec schedule routes walks =
    let bad : route name (hertz format.rate) (bits_of format.bits) format.channels ≡ walk codec schedule = same_asked words _ _ routes walks in cc

pub not_route_and_sound : (words : List (List ℕ)) (name : List ℕ) (format : Format) (kind : PinKind) (codec wav schedule : List ℕ) (periods period : ℕ) → IsRouteOf words name format
    → IsSoundOf kind words codec wav schedule periods period → ⊥
not_route_and_sound words name format kind codec wav schedule periods period routes plays =
    no_sound kind codec wav schedule periods period (route name (hertz format.rate) (bits_of format.bits) format.channels) refl (same_asked words _ _ plays routes)

-- no route makes a run
no_run_of_route : (told : Option Files) (failed emptied : List ℕ → Type 0) (gave : ℕ → Type 0) (words : List (List ℕ)) (name : List ℕ) (format : Format) (played : Played) (text : List ℕ) → IsRouteOf words name format → HasRun told failed emptied gave words played text → ⊥
no_run_of_route told failed emptied gave words name format played text routes (inl (inl walked, is)) = not_route_and_walk words name format walked.codec_name walked.schedule_name routes walked.asks
no_run_of_route told failed emptied gave words name format played text routes (inr made) =
    let bad : route name (hertz format.rate) (bits_of format.bits) format.channels ≡ make made.number = same_asked words _ _ routes made.asks in cc
no_run_of_route told failed emptied gave words name format played text routes (inl (inr sounded, is)) =
    not_route_and_sound words name format sounded.kind sounded.codec_name sounded.wav_name sounded.schedule_name sounded.periods sounded.period routes sounded.asks

-- the words name their WAV file
named : (words : List (List ℕ)) (kind : PinKind) (codec wav name : List ℕ) (periods period : ℕ) → IsSoundOf kind words codec wav name periods period → Names words wav
named words kind codec wav name periods period is =
    let files_are : files_asked (request_of words) ≡ codec ∷ wav ∷ name ∷ [] = ap files_asked is ∙ sound_files kind codec wav name periods period in
    let among : Contains (codec ∷ wav ∷ name ∷ []) wav = (1, omega arith, refl) in
    subst (λ (names : List (List ℕ)). Contains names wav) (sym files_are) among

-- ---- the causes

-- plans of a run have a route
was_planned : {told : Option Files} {failed emptied : List ℕ → Type 0} {gave : ℕ → Type 0} {words : List (List ℕ)} {played : Played} {text : List ℕ} → HasRun told failed emptied gave words played text → HasPlanned told words SomeRoute ⊎ WantsMade words
was_planned (inr made) = inr (made.number, made.asks)
was_planned (inl (inl walked, is)) = inl (record {
  kind = Analog;
  codec_name = walked.codec_name;
  format = _;
  machine = walked.machine;
  plans = walked.plans;
  wants = inr (inl (walked.schedule_name, refl, walked.asks, refl));
  codec_file = walked.codec_file;
  pins = tt;
  planned = walked.planned;
  routed = walked.routed;
})
was_planned (inl (inr sounded, is)) = inl (record {
  kind = sounded.kind;
  codec_name = sounded.codec_name;
  format = sounded.files.head.format;
  machine = sounded.files.machine;
  plans = sounded.files.plans;
  wants = inr (inr (
    sounded.schedule_name,
    sounded.files.head,
    record { wav_name = sounded.wav_name; periods = sounded.periods; period = sounded.period; asks = sounded.asks; wav_file = sounded.files.wav_file },
    refl,
  ));
  codec_file = sounded.files.codec_file;
  pins = sounded.files.pins;
  planned = sounded.files.planned;
  routed = sounded.files.routed;
})

-- a capture has an input
was_input : {told : Option Files} {words : List (List ℕ)} {captured : Captured} → HasCaptured told words captured → HasPlannedInput told words HasSomeInput
was_input run =
    let input = run.files.planned in
    let here : Contains (input.file ∷ input.behind) input.file = (0, omega arith, refl) in
    let among : Contains run.files.machine.codecs input.file =
    subst (λ (files : List CodecFile). Contains files input.file) (sym input.among) (Contains-append_right input.before (input.file ∷ input.behind) input.file here) in record {
      codec_name = run.codec_name;
      wav_name = run.wav_name;
      schedule_name = run.schedule_name;
      periods = run.periods;
      period = run.period;
      machine = run.files.machine;
      sound = run.files.wav;
      asks = run.asks;
      codec_file = run.files.codec_file;
      wav_file = run.files.wav_file;
      planned = (input.file, among, input.has);
    }

module _ (Cause : Status → Type 0) (Run : Played → List ℕ → Type 0) (Capture : Captured → Type 0) where
  -- the cause of a text, by the number of its status
  pub said_cause : (n : ℕ) (meant : Meant) (status : Status) (text : List ℕ) → meant ≡ telling status text → number_of meant.status ≡ n → Cause status → Cause (status_with n)
  said_cause n meant status text e number cause =
      let told_number : number_of meant.status ≡ number_of status = ap (λ (m : Meant). number_of m.status) e in
      let is : status_with n ≡ status = ap status_with (sym number ∙ told_number) ∙ status_again status in
      subst (λ (s : Status). Cause s) (sym is) cause

  cause_at : (n : ℕ) → IsNoEnd n → (meant : Meant) → Case Cause Run Capture meant → number_of meant.status ≡ n → Cause (status_with n)
  cause_at n no_end meant (said status cause text e) number = said_cause n meant status text e number cause
  cause_at n no_end meant (ran played text run e) number = run_differs meant played text n e number no_end
  cause_at n no_end meant (recorded captured run e) number = capture_differs meant captured n e number no_end

-- some pin has a route, of a route or of a run, or some codec an input
some_routed : (told : Option Files) (failed emptied unasked : List ℕ → Type 0) (gave : ℕ → Type 0) (words : List (List ℕ)) (meant : Meant) → WordsCase told failed emptied unasked gave words meant → number_of meant.status ≡ 0
    → (HasPlanned told words SomeRoute ⊎ WantsMade words) ⊎ HasPlannedInput told words HasSomeInput
some_routed told failed emptied unasked gave words meant (said status cause text e) number =
    let routed : IsRouted told words = said_cause (CauseOf told failed unasked words) (HasRun told failed emptied gave words) (HasCaptured told words) 0 meant status text e number cause in inl (inl routed.3)
some_routed told failed emptied unasked gave words meant (ran played text run e) number = inl (was_planned run)
some_routed told failed emptied unasked gave words meant (recorded captured run e) number = inr (was_input run)

-- ---- an end, by the case of what was meant

-- what can be meant is one of the cases
pub by_cases : (CanMean Of : Meant → Type 0) (before after : Option (List ℕ)) (sink_failed : Type 0) (play : Option Played) (capture : Option Captured) (status : ℕ) → ((meant : Meant) → CanMean meant → Of meant)
    → HasEndedWith CanMean before after sink_failed play capture status → HasEndedWith Of before after sink_failed play capture status
by_cases CanMean Of before after sink_failed play capture status cover (inl answered) =
    inl (record { meant = answered.meant; is = cover answered.meant answered.is; given = answered.given; given_capture = answered.given_capture; written = answered.written })
by_cases CanMean Of before after sink_failed play capture status cover (inr memory) = inr memory

module _ (Cause : Status → Type 0) (Run : Played → List ℕ → Type 0) (Capture : Captured → Type 0) (before after : Option (List ℕ)) (sink_failed : Type 0) (play : Option Played) (capture : Option Captured) (status : ℕ) where
  abbrev pub Ends : Type 0
  Ends = HasEndedWith (Case Cause Run Capture) before after sink_failed play capture status

  -- a status that is neither the sink's nor want of memory is the one that was meant
  pub meant_number : (meant : Meant) (n : ℕ) → HasWritten before after sink_failed meant status → status ≡ n → (n ≡ 4 → ⊥) → (n ≡ 12 → ⊥) → number_of meant.status ≡ n
  meant_number meant n (inl whole) is no_sink no_memory = sym whole.0 ∙ is
  meant_number meant n (inr (inl sink)) is no_sink no_memory = absurd (no_sink (sym is ∙ sink.0))
  meant_number meant n (inr (inr memory)) is no_sink no_memory = absurd (no_memory (sym is ∙ memory.0))

  -- such a status comes of what was meant
  caused : {X : Type 0} (n : ℕ) → ((meant : Meant) → Case Cause Run Capture meant → number_of meant.status ≡ n → X) → (n ≡ 4 → ⊥) → (n ≡ 12 → ⊥) → Ends → status ≡ n → X
  caused n cause no_sink no_memory (inl answered) is = cause answered.meant answered.is (meant_number answered.meant n answered.written is no_sink no_memory)
  caused n cause no_sink no_memory (inr memory) is = absurd (no_memory (sym is ∙ memory.0))

  -- at the sink's status its count of faults rose, if nothing is meant with that status
  sink_answered : (Cause SinkFailed → ⊥) → (meant : Meant) → Case Cause Run Capture meant → HasWritten before after sink_failed meant status → status ≡ 4 → sink_failed
  sink_answered unmeant meant case (inl whole) four = absurd (unmeant (cause_at Cause Run Capture 4 refl meant case (sym whole.0 ∙ four)))
  sink_answered unmeant meant case (inr (inl sink)) four = sink.1
  sink_answered unmeant meant case (inr (inr memory)) four = absurd (omega (arith, memory.0, four))

  sink_at_fault : (Cause SinkFailed → ⊥) → Ends → status ≡ 4 → sink_failed
  sink_at_fault unmeant (inl answered) four = sink_answered unmeant answered.meant answered.is answered.written four
  sink_at_fault unmeant (inr memory) four = absurd (omega (arith, memory.0, four))

  -- ---- the run

  no_run : (P : Played → Type 0) (meant : Meant) (of : Status) (text : List ℕ) → meant ≡ telling of text → play ≡ meant.play → IfSome play P
  no_run P meant of text e is =
      let none : play ≡ None = is ∙ ap (λ (m : Meant). m.play) e in subst (λ (o : Option Played). IfSome o P) (sym none) tt

  run_of : (P : Played → Type 0) (meant : Meant) (played : Played) (text : List ℕ) → meant ≡ run_meant played text → play ≡ meant.play → P played → IfSome play P
  run_of P meant played text e is holds =
      let some : play ≡ Some played = is ∙ ap (λ (m : Meant). m.play) e in subst (λ (o : Option Played). IfSome o P) (sym some) holds

  -- what holds of the run that was meant holds of the run that is given
  of_given : (P : Played → Type 0) (meant : Meant) → Case Cause Run Capture meant → play ≡ meant.play → ((played : Played) (text : List ℕ) → Run played text → meant ≡ run_meant played text → P played) → IfSome play P
  of_given P meant (said of cause text e) is holds = no_run P meant of text e is
  of_given P meant (ran played text run e) is holds = run_of P meant played text e is (holds played text run e)
  of_given P meant (recorded captured run e) is holds =
      let none : play ≡ None = is ∙ ap (λ (m : Meant). m.play) e in subst (λ (o : Option Played). IfSome o P) (sym none) tt

  given : (P : Played → Type 0) → Ends
      → ((meant : Meant) (played : Played) (text : List ℕ) → Run played text → meant ≡ run_meant played text → HasWritten before after sink_failed meant status → P played) → IfSome play P
  given P (inl answered) holds = of_given P answered.meant answered.is answered.given (λ played text run e. holds answered.meant played text run e answered.written)
  given P (inr memory) holds = subst (λ (o : Option Played). IfSome o P) (sym memory.1) tt

  pub promise_kept : Ends → IfSome play (KeepsPromise Run before after sink_failed status)
  promise_kept ended = given (KeepsPromise Run before after sink_failed status) ended (λ meant played text run e written.
      record { run_text = text; run = run; text = subst (λ (m : Meant). HasWritten before after sink_failed m status) e written })

  none_given : (o : Option Played) → IfSome o (λ played. ⊥) → IsNone o
  none_given None holds = refl
  none_given (Some played) holds = absurd holds

  -- no run is given at a status of a refusal
  refusal_runless : (n : ℕ) → Ends → status ≡ n → IsNoEnd n → (n ≢ 4) → (n ≢ 12) → IsNone play
  refusal_runless n ended is no_end no_sink no_memory =
      none_given play (given (λ played. ⊥) ended (λ meant played text run e written. run_differs meant played text n e (meant_number meant n written is no_sink no_memory) no_end))

  pub none_at : Ends → IsRunless status → IsNone play
  none_at ended (inl is) = refusal_runless 2 ended is refl (λ e. absurd (omega (arith, e))) (λ e. absurd (omega (arith, e)))
  none_at ended (inr (inl is)) = refusal_runless 5 ended is refl (λ e. absurd (omega (arith, e))) (λ e. absurd (omega (arith, e)))
  none_at ended (inr (inr (inl is))) = refusal_runless 6 ended is refl (λ e. absurd (omega (arith, e))) (λ e. absurd (omega (arith, e)))
  none_at ended (inr (inr (inr (inl is)))) = refusal_runless 7 ended is refl (λ e. absurd (omega (arith, e))) (λ e. absurd (omega (arith, e)))
  none_at ended (inr (inr (inr (inr (inl is))))) = refusal_runless 8 ended is refl (λ e. absurd (omega (arith, e))) (λ e. absurd (omega (arith, e)))
  none_at ended (inr (inr (inr (inr (inr is))))) = refusal_runless 13 ended is refl (λ e. absurd (omega (arith, e))) (λ e. absurd (omega (arith, e)))

  -- no run is given where none can be meant
  pub none_meant : ((played : Played) (text : List ℕ) → Run played text → ⊥) → Ends → IsNone play
  none_meant never ended = none_given play (given (λ played. ⊥) ended (λ meant played text run e written. never played text run))

  -- a run is given at the statuses of a run, where no text alone is meant with them
  some_given : (meant : Meant) (played : Played) (text : List ℕ) → meant ≡ run_meant played text → play ≡ meant.play → IsSome play
  some_given meant played text e is =
      let some : play ≡ Some played = is ∙ ap (λ (m : Meant). m.play) e in subst (λ (o : Option Played). IsSome o) (sym some) refl

  -- no capture is meant with this status
  abbrev pub NoneCaptured : ℕ → Type 0
  NoneCaptured n = (captured : Captured) → Capture captured → number_of (capture_status captured) ≡ n → ⊥

  run_case : (n : ℕ) → (Cause (status_with n) → ⊥) → NoneCaptured n → (meant : Meant) → Case Cause Run Capture meant → play ≡ meant.play → number_of meant.status ≡ n → IsSome play
  run_case n none other meant (said of cause text e) is number = absurd (none (said_cause Cause Run Capture n meant of text e number cause))
  run_case n none other meant (ran played text run e) is number = some_given meant played text e is
  run_case n none other meant (recorded captured run e) is number = absurd (other captured run (sym (number_captured meant captured e) ∙ number))

  run_at : (n : ℕ) → (Cause (status_with n) → ⊥) → NoneCaptured n → Ends → status ≡ n → (n ≢ 4) → (n ≢ 12) → IsSome play
  run_at n none other (inl answered) is no_sink no_memory =
      run_case n none other answered.meant answered.is answered.given (meant_number answered.meant n answered.written is no_sink no_memory)
  run_at n none other (inr memory) is no_sink no_memory = absurd (no_memory (sym is ∙ memory.0))

  -- a text alone was meant where no run is given
  said_case : (n : ℕ) → NoneCaptured n → (meant : Meant) → Case Cause Run Capture meant → play ≡ meant.play → number_of meant.status ≡ n → IsNone play → Cause (status_with n)
  said_case n other meant (said of cause text e) is number none = said_cause Cause Run Capture n meant of text e number cause
  said_case n other meant (recorded captured run e) is number none = absurd (other captured run (sym (number_captured meant captured e) ∙ number))
  said_case n other meant (ran played text run e) is number none =
      let some : play ≡ Some played = is ∙ ap (λ (m : Meant). m.play) e in
      let bad : true ≡ false = subst (λ (o : Option Played). IsNone o) some none in cc

  pub said_at : (n : ℕ) → NoneCaptured n → Ends → status ≡ n → (n ≢ 4) → (n ≢ 12) → IsNone play → Cause (status_with n)
  said_at n other (inl answered) is no_sink no_memory none =
      said_case n other answered.meant answered.is answered.given (meant_number answered.meant n answered.written is no_sink no_memory) none
  said_at n other (inr memory) is no_sink no_memory none = absurd (no_memory (sym is ∙ memory.0))

  pub some_at : (Cause Done → ⊥) → (Cause Unanswered → ⊥) → (Cause Late → ⊥) → (Cause ScheduleEnded → ⊥) → (Cause WavShrank → ⊥) → ((captured : Captured) → Capture captured → ⊥) → Ends → IsOfSound status → IsSome play
  some_at done unanswered late left shrank other ended (inl (inl (inl is))) = run_at 0 done (λ captured run number. other captured run) ended is (λ e. absurd (omega (arith, e))) (λ e. absurd (omega (arith, e)))
  some_at done unanswered late left shrank other ended (inl (inl (inr (inl is)))) = run_at 9 unanswered (λ captured run number. other captured run) ended is (λ e. absurd (omega (arith, e))) (λ e. absurd (omega (arith, e)))
  some_at done unanswered late left shrank other ended (inl (inl (inr (inr is)))) = run_at 11 left (λ captured run number. other captured run) ended is (λ e. absurd (omega (arith, e))) (λ e. absurd (omega (arith, e)))
  some_at done unanswered late left shrank other ended (inl (inr is)) = run_at 10 late (λ captured run number. other captured run) ended is (λ e. absurd (omega (arith, e))) (λ e. absurd (omega (arith, e)))
  some_at done unanswered late left shrank other ended (inr is) = run_at 14 shrank (λ captured run number. other captured run) ended is (λ e. absurd (omega (arith, e))) (λ e. absurd (omega (arith, e)))

  -- what holds of each run with such a number holds of the run that is given with that status
  pub of_run_at : (n : ℕ) (P : Played → Type 0) → ((played : Played) (text : List ℕ) → Run played text → number_of (status_of played) ≡ n → P played) → Ends → status ≡ n → (n ≢ 4) → (n ≢ 12) → IfSome play P
  of_run_at n P holds ended is no_sink no_memory =
      given P ended (λ meant played text run e written. holds played text run (sym (number_run meant played text e) ∙ meant_number meant n written is no_sink no_memory))

  some_of : (P : Played → Type 0) (o : Option Played) → IsSome o → IfSome o P → IsSomeAnd o P
  some_of P None some holds = cc
  some_of P (Some played) some holds = holds

  -- the run of a file that got shorter
  pub shrunk_at : (P : Played → Type 0) → ((played : Played) (text : List ℕ) → Run played text → number_of (status_of played) ≡ 14 → P played) → (Cause WavShrank → ⊥) → NoneCaptured 14 → Ends → status ≡ 14 → IsSomeAnd play P
  shrunk_at P holds shrank other ended is = some_of P play (run_at 14 shrank other ended is (λ e. absurd (omega (arith, e))) (λ e. absurd (omega (arith, e)))) (of_run_at 14 P holds ended is (λ e. absurd (omega (arith, e))) (λ e. absurd (omega (arith, e))))

  no_some : (o : Option Played) → IsSome o → IfSome o (λ played. ⊥) → ⊥
  no_some None some holds = cc
  no_some (Some played) some holds = holds

  pub never_shrunk : ((played : Played) (text : List ℕ) → Run played text → number_of (status_of played) ≡ 14 → ⊥) → (Cause WavShrank → ⊥) → NoneCaptured 14 → Ends → status ≡ 14 → ⊥
  never_shrunk never shrank other ended is = no_some play (run_at 14 shrank other ended is (λ e. absurd (omega (arith, e))) (λ e. absurd (omega (arith, e)))) (of_run_at 14 (λ played. ⊥) never ended is (λ e. absurd (omega (arith, e))) (λ e. absurd (omega (arith, e))))

-- ---- an end of the program

module _ (told : Option Files) (failed emptied unasked : List ℕ → Type 0) (gave : ℕ → Type 0) (words : List (List ℕ)) (before after : Option (List ℕ)) (sink_failed : Type 0) (play : Option Played) (capture : Option Captured) (status : ℕ) where
  abbrev pub CauseHere : Status → Type 0
  CauseHere of = CauseOf told failed unasked words of

  abbrev pub RunHere : Played → List ℕ → Type 0
  RunHere played text = HasRun told failed emptied gave words played text

  abbrev pub CaptureHere : Captured → Type 0
  CaptureHere captured = HasCaptured told words captured

  pub by_words : HasEnded told failed emptied unasked gave words before after sink_failed play capture status → HasEndedWith (Case CauseHere RunHere CaptureHere) before after sink_failed play capture status
  by_words ended = by_cases (IsMeant told failed emptied unasked gave words) (Case CauseHere RunHere CaptureHere) before after sink_failed play capture status (cases told failed emptied unasked gave words) ended

  cause_of : (n : ℕ) → IsNoEnd n → (n ≡ 4 → ⊥) → (n ≡ 12 → ⊥) → HasEnded told failed emptied unasked gave words before after sink_failed play capture status → status ≡ n → CauseHere (status_with n)
  cause_of n no_end no_sink no_memory ended is =
      caused CauseHere RunHere CaptureHere before after sink_failed play capture status n (cause_at CauseHere RunHere CaptureHere n no_end) no_sink no_memory (by_words ended) is

  pub refused_words : HasEnded told failed emptied unasked gave words before after sink_failed play capture status → status ≡ 2 → IsNoCommand words
  refused_words = cause_of 2 refl (λ e. absurd (omega (arith, e))) (λ e. absurd (omega (arith, e)))

  unread_name : (meant : Meant) → WordsCase told failed emptied unasked gave words meant → number_of meant.status ≡ 3 → HasUnreadFile failed words
  unread_name meant (said of cause text e) number =
      let both : CauseHere ShelfFailed = said_cause CauseHere RunHere CaptureHere 3 meant of text e number cause in both.0
  unread_name meant (recorded captured run e) number = absurd (no_capture_end captured 3 (sym (number_captured meant captured e) ∙ number) (inl refl))
  unread_name meant (ran played text run e) number =
      let of = run_unread failed emptied gave played text run (sym (number_run meant played text e) ∙ number) in
      (of.wav_name, named words of.kind of.codec_name of.wav_name of.schedule_name of.periods of.period of.asks, of.cut.cause)

  pub shelf_failed : HasEnded told failed emptied unasked gave words before after sink_failed play capture status → status ≡ 3 → HasUnreadFile failed words
  shelf_failed ended is =
      caused CauseHere RunHere CaptureHere before after sink_failed play capture status 3 unread_name (λ e. absurd (omega (arith, e))) (λ e. absurd (omega (arith, e))) (by_words ended) is

  -- the file at which it stopped where no run is given
  pub stopped_unread : HasEnded told failed emptied unasked gave words before after sink_failed play capture status → status ≡ 3 → IsNone play
      → HasStoppedUnread failed unasked (files_asked (request_of words))
  stopped_unread ended is none =
      let both : CauseHere ShelfFailed =
      said_at CauseHere RunHere CaptureHere before after sink_failed play capture status 3 (λ captured run number. no_capture_end captured 3 number (inl refl)) (by_words ended) is (λ e. absurd (omega (arith, e))) (λ e. absurd (omega (arith, e))) none in
      both.1

  -- the run that is given where the reading of its sound was cut
  pub unread_run : HasEnded told failed emptied unasked gave words before after sink_failed play capture status → status ≡ 3
      → IfSome play (λ played. OfItsWav (λ wav. WasUnread failed wav played) words)
  unread_run ended is =
      of_run_at CauseHere RunHere CaptureHere before after sink_failed play capture status 3 (λ played. OfItsWav (λ wav. WasUnread failed wav played) words)
      (λ played text run number. run_unread failed emptied gave played text run number) (by_words ended) is (λ e. absurd (omega (arith, e))) (λ e. absurd (omega (arith, e)))

  pub shrunk_run : HasEnded told failed emptied unasked gave words before after sink_failed play capture status → status ≡ 14
      → IsSomeAnd play (λ played. OfItsWav (λ wav. WasShortened emptied wav played) words)
  shrunk_run ended is =
      shrunk_at CauseHere RunHere CaptureHere before after sink_failed play capture status (λ played. OfItsWav (λ wav. WasShortened emptied wav played) words)
      (λ played text run number. run_short failed emptied gave played text run number) (λ none. none) (λ captured run number. no_capture_end captured 14 number (inr refl)) (by_words ended) is

  pub refused_codec : HasEnded told failed emptied unasked gave words before after sink_failed play capture status → status ≡ 5 → HasBadCodecFile told words ⊎ HasManyDigitalPins told words
  refused_codec = cause_of 5 refl (λ e. absurd (omega (arith, e))) (λ e. absurd (omega (arith, e)))

  pub refused_wav : HasEnded told failed emptied unasked gave words before after sink_failed play capture status → status ≡ 6 → HasBadWav told words ⊎ HasBadGiven told words
  refused_wav = cause_of 6 refl (λ e. absurd (omega (arith, e))) (λ e. absurd (omega (arith, e)))

  pub refused_schedule : HasEnded told failed emptied unasked gave words before after sink_failed play capture status → status ≡ 7 → HasBadSchedule told words
  refused_schedule = cause_of 7 refl (λ e. absurd (omega (arith, e))) (λ e. absurd (omega (arith, e)))

  pub refused_geometry : HasEnded told failed emptied unasked gave words before after sink_failed play capture status → status ≡ 13 → HasBadRing told words ⊎ HasBadRecordingRing told words
  refused_geometry = cause_of 13 refl (λ e. absurd (omega (arith, e))) (λ e. absurd (omega (arith, e)))

  pub was_routed : HasEnded told failed emptied unasked gave words before after sink_failed play capture status → status ≡ 0
      → (HasPlanned told words SomeRoute ⊎ WantsMade words) ⊎ HasPlannedInput told words HasSomeInput
  was_routed ended is =
      caused CauseHere RunHere CaptureHere before after sink_failed play capture status 0 (some_routed told failed emptied unasked gave words) (λ e. absurd (omega (arith, e))) (λ e. absurd (omega (arith, e))) (by_words ended) is

  pub was_unrouted : HasEnded told failed emptied unasked gave words before after sink_failed play capture status → status ≡ 8 → HasPlanned told words NoRoute ⊎ HasPlannedInput told words HasNoInput
  was_unrouted = cause_of 8 refl (λ e. absurd (omega (arith, e))) (λ e. absurd (omega (arith, e)))

  pub sink_faulted : HasEnded told failed emptied unasked gave words before after sink_failed play capture status → status ≡ 4 → sink_failed
  sink_faulted ended four = sink_at_fault CauseHere RunHere CaptureHere before after sink_failed play capture status (λ none. none) (by_words ended) four

  pub run_promised : HasEnded told failed emptied unasked gave words before after sink_failed play capture status → IfSome play (KeepsPromise (HasRun told failed emptied gave words) before after sink_failed status)
  run_promised ended = promise_kept CauseHere RunHere CaptureHere before after sink_failed play capture status (by_words ended)

  pub runless : HasEnded told failed emptied unasked gave words before after sink_failed play capture status → IsRunless status → IsNone play
  runless ended is = none_at CauseHere RunHere CaptureHere before after sink_failed play capture status (by_words ended) is

  -- `route` makes no run
  pub route_runless : HasEnded told failed emptied unasked gave words before after sink_failed play capture status → (name : List ℕ) (format : Format) → IsRouteOf words name format → IsNone play
  route_runless ended name format routes =
      none_meant CauseHere RunHere CaptureHere before after sink_failed play capture status (λ played text run. no_run_of_route told failed emptied gave words name format played text routes run) (by_words ended)

  -- `walk`, `play` and `spdif` give their run at the statuses of a run, since nothing else is meant with them by their words
  runs : HasEnded told failed emptied unasked gave words before after sink_failed play capture status → (IsRouted told words → ⊥) → ((captured : Captured) → HasCaptured told words captured → ⊥) → IsOfSound status → IsSome play
  runs ended unrouted uncaptured is =
      some_at CauseHere RunHere CaptureHere before after sink_failed play capture status unrouted (λ none. none) (λ none. none) (λ none. none) (λ none. none) uncaptured (by_words ended) is

  pub walk_runs : HasEnded told failed emptied unasked gave words before after sink_failed play capture status → (codec name : List ℕ) → IsWalkOf words codec name → IsOfWalk status → IsSome play
  walk_runs ended codec name walks is =
      runs ended (λ routed. not_route_and_walk words routed.0 routed.1 codec name routed.2 walks)
      (λ captured run. not_capture_and_walk words run.codec_name run.wav_name run.schedule_name run.periods run.period codec name run.asks walks) (inl (inl is))

  pub sound_runs : HasEnded told failed emptied unasked gave words before after sink_failed play capture status → (kind : PinKind) (codec wav name : List ℕ) (periods period : ℕ) → IsSoundOf kind words codec wav name periods period
      → IsOfSound status → IsSome play
  sound_runs ended kind codec wav name periods period plays is =
      runs ended (λ routed. not_route_and_sound words routed.0 routed.1 kind codec wav name periods period routed.2 plays)
      (λ captured run. not_capture_and_sound words run.codec_name run.wav_name run.schedule_name run.periods run.period kind codec wav name periods period run.asks plays) is

-- where the files are told no WAV file gets shorter
module _ (failed emptied unasked : List ℕ → Type 0) (gave : ℕ → Type 0) (words : List (List ℕ)) (before after : Option (List ℕ)) (sink_failed : Type 0) (play : Option Played) (capture : Option Captured) (status : ℕ) where
  never_told : (files : Files) → HasEnded (Some files) failed emptied unasked gave words before after sink_failed play capture status → status ≡ 14 → ⊥
  never_told files ended is =
      never_shrunk (CauseHere (Some files) failed emptied unasked gave words before after sink_failed play capture status) (RunHere (Some files) failed emptied unasked gave words before after sink_failed play capture status) (HasCaptured (Some files) words) before after sink_failed play capture status
      (λ played text run number. run_told failed emptied gave files played text run number) (λ none. none) (λ captured run number. no_capture_end captured 14 number (inr refl))
      (by_words (Some files) failed emptied unasked gave words before after sink_failed play capture status ended) is

  pub never_shrinks : (told : Option Files) → HasEnded told failed emptied unasked gave words before after sink_failed play capture status → IfSome told (λ files. status ≢ 14)
  never_shrinks None ended = tt
  never_shrinks (Some files) ended = never_told files ended

-- a status that is another number
pub not_shrunk : (told : Option Files) (other : ℕ) → (other ≡ 14 → ⊥) → IfSome told (λ files. other ≢ 14)
not_shrunk None other apart = tt
not_shrunk (Some files) other apart = apart
