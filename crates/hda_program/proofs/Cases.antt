-- The ways in which something is meant by words.
use Rattle.std.proofs.Common.{◌≡◌, ℕ, ◌++◌, List, [], ◌∷◌, Bool, true, false, inl, inr, Option, Some, refl, sym, ◌∙◌, ap, subst, arith}
use Rattle.std.specs.Prelude.{◌⊎◌, if◌then◌else◌, option_and_then}
use Rattle.std.specs.List.{Contains}
use Rattle.stream_format.specs.declared.format.Format.{Format}
use Rattle.codec_graph.specs.declared.pin_kind.PinKind.{PinKind}
use Rattle.codec_graph.specs.declared.pin_kind.PinKind.TheVariants.{Analog, Digital}
use Rattle.route_planner.specs.declared.routes.Plan.{Plan}
use Rattle.hda_outside.specs.Shelf.{Files}
use Rattle.hda_files.specs.declared.machine.Machine.{Machine}
use Rattle.schedule_reader.specs.declared.schedule.Schedule.{Schedule}
use Rattle.stream_format.specs.Cadence.{hertz}
use Rattle.program_words.specs.Asked.{Asked, bits_of, capture, request_of, route, walk}
use Rattle.wav_reader.specs.declared.opened.WavHead.{WavHead}
use Rattle.wav_reader.specs.declared.wav.Wav.{Wav}
use Rattle.capture_report.specs.declared.captured.Captured.{Captured}
use Rattle.sound_report.specs.declared.played.Played.{Played}
use Rattle.sound_report.specs.declared.status.Status.{Status}
use Rattle.sound_report.specs.declared.status.Status.TheVariants.{Done, WordsRefused, ShelfFailed, SinkFailed, CodecRefused, WavRefused, ScheduleRefused, NothingRouted, Unanswered, Late, ScheduleEnded, OutOfMemory, GeometryRefused, WavShrank}
use Rattle.sound_report.specs.PlanLines.{plans_lines}
use Rattle.hda_program.specs.Answers.{IsMeant, RouteAnswers, WalkAnswers, MachineWalks, PlansWalk, PlayAnswers, AtCodec, AtPins, AtWav, AtSchedule, AtRing, AtPlans, AtRun}
use Rattle.hda_program.specs.CaptureAnswers.{CaptureAnswers}
use Rattle.hda_program.specs.CaptureAnswers as capturing
use Rattle.hda_program.specs.Asks.{IsCaptureOf, IsNoCommand, IsRouteOf, IsWalkOf, IsSoundOf, Names, NamesCodecFile, codec_of, files_asked, files_of}
use Rattle.program_runs.specs.Walks.{walk_format}
use Rattle.hda_program.specs.Causes.{HasBadCodecFile, HasBadGiven, HasBadRecordingRing, HasBadRing, HasBadSchedule, HasBadWav, HasManyDigitalPins, HasPlanned, HasPlannedInput, NoRoute, SomeRoute, HasStoppedUnread, HasUnreadFile, WantsCapture, WantsRun, WantsSound}
use Rattle.hda_program.specs.Promises.{HasCaptured, HasRun}
use Rattle.hda_program.specs.Files.{CodecStops, IsHeadOf, IsMachineOf, IsScheduleOf, ScheduleStops}
use Rattle.hda_program.specs.Given.{IsGivenOf}
use Rattle.hda_program.specs.Meanings.{Meant, of_capture, run_meant, telling, unrouted}
use Rattle.hda_program.specs.Pins.{AreFewPins, AreTooManyPins}
use Rattle.hda_program.proofs.SoundWords.{sound_codec, sound_files}
use Rattle.hda_program.proofs.WalkLemmas.{other_first, other_one, other_second}
use Rattle.laws_start.specs.Tasks.{HavePlans}
use Rattle.program_captures.specs.Inputs.{HasNoInput}
use Rattle.driver_agenda.specs.Planned.{have_route}

-- a route was asked for, and there is one
abbrev pub IsRouted : Option Files → List (List ℕ) → Type 0
IsRouted told words = (name : List ℕ) × (format : Format) × IsRouteOf words name format × HasPlanned told words SomeRoute

-- why no more than a text is meant, with this status
abbrev pub Cause : Option Files → (failed unasked : List ℕ → Type 0) → List (List ℕ) → Status → Type 0
Cause told failed unasked words Done = IsRouted told words
Cause told failed unasked words WordsRefused = IsNoCommand words
Cause told failed unasked words ShelfFailed = HasUnreadFile failed words × HasStoppedUnread failed unasked (files_asked (request_of words))
Cause told failed unasked words SinkFailed = ⊥
Cause told failed unasked words CodecRefused = HasBadCodecFile told words ⊎ HasManyDigitalPins told words
Cause told failed unasked words WavRefused = HasBadWav told words ⊎ HasBadGiven told words
Cause told failed unasked words ScheduleRefused = HasBadSchedule told words
Cause told failed unasked words NothingRouted = HasPlanned told words NoRoute ⊎ HasPlannedInput told words HasNoInput
Cause told failed unasked words Unanswered = ⊥
Cause told failed unasked words Late = ⊥
Cause told failed unasked words ScheduleEnded = ⊥
Cause told failed unasked words OutOfMemory = ⊥
Cause told failed unasked words GeometryRefused = HasBadRing told words ⊎ HasBadRecordingRing told words
Cause told failed unasked words WavShrank = ⊥

-- a text alone, for a cause, or a run that is told by a text, or a capture
pub data Case (Cause : Status → Type 0) (Run : Played → List ℕ → Type 0) (Capture : Captured → Type 0) (meant : Meant) : Type 0 where
  said : (status : Status) → Cause status → (text : List ℕ) → meant ≡ telling status text → Case Cause Run Capture meant
  ran : (played : Played) (text : List ℕ) → Run played text → meant ≡ run_meant played text → Case Cause Run Capture meant
  recorded : (captured : Captured) → Capture captured → meant ≡ of_capture captured → Case Cause Run Capture meant

abbrev pub WordsCase : Option Files → (failed emptied unasked : List ℕ → Type 0) → (gave : ℕ → Type 0) → List (List ℕ) → Meant → Type 0
WordsCase told failed emptied unasked gave words meant = Case (Cause told failed unasked words) (HasRun told failed emptied gave words) (HasCaptured told words) meant

module _ (told : Option Files) (failed emptied unasked : List ℕ → Type 0) (gave : ℕ → Type 0) (words : List (List ℕ)) where
  -- the words name the files of what they ask
  names_of : (asked : Asked) (name : List ℕ) → request_of words ≡ Some asked → Contains (files_of asked) name → Names words name
  names_of asked name is among = let P : Option Asked → Type 0 = λ asks. Contains (files_asked asks) name in subst P (sym is) among

  -- ---- the ends at a file, and at a ring

  -- there is no name among none
  none_after : {X : Type 0} (other : List ℕ) → Contains [] other → X
  none_after other among = absurd (omega (arith, among.1))

  codec_stop : (name : List ℕ) (after : List (List ℕ)) (meant : Meant) → Names words name → files_asked (request_of words) ≡ name ∷ after → NamesCodecFile words name
      → ((other : List ℕ) → Contains after other → (Contains (name ∷ []) other → ⊥) → unasked other) → CodecStops told failed name meant → WordsCase told failed emptied unasked gave words meant
  codec_stop name after meant names among codec stopped (inl stop) =
      said ShelfFailed ((name, names, stop.0), record { before = []; name = name; after = after; among = among; unread = stop.0; stopped = stopped }) _ stop.1
  codec_stop name after meant names among codec stopped (inr stop) = said CodecRefused (inl (name, stop.0, codec, stop.1)) _ stop.2

  schedule_stop : (kind : PinKind) (before : List (List ℕ)) (codec name : List ℕ) (machine : Machine) (meant : Meant) → files_asked (request_of words) ≡ before ++ name ∷ [] → WantsRun kind told words codec name → Names words name → IsMachineOf told codec machine
      → AreFewPins kind machine.codecs
      → ScheduleStops told failed name meant → WordsCase told failed emptied unasked gave words meant
  schedule_stop kind before codec name machine meant among wants names file pins (inl stop) =
      said ShelfFailed ((name, names, stop.0), record { before = before; name = name; after = []; among = among; unread = stop.0; stopped = λ other within apart. none_after other within }) _ stop.1
  schedule_stop kind before codec name machine meant among wants names file pins (inr stop) =
      said ScheduleRefused (record { kind = kind; codec_name = codec; schedule_name = name; machine = machine; text = stop.0; wants = wants; codec_file = file; pins = pins; refused = stop.1 }) _ stop.2

  -- ---- `route`

  route_plans : (name : List ℕ) (format : Format) (machine : Machine) (plans : List Plan) (meant : Meant) → IsRouteOf words name format → IsMachineOf told name machine
      → HavePlans format machine.codecs plans → (some : Bool) → have_route plans ≡ some
      → meant ≡ (if some then telling Done (plans_lines machine.codecs plans) else unrouted machine.codecs plans) → WordsCase told failed emptied unasked gave words meant
  route_plans name format machine plans meant is file planned true some e =
      said Done (name, format, is, record { kind = Analog; codec_name = name; format = format; machine = machine; plans = plans; wants = inl (refl, is); codec_file = file; pins = tt; planned = planned; routed = some }) _ e
  route_plans name format machine plans meant is file planned false some e =
      said NothingRouted (inl (record { kind = Analog; codec_name = name; format = format; machine = machine; plans = plans; wants = inl (refl, is); codec_file = file; pins = tt; planned = planned; routed = some })) _ e

  route_cases : (name : List ℕ) (format : Format) (meant : Meant) → IsRouteOf words name format → RouteAnswers told failed name format meant → WordsCase told failed emptied unasked gave words meant
  route_cases name format meant is (inl stop) =
      codec_stop name [] meant (names_of (route name (hertz format.rate) (bits_of format.bits) format.channels) name is (0, omega arith, refl)) (ap files_asked is) (ap (option_and_then codec_of) is)
      (λ other within apart. none_after other within) stop
  route_cases name format meant is (inr answers) =
      route_plans name format answers.0 answers.2.0 meant is answers.1 answers.2.1 (have_route answers.2.0) refl answers.2.2

  -- ---- `walk`

  walk_plans : (codec name : List ℕ) (machine : Machine) (schedule : Schedule) (plans : List Plan) (meant : Meant) → IsWalkOf words codec name → IsMachineOf told codec machine
      → IsScheduleOf told name schedule → HavePlans walk_format machine.codecs plans → PlansWalk machine schedule plans meant → WordsCase told failed emptied unasked gave words meant
  walk_plans codec name machine schedule plans meant is file steps planned (inl none) =
      said NothingRouted (inl (record {
        kind = Analog;
        codec_name = codec;
        format = walk_format;
        machine = machine;
        plans = plans;
        wants = inr (inl (name, refl, is, refl));
        codec_file = file;
        pins = tt;
        planned = planned;
        routed = none.0;
      })) _ none.1
  walk_plans codec name machine schedule plans meant is file steps planned (inr run) =
      ran run.0 _ (inl (
        inl (record {
          codec_name = codec;
          schedule_name = name;
          machine = machine;
          plans = plans;
          schedule = schedule;
          asks = is;
          codec_file = file;
          schedule_file = steps;
          planned = planned;
          routed = run.1;
          run = run.2;
        }),
        refl,
      )) run.3

  walk_machine : (codec name : List ℕ) (machine : Machine) (meant : Meant) → IsWalkOf words codec name → IsMachineOf told codec machine → MachineWalks told failed machine name meant
      → WordsCase told failed emptied unasked gave words meant
  walk_machine codec name machine meant is file (inl stop) =
      schedule_stop Analog (codec ∷ []) codec name machine meant (ap files_asked is) (inl (refl, is)) (names_of (walk codec name) name is (1, omega arith, refl)) file tt stop
  walk_machine codec name machine meant is file (inr answers) =
      walk_plans codec name machine answers.0 answers.2.0 meant is file answers.1 answers.2.1 answers.2.2

  walk_cases : (codec name : List ℕ) (meant : Meant) → IsWalkOf words codec name → WalkAnswers told failed unasked codec name meant → WordsCase told failed emptied unasked gave words meant
  walk_cases codec name meant is (inl stop) =
      codec_stop codec (name ∷ []) meant (names_of (walk codec name) codec is (0, omega arith, refl)) (ap files_asked is) (ap (option_and_then codec_of) is)
      (λ other within apart. stop.1 other (other_one codec other apart)) stop.0
  walk_cases codec name meant is (inr answers) = walk_machine codec name answers.0 meant is answers.1 answers.2

  -- ---- `play` and `spdif`

  -- digital pins alone can be too many
  many_pins : (kind : PinKind) (codec wav name : List ℕ) (periods period : ℕ) (machine : Machine) → IsSoundOf kind words codec wav name periods period → IsMachineOf told codec machine
      → AreTooManyPins kind machine.codecs → HasManyDigitalPins told words
  many_pins Analog codec wav name periods period machine is file many = absurd many
  many_pins Digital codec wav name periods period machine is file many = record {
    codec_name = codec;
    wav_name = wav;
    schedule_name = name;
    periods = periods;
    period = period;
    machine = machine;
    asks = is;
    codec_file = file;
    many = many;
  }

  module _ (kind : PinKind) (codec wav name : List ℕ) (periods period : ℕ) (meant : Meant) (is : IsSoundOf kind words codec wav name periods period) where
    files_are : files_asked (request_of words) ≡ codec ∷ wav ∷ name ∷ []
    files_are = ap files_asked is ∙ sound_files kind codec wav name periods period

    codec_named : NamesCodecFile words codec
    codec_named = ap (option_and_then codec_of) is ∙ sound_codec kind codec wav name periods period

    named_of : (other : List ℕ) → Contains (codec ∷ wav ∷ name ∷ []) other → Names words other
    named_of other among = subst (λ (names : List (List ℕ)). Contains names other) (sym files_are) among

    play_wants : (head : WavHead) → IsHeadOf told wav head → WantsSound kind told words codec name head
    play_wants head file = record { wav_name = wav; periods = periods; period = period; asks = is; wav_file = file }

    play_cases : PlayAnswers kind told failed emptied unasked gave codec wav name periods period meant → WordsCase told failed emptied unasked gave words meant
    play_cases (AtCodec stop alone) =
        codec_stop codec (wav ∷ name ∷ []) meant (named_of codec (0, omega arith, refl)) files_are codec_named
        (λ other within apart. alone other (other_one codec other apart)) stop
    play_cases (AtPins machine file stop alone) = said CodecRefused (inr (many_pins kind codec wav name periods period machine is file stop.0)) _ stop.1
    play_cases (AtWav machine file pins (inl stop) alone) =
        said ShelfFailed (
          (wav, named_of wav (1, omega arith, refl), stop.0),
          record {
            before = codec ∷ [];
            name = wav;
            after = name ∷ [];
            among = files_are;
            unread = stop.0;
            stopped = λ other within apart. alone other (other_second codec wav other apart) (other_first codec wav other apart);
          },
        ) _ stop.1
    play_cases (AtWav machine file pins (inr stop) alone) =
        said WavRefused (inl (record {
          kind = kind;
          codec_name = codec;
          wav_name = wav;
          schedule_name = name;
          periods = periods;
          period = period;
          machine = machine;
          text = stop.0;
          asks = is;
          codec_file = file;
          pins = pins;
          refused = stop.1;
        })) _ stop.2
    play_cases (AtSchedule machine head file pins wav_file stop) =
        schedule_stop kind (codec ∷ wav ∷ []) codec name machine meant files_are (inr (inl (head, play_wants head wav_file))) (named_of name (2, omega arith, refl)) file pins stop
    play_cases (AtRing machine head schedule file pins wav_file steps stop) =
        said GeometryRefused (inl (record {
          kind = kind;
          codec_name = codec;
          wav_name = wav;
          schedule_name = name;
          periods = periods;
          period = period;
          machine = machine;
          head = head;
          schedule = schedule;
          fault = stop.0;
          asks = is;
          codec_file = file;
          pins = pins;
          wav_file = wav_file;
          schedule_file = steps;
          refused = stop.1;
        })) _ stop.2
    play_cases (AtPlans machine head schedule geometry plans file pins wav_file steps ring planned none same) =
        said NothingRouted (inl (record {
          kind = kind;
          codec_name = codec;
          format = head.format;
          machine = machine;
          plans = plans;
          wants = inr (inr (name, head, play_wants head wav_file, refl));
          codec_file = file;
          pins = pins;
          planned = planned;
          routed = none;
        })) _ same
    play_cases (AtRun played files same) =
        ran played _ (inl (
          inr (record { kind = kind; codec_name = codec; wav_name = wav; schedule_name = name; periods = periods; period = period; asks = is; files = files }),
          refl,
        )) same

  -- ---- `capture`

  module _ (codec wav name : List ℕ) (periods period : ℕ) (meant : Meant) (is : IsCaptureOf words codec wav name periods period) where
    captured_files_are : files_asked (request_of words) ≡ codec ∷ wav ∷ name ∷ []
    captured_files_are = ap files_asked is

    captured_name : (other : List ℕ) → Contains (codec ∷ wav ∷ name ∷ []) other → Names words other
    captured_name other among = names_of (capture codec wav name periods period) other is among

    capture_wants : (sound : Wav) → IsGivenOf told wav sound → WantsCapture told words codec name
    capture_wants sound file = record { wav_name = wav; periods = periods; period = period; sound = sound; asks = is; wav_file = file }

    capture_cases : CaptureAnswers told failed unasked codec wav name periods period meant → WordsCase told failed emptied unasked gave words meant
    capture_cases (capturing.AtCodec stop alone) =
        codec_stop codec (wav ∷ name ∷ []) meant (captured_name codec (0, omega arith, refl)) captured_files_are (ap (option_and_then codec_of) is)
        (λ other within apart. alone other (other_one codec other apart)) stop
    capture_cases (capturing.AtWav machine file (inl stop) alone) =
        said ShelfFailed (
          (wav, captured_name wav (1, omega arith, refl), stop.0),
          record {
            before = codec ∷ [];
            name = wav;
            after = name ∷ [];
            among = captured_files_are;
            unread = stop.0;
            stopped = λ other within apart. alone other (other_second codec wav other apart) (other_first codec wav other apart);
          },
        ) _ stop.1
    capture_cases (capturing.AtWav machine file (inr stop) alone) =
        said WavRefused (inr (record {
          codec_name = codec;
          wav_name = wav;
          schedule_name = name;
          periods = periods;
          period = period;
          machine = machine;
          text = stop.0;
          asks = is;
          codec_file = file;
          refused = stop.1;
        })) _ stop.2
    capture_cases (capturing.AtSchedule machine sound file wav_file stop) =
        schedule_stop Analog (codec ∷ wav ∷ []) codec name machine meant captured_files_are (inr (inr (refl, capture_wants sound wav_file))) (captured_name name (2, omega arith, refl)) file tt stop
    capture_cases (capturing.AtRing machine sound schedule file wav_file steps stop) =
        said GeometryRefused (inr (record {
          codec_name = codec;
          wav_name = wav;
          schedule_name = name;
          periods = periods;
          period = period;
          machine = machine;
          sound = sound;
          schedule = schedule;
          fault = stop.0;
          asks = is;
          codec_file = file;
          wav_file = wav_file;
          schedule_file = steps;
          refused = stop.1;
        })) _ stop.2
    capture_cases (capturing.AtInput machine sound schedule geometry file wav_file steps ring none same) =
        said NothingRouted (inr (record {
          codec_name = codec;
          wav_name = wav;
          schedule_name = name;
          periods = periods;
          period = period;
          machine = machine;
          sound = sound;
          asks = is;
          codec_file = file;
          wav_file = wav_file;
          planned = none;
        })) _ same
    capture_cases (capturing.AtRun captured files same) =
        recorded captured (record { codec_name = codec; wav_name = wav; schedule_name = name; periods = periods; period = period; asks = is; files = files }) same

  -- ---- all commands

  pub cases : (meant : Meant) → IsMeant told failed emptied unasked gave words meant → WordsCase told failed emptied unasked gave words meant
  cases meant (inl refused) = said WordsRefused refused.0 _ refused.1
  cases meant (inr (inl asked)) = route_cases asked.0 asked.1 meant asked.2 asked.3
  cases meant (inr (inr (inl asked))) = walk_cases asked.0 asked.1 meant asked.2 asked.3
  cases meant (inr (inr (inr (inl asked)))) = play_cases asked.0 asked.1 asked.2 asked.3 asked.4 asked.5 meant asked.6 asked.7
  cases meant (inr (inr (inr (inr (inl asked))))) =
      ran asked.2.played _ (inr (record { number = asked.0; asks = asked.1; run = asked.2.run; ends = asked.2.ends; line = refl })) asked.2.is
  cases meant (inr (inr (inr (inr (inr asked))))) = capture_cases asked.0 asked.1 asked.2 asked.3 asked.4 meant asked.5 asked.6
