-- The ways in which something is meant by a sound of three files.
use Rattle.std.proofs.Common.{◌≡◌, ℕ, List, [], ◌∷◌, inl, inr, Option, None, ap, refl, arith}
use Rattle.codec_graph.specs.declared.pin_kind.PinKind.{PinKind}
use Rattle.hda_outside.specs.Shelf.{Files}
use Rattle.capture_report.specs.declared.captured.Captured.{Captured}
use Rattle.sound_report.specs.declared.status.Status.{Status}
use Rattle.sound_report.specs.declared.status.Status.TheVariants.{Done, WordsRefused, ShelfFailed, SinkFailed, CodecRefused, WavRefused, ScheduleRefused, NothingRouted, Unanswered, Late, ScheduleEnded, OutOfMemory, GeometryRefused, WavShrank}
use Rattle.hda_program.specs.Answers.{PlayAnswers, AtCodec, AtPins, AtWav, AtSchedule, AtRing, AtPlans, AtRun}
use Rattle.hda_program.specs.Causes.{HasStoppedUnread}
use Rattle.hda_program.specs.PlayedFiles.{HasPlayedFiles}
use Rattle.hda_program.specs.Promises.{IsReported}
use Rattle.hda_program.specs.Meanings.{Meant}
use Rattle.hda_program.proofs.Cases.{Case, ran, recorded, said}
use Rattle.hda_program.proofs.WalkLemmas.{other_first, other_one, other_second}

-- a status with which a text alone is meant: that of a file that could not be read has this cause
abbrev pub IsRefusal : (Unread : Type 0) → Status → Type 0
IsRefusal Unread Done = ⊥
IsRefusal Unread WordsRefused = Unit {0}
IsRefusal Unread ShelfFailed = Unread
IsRefusal Unread SinkFailed = ⊥
IsRefusal Unread CodecRefused = Unit {0}
IsRefusal Unread WavRefused = Unit {0}
IsRefusal Unread ScheduleRefused = Unit {0}
IsRefusal Unread NothingRouted = Unit {0}
IsRefusal Unread Unanswered = ⊥
IsRefusal Unread Late = ⊥
IsRefusal Unread ScheduleEnded = ⊥
IsRefusal Unread OutOfMemory = ⊥
IsRefusal Unread GeometryRefused = Unit {0}
IsRefusal Unread WavShrank = ⊥

-- the shelf failed under one of the three names, and none after it was asked for
abbrev pub UnreadOf : (failed unasked : List ℕ → Type 0) → (codec wav name : List ℕ) → Type 0
UnreadOf failed unasked codec wav name = HasStoppedUnread failed unasked (codec ∷ wav ∷ name ∷ [])

-- and no capture is meant
abbrev pub IsNoCapture : Captured → Type 0
IsNoCapture captured = ⊥

module _ (kind : PinKind) (told : Option Files) (failed emptied unasked : List ℕ → Type 0) (gave : ℕ → Type 0) (codec wav name : List ℕ) (periods period : ℕ) (meant : Meant) where
  abbrev PlayCase : Type 0
  PlayCase = Case (IsRefusal (UnreadOf failed unasked codec wav name)) (IsReported (HasPlayedFiles kind told failed emptied gave codec wav name periods period)) IsNoCapture meant

  pub play_cases : PlayAnswers kind told failed emptied unasked gave codec wav name periods period meant → PlayCase
  play_cases (AtCodec (inl stop) alone) =
      said ShelfFailed (record {
        before = [];
        name = codec;
        after = wav ∷ name ∷ [];
        among = refl;
        unread = stop.0;
        stopped = λ other within apart. alone other (other_one codec other apart);
      }) _ stop.1
  play_cases (AtCodec (inr stop) alone) = said CodecRefused tt _ stop.2
  play_cases (AtPins machine file stop alone) = said CodecRefused tt _ stop.1
  play_cases (AtWav machine file pins (inl stop) alone) =
      said ShelfFailed (record {
        before = codec ∷ [];
        name = wav;
        after = name ∷ [];
        among = refl;
        unread = stop.0;
        stopped = λ other within apart. alone other (other_second codec wav other apart) (other_first codec wav other apart);
      }) _ stop.1
  play_cases (AtWav machine file pins (inr stop) alone) = said WavRefused tt _ stop.2
  play_cases (AtSchedule machine head file pins wav_file (inl stop)) =
      said ShelfFailed (record {
        before = codec ∷ wav ∷ [];
        name = name;
        after = [];
        among = refl;
        unread = stop.0;
        stopped = λ other within apart. absurd (omega (arith, within.1));
      }) _ stop.1
  play_cases (AtSchedule machine head file pins wav_file (inr stop)) = said ScheduleRefused tt _ stop.2
  play_cases (AtRing machine head schedule file pins wav_file steps stop) = said GeometryRefused tt _ stop.2
  play_cases (AtPlans machine head schedule geometry plans file pins wav_file steps ring planned none is) = said NothingRouted tt _ is
  play_cases (AtRun played files is) = ran played _ (files, refl) is

  -- no capture is among them
  pub play_captures_nothing : PlayAnswers kind told failed emptied unasked gave codec wav name periods period meant → meant.capture ≡ None
  play_captures_nothing answers = by (play_cases answers)
    where
      by : PlayCase → meant.capture ≡ None
      by (said status cause text e) = ap (λ (m : Meant). m.capture) e
      by (ran played text run e) = ap (λ (m : Meant). m.capture) e
      by (recorded captured none e) = absurd none
