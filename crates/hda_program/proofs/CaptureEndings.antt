-- When the program gives a capture, and which.
use Rattle.std.proofs.Common.{◌≡◌, ◌≢◌, ◌∙◌, ℕ, List, inl, inr, Option, Some, None, refl, sym, ap, subst, arith}
use Rattle.std.specs.Prelude.{IfSome, IsNone, IsSome}
use Rattle.stream_format.specs.Cadence.{hertz}
use Rattle.hda_outside.specs.Shelf.{Files}
use Rattle.program_words.specs.Asked.{bits_of, make, route, walk}
use Rattle.sound_report.specs.declared.played.Played.{Played}
use Rattle.sound_report.specs.declared.status.Status.{Status}
use Rattle.sound_report.specs.declared.status.Status.TheVariants.{Done, Unanswered, Late, ScheduleEnded}
use Rattle.sound_report.specs.Statuses.{number_of}
use Rattle.capture_report.specs.declared.captured.Captured.{Captured}
use Rattle.hda_program.specs.Answers.{HasEnded, HasEndedWith, HasWritten}
use Rattle.hda_program.specs.Asks.{IsCaptureOf}
use Rattle.hda_program.specs.Causes.{IsOfPlay, IsRunless}
use Rattle.hda_program.specs.Meanings.{Meant, of_capture}
use Rattle.hda_program.specs.Promises.{HasCaptured, HasRun, KeepsCapture}
use Rattle.hda_program.proofs.CaptureWords.{not_capture_and_sound, not_captured}
use Rattle.hda_program.proofs.Cases.{Case, Cause as CauseOf, IsRouted, ran, recorded, said}
use Rattle.hda_program.proofs.Endings.{IsNoEnd, by_words, capture_differs, meant_number, no_capture_end, none_meant, number_captured, said_cause, status_with}

module _ (Cause : Status → Type 0) (Run : Played → List ℕ → Type 0) (Capture : Captured → Type 0) (before after : Option (List ℕ)) (sink_failed : Type 0) (play : Option Played) (capture : Option Captured) (status : ℕ) where
  abbrev EndsSo : Type 0
  EndsSo = HasEndedWith (Case Cause Run Capture) before after sink_failed play capture status

  number_meant : (meant : Meant) (n : ℕ) → HasWritten before after sink_failed meant status → status ≡ n → (n ≡ 4 → ⊥) → (n ≡ 12 → ⊥) → number_of meant.status ≡ n
  number_meant = meant_number Cause Run Capture before after sink_failed play capture status

  -- what was meant has no capture
  without : (P : Captured → Type 0) (meant : Meant) → meant.capture ≡ None → capture ≡ meant.capture → IfSome capture P
  without P meant none is = subst (λ (o : Option Captured). IfSome o P) (sym (is ∙ none)) tt

  -- what holds of the capture that was meant holds of the one that is given
  of_meant : (P : Captured → Type 0) (meant : Meant) → Case Cause Run Capture meant → capture ≡ meant.capture → ((captured : Captured) → Capture captured → meant ≡ of_capture captured → P captured) → IfSome capture P
  of_meant P meant (said of cause text e) is holds = without P meant (ap (λ (m : Meant). m.capture) e) is
  of_meant P meant (ran played text run e) is holds = without P meant (ap (λ (m : Meant). m.capture) e) is
  of_meant P meant (recorded captured run e) is holds =
      let some : capture ≡ Some captured = is ∙ ap (λ (m : Meant). m.capture) e in subst (λ (o : Option Captured). IfSome o P) (sym some) (holds captured run e)

  kept : (P : Captured → Type 0) → EndsSo
      → ((meant : Meant) (captured : Captured) → Capture captured → meant ≡ of_capture captured → HasWritten before after sink_failed meant status → P captured) → IfSome capture P
  kept P (inl answered) holds = of_meant P answered.meant answered.is answered.given_capture (λ captured run e. holds answered.meant captured run e answered.written)
  kept P (inr memory) holds = subst (λ (o : Option Captured). IfSome o P) (sym memory.2) tt

  capture_kept : EndsSo → IfSome capture (KeepsCapture Capture before after sink_failed status)
  capture_kept ended = kept (KeepsCapture Capture before after sink_failed status) ended (λ meant captured run e written.
      record { run = run; text = subst (λ (m : Meant). HasWritten before after sink_failed m status) e written })

  none_kept : (o : Option Captured) → IfSome o (λ captured. ⊥) → IsNone o
  none_kept None holds = refl
  none_kept (Some captured) holds = absurd holds

  -- no capture is given where none can be meant
  pub no_capture : ((captured : Captured) → Capture captured → ⊥) → EndsSo → IsNone capture
  no_capture never ended = none_kept capture (kept (λ captured. ⊥) ended (λ meant captured run e written. never captured run))

  -- nor at a status that is no end of one
  never_at : (n : ℕ) → EndsSo → status ≡ n → ((meant : Meant) (captured : Captured) → meant ≡ of_capture captured → number_of meant.status ≡ n → ⊥) → (n ≢ 4) → (n ≢ 12) → IsNone capture
  never_at n ended is never no_sink no_memory =
      none_kept capture (kept (λ captured. ⊥) ended (λ meant captured run e written. never meant captured e (number_meant meant n written is no_sink no_memory)))

  refused_at : (n : ℕ) → EndsSo → status ≡ n → IsNoEnd n → (n ≢ 4) → (n ≢ 12) → IsNone capture
  refused_at n ended is no_end no_sink no_memory = never_at n ended is (λ meant captured e number. capture_differs meant captured n e number no_end) no_sink no_memory

  runless_so : EndsSo → IsRunless status → IsNone capture
  runless_so ended (inl is) = refused_at 2 ended is refl (λ e. absurd (omega (arith, e))) (λ e. absurd (omega (arith, e)))
  runless_so ended (inr (inl is)) = refused_at 5 ended is refl (λ e. absurd (omega (arith, e))) (λ e. absurd (omega (arith, e)))
  runless_so ended (inr (inr (inl is))) = refused_at 6 ended is refl (λ e. absurd (omega (arith, e))) (λ e. absurd (omega (arith, e)))
  runless_so ended (inr (inr (inr (inl is)))) = refused_at 7 ended is refl (λ e. absurd (omega (arith, e))) (λ e. absurd (omega (arith, e)))
  runless_so ended (inr (inr (inr (inr (inl is))))) = refused_at 8 ended is refl (λ e. absurd (omega (arith, e))) (λ e. absurd (omega (arith, e)))
  runless_so ended (inr (inr (inr (inr (inr is))))) = refused_at 13 ended is refl (λ e. absurd (omega (arith, e))) (λ e. absurd (omega (arith, e)))

  unread_so : EndsSo → status ≡ 3 → IsNone capture
  unread_so ended is =
      never_at 3 ended is (λ meant captured e number. no_capture_end captured 3 (sym (number_captured meant captured e) ∙ number) (inl refl)) (λ e. absurd (omega (arith, e))) (λ e. absurd (omega (arith, e)))

  -- one is given where nothing else is meant with the status
  capture_case : (n : ℕ) → (Cause (status_with n) → ⊥) → ((played : Played) (text : List ℕ) → Run played text → ⊥) → (meant : Meant) → Case Cause Run Capture meant → capture ≡ meant.capture
      → number_of meant.status ≡ n → IsSome capture
  capture_case n none never meant (said of cause text e) is number = absurd (none (said_cause Cause Run Capture n meant of text e number cause))
  capture_case n none never meant (ran played text run e) is number = absurd (never played text run)
  capture_case n none never meant (recorded captured run e) is number =
      let some : capture ≡ Some captured = is ∙ ap (λ (m : Meant). m.capture) e in subst (λ (o : Option Captured). IsSome o) (sym some) refl

  capture_at : (n : ℕ) → (Cause (status_with n) → ⊥) → ((played : Played) (text : List ℕ) → Run played text → ⊥) → EndsSo → status ≡ n → (n ≢ 4) → (n ≢ 12) → IsSome capture
  capture_at n none never (inl answered) is no_sink no_memory =
      capture_case n none never answered.meant answered.is answered.given_capture (number_meant answered.meant n answered.written is no_sink no_memory)
  capture_at n none never (inr memory) is no_sink no_memory = absurd (no_memory (sym is ∙ memory.0))

  runs_so : (Cause Done → ⊥) → (Cause Unanswered → ⊥) → (Cause Late → ⊥) → (Cause ScheduleEnded → ⊥) → ((played : Played) (text : List ℕ) → Run played text → ⊥) → EndsSo → IsOfPlay status → IsSome capture
  runs_so done unanswered late left never ended (inl (inl is)) = capture_at 0 done never ended is (λ e. absurd (omega (arith, e))) (λ e. absurd (omega (arith, e)))
  runs_so done unanswered late left never ended (inl (inr (inl is))) = capture_at 9 unanswered never ended is (λ e. absurd (omega (arith, e))) (λ e. absurd (omega (arith, e)))
  runs_so done unanswered late left never ended (inl (inr (inr is))) = capture_at 11 left never ended is (λ e. absurd (omega (arith, e))) (λ e. absurd (omega (arith, e)))
  runs_so done unanswered late left never ended (inr is) = capture_at 10 late never ended is (λ e. absurd (omega (arith, e))) (λ e. absurd (omega (arith, e)))

-- ---- an end of the program

module _ (told : Option Files) (failed emptied unasked : List ℕ → Type 0) (gave : ℕ → Type 0) (words : List (List ℕ)) (before after : Option (List ℕ)) (sink_failed : Type 0) (play : Option Played) (capture : Option Captured) (status : ℕ) where
  abbrev Why : Status → Type 0
  Why of = CauseOf told failed unasked words of

  abbrev Ran : Played → List ℕ → Type 0
  Ran played text = HasRun told failed emptied gave words played text

  abbrev HasEndedHere : Type 0
  HasEndedHere = HasEnded told failed emptied unasked gave words before after sink_failed play capture status

  cased : HasEndedHere → HasEndedWith (Case Why Ran (HasCaptured told words)) before after sink_failed play capture status
  cased ended = by_words told failed emptied unasked gave words before after sink_failed play capture status ended

  pub capture_promised : HasEndedHere → IfSome capture (KeepsCapture (HasCaptured told words) before after sink_failed status)
  capture_promised ended = capture_kept Why Ran (HasCaptured told words) before after sink_failed play capture status (cased ended)

  pub captureless : HasEndedHere → IsRunless status → IsNone capture
  captureless ended is = runless_so Why Ran (HasCaptured told words) before after sink_failed play capture status (cased ended) is

  pub capture_unread : HasEndedHere → status ≡ 3 → IsNone capture
  capture_unread ended is = unread_so Why Ran (HasCaptured told words) before after sink_failed play capture status (cased ended) is

  module _ (codec wav name : List ℕ) (periods period : ℕ) (captures : IsCaptureOf words codec wav name periods period) where
    no_route : IsRouted told words → ⊥
    no_route routed =
        not_captured words codec wav name periods period (route routed.0 (hertz routed.1.rate) (bits_of routed.1.bits) routed.1.channels) captures routed.2 refl

    -- no run is that of these words
    no_run : (played : Played) (text : List ℕ) → Ran played text → ⊥
    no_run played text (inl (inl walked, is)) = not_captured words codec wav name periods period (walk walked.codec_name walked.schedule_name) captures walked.asks refl
    no_run played text (inl (inr sounded, is)) =
        not_capture_and_sound words codec wav name periods period sounded.kind sounded.codec_name sounded.wav_name sounded.schedule_name sounded.periods sounded.period captures sounded.asks
    no_run played text (inr made) = not_captured words codec wav name periods period (make made.number) captures made.asks refl

    pub capture_runs : HasEndedHere → IsOfPlay status → IsSome capture
    capture_runs ended is =
        runs_so Why Ran (HasCaptured told words) before after sink_failed play capture status no_route (λ none. none) (λ none. none) (λ none. none) no_run (cased ended) is

    pub capture_plays_nothing : HasEndedHere → IsNone play
    capture_plays_nothing ended = none_meant Why Ran (HasCaptured told words) before after sink_failed play capture status no_run (cased ended)
