-- When a sound of three files gives a run, and which.
use Rattle.std.proofs.Common.{◌≡◌, ◌≢◌, ℕ, List, Option, Some, None, arith}
use Rattle.std.specs.Prelude.{IfSome, IsNone, IsSome, IsSomeAnd}
use Rattle.codec_graph.specs.declared.pin_kind.PinKind.{PinKind}
use Rattle.hda_outside.specs.Shelf.{Files}
use Rattle.capture_report.specs.declared.captured.Captured.{Captured}
use Rattle.sound_report.specs.declared.played.Played.{Played}
use Rattle.sound_report.specs.declared.status.Status.{Status}
use Rattle.hda_program.specs.Answers.{HasEndedPlay, HasEndedWith, PlayAnswers}
use Rattle.hda_program.specs.Causes.{IsOfSound, IsRunless, WasShortened, WasUnread}
use Rattle.hda_program.specs.PlayedFiles.{HasPlayedFiles}
use Rattle.hda_program.specs.Promises.{IsReported, KeepsPromise}
use Rattle.hda_program.proofs.Cases.{Case}
use Rattle.hda_program.proofs.CaptureEndings.{no_capture}
use Rattle.hda_program.proofs.Endings.{by_cases, never_shrunk, none_at, of_run_at, played_short, played_unread, promise_kept, said_at, shrunk_at, some_at, told_never_short}
use Rattle.hda_program.proofs.PlayCases.{IsNoCapture, IsRefusal, UnreadOf, play_cases}

module _ (kind : PinKind) (told : Option Files) (failed emptied unasked : List ℕ → Type 0) (gave : ℕ → Type 0) (codec wav name : List ℕ) (periods period : ℕ) (before after : Option (List ℕ)) (sink_failed : Type 0) (play : Option Played) (capture : Option Captured) (status : ℕ) where
  abbrev Run : Played → List ℕ → Type 0
  Run = IsReported (HasPlayedFiles kind told failed emptied gave codec wav name periods period)

  abbrev Refused : Status → Type 0
  Refused = IsRefusal (UnreadOf failed unasked codec wav name)

  abbrev HasEndedHere : Type 0
  HasEndedHere = HasEndedPlay kind told failed emptied unasked gave codec wav name periods period before after sink_failed play capture status

  by_files : HasEndedHere → HasEndedWith (Case Refused Run IsNoCapture) before after sink_failed play capture status
  by_files ended =
      by_cases (PlayAnswers kind told failed emptied unasked gave codec wav name periods period) (Case Refused Run IsNoCapture) before after sink_failed play capture status (play_cases kind told failed emptied unasked gave codec wav name periods period) ended

  pub files_promised : HasEndedHere → IfSome play (KeepsPromise (IsReported (HasPlayedFiles kind told failed emptied gave codec wav name periods period)) before after sink_failed status)
  files_promised ended = promise_kept Refused Run IsNoCapture before after sink_failed play capture status (by_files ended)

  pub files_runless : HasEndedHere → IsRunless status → IsNone play
  files_runless ended is = none_at Refused Run IsNoCapture before after sink_failed play capture status (by_files ended) is

  pub files_runs : HasEndedHere → IsOfSound status → IsSome play
  files_runs ended is = some_at Refused Run IsNoCapture before after sink_failed play capture status (λ none. none) (λ none. none) (λ none. none) (λ none. none) (λ none. none) (λ captured none. none) (by_files ended) is

  pub files_unread : HasEndedHere → status ≡ 3 → IfSome play (WasUnread failed wav)
  files_unread ended is =
      of_run_at Refused Run IsNoCapture before after sink_failed play capture status 3 (WasUnread failed wav) (λ played text run number. played_unread failed emptied gave wav played run.0 number) (by_files ended) is
      (λ e. absurd (omega (arith, e))) (λ e. absurd (omega (arith, e)))

  pub files_stopped : HasEndedHere → status ≡ 3 → IsNone play → UnreadOf failed unasked codec wav name
  files_stopped ended is none = said_at Refused Run IsNoCapture before after sink_failed play capture status 3 (λ captured none number. none) (by_files ended) is (λ e. absurd (omega (arith, e))) (λ e. absurd (omega (arith, e))) none

  pub files_shrunk : HasEndedHere → status ≡ 14 → IsSomeAnd play (WasShortened emptied wav)
  files_shrunk ended is =
      shrunk_at Refused Run IsNoCapture before after sink_failed play capture status (WasShortened emptied wav) (λ played text run number. played_short failed emptied gave wav played run.0 number) (λ none. none) (λ captured none number. none) (by_files ended) is

  pub files_captureless : HasEndedHere → IsNone capture
  files_captureless ended = no_capture Refused Run IsNoCapture before after sink_failed play capture status (λ captured none. none) (by_files ended)

module _ (kind : PinKind) (failed emptied unasked : List ℕ → Type 0) (gave : ℕ → Type 0) (codec wav name : List ℕ) (periods period : ℕ) (before after : Option (List ℕ)) (sink_failed : Type 0) (play : Option Played) (capture : Option Captured) (status : ℕ) where
  never_told : (files : Files) → HasEndedPlay kind (Some files) failed emptied unasked gave codec wav name periods period before after sink_failed play capture status → status ≡ 14 → ⊥
  never_told files ended is =
      never_shrunk (Refused kind (Some files) failed emptied unasked gave codec wav name periods period before after sink_failed play capture status) (Run kind (Some files) failed emptied unasked gave codec wav name periods period before after sink_failed play capture status) IsNoCapture before after sink_failed play capture status
      (λ played text run number. told_never_short failed emptied gave kind files wav played run.0 number) (λ none. none) (λ captured none number. none)
      (by_files kind (Some files) failed emptied unasked gave codec wav name periods period before after sink_failed play capture status ended) is

  pub files_never_shrink : (told : Option Files) → HasEndedPlay kind told failed emptied unasked gave codec wav name periods period before after sink_failed play capture status → IfSome told (λ files. status ≢ 14)
  files_never_shrink None ended = tt
  files_never_shrink (Some files) ended = never_told files ended
