-- What is said of a shelf that had been asked before holds of both together, for a sound that is to be played.
use Rattle.std.proofs.Common.{ℕ, ◌+◌, List, length, inl, inr, Option, Some, None}
use Rattle.hda_outside.specs.Shelf.{Files}
use Rattle.hda_files.specs.declared.machine.Machine.{Machine}
use Rattle.schedule_reader.specs.declared.schedule.Schedule.{Schedule}
use Rattle.period_writer.specs.declared.geometry.Geometry.{Geometry}
use Rattle.codec_graph.specs.declared.pin_kind.PinKind.{PinKind}
use Rattle.route_planner.specs.declared.routes.Plan.{Plan}
use Rattle.wav_reader.specs.declared.opened.WavHead.{WavHead}
use Rattle.sound_report.specs.declared.played.CutLine.{CutLine}
use Rattle.sound_report.specs.declared.played.CutLine.TheVariants as cuts
use Rattle.program_runs.specs.Plays.{IsCutUnder}
use Rattle.hda_program.specs.Playing.{MachinePlays, PinsPlay, PlansPlay, SchedulePlays, SoundPlays}
use Rattle.hda_program.specs.Files.{bytes_before}
use Rattle.hda_program.specs.Meanings.{Meant}

-- a cause of a cut
cut_both : (name : List ℕ) (head : WavHead) (read : ℕ) (failed emptied both_failed both_emptied : Type 0) (cut : Option CutLine) → (failed → both_failed) → (emptied → both_emptied)
    → IsCutUnder name head read failed emptied cut → IsCutUnder name head read both_failed both_emptied cut
cut_both name head read failed emptied both_failed both_emptied None rose more under = tt
cut_both name head read failed emptied both_failed both_emptied (Some (cuts.Failed text)) rose more under = (under.0, rose under.1)
cut_both name head read failed emptied both_failed both_emptied (Some (cuts.Short place)) rose more under = (under.0, more under.1)

module _ (kind : PinKind) (told : Option Files) (failed emptied both_failed both_emptied : List ℕ → Type 0) (meant : Meant) (rose : (n : List ℕ) → failed n → both_failed n) (more : (n : List ℕ) → emptied n → both_emptied n) where
  plans_both : (gave given : ℕ → Type 0) → ((n : ℕ) → gave n → given n) → (wav : List ℕ) (machine : Machine) (head : WavHead) (geometry : Geometry) (schedule : Schedule) (plans : List Plan)
      → PlansPlay kind told failed emptied gave wav machine head geometry schedule plans meant → PlansPlay kind told both_failed both_emptied given wav machine head geometry schedule plans meant
  plans_both gave given give wav machine head geometry schedule plans (inl none) = inl none
  plans_both gave given give wav machine head geometry schedule plans (inr run) =
      inr (run.0, run.1, run.2, run.3, cut_both wav head run.0.read (failed wav) (emptied wav) (both_failed wav) (both_emptied wav) run.0.cut (rose wav) (more wav) run.4, give _ run.5, give _ run.6)

  schedule_both : (gave given : ℕ → Type 0) → ((n : ℕ) → gave n → given n) → (periods period : ℕ) (wav : List ℕ) (machine : Machine) (head : WavHead) (schedule : Schedule)
      → SchedulePlays kind told failed emptied gave periods period wav machine head schedule meant → SchedulePlays kind told both_failed both_emptied given periods period wav machine head schedule meant
  schedule_both gave given give periods period wav machine head schedule (inl stops) = inl stops
  schedule_both gave given give periods period wav machine head schedule (inr (geometry, ring, (plans, planned, plays))) =
      inr (geometry, ring, (plans, planned, plans_both gave given give wav machine head geometry schedule plans plays))

  pub SoundPlays-both : (gave given : ℕ → Type 0) → ((n : ℕ) → gave n → given n) → (periods period : ℕ) (wav : List ℕ) (machine : Machine) (head : WavHead) (name : List ℕ)
      → SoundPlays kind told failed emptied gave periods period wav machine head name meant → SoundPlays kind told both_failed both_emptied given periods period wav machine head name meant
  SoundPlays-both gave given give periods period wav machine head name (inl (inl unread)) = inl (inl (rose name unread.0, unread.1))
  SoundPlays-both gave given give periods period wav machine head name (inl (inr refused)) = inl (inr refused)
  SoundPlays-both gave given give periods period wav machine head name (inr (schedule, file, plays)) =
      inr (schedule, file, schedule_both (λ n. gave (length file.bytes + n)) (λ n. given (length file.bytes + n)) (λ n g. give (length file.bytes + n) g) periods period wav machine head schedule plays)

  pub SchedulePlays-both : (gave given : ℕ → Type 0) → ((n : ℕ) → gave n → given n) → (periods period : ℕ) (wav : List ℕ) (machine : Machine) (head : WavHead) (schedule : Schedule)
      → SchedulePlays kind told failed emptied gave periods period wav machine head schedule meant → SchedulePlays kind told both_failed both_emptied given periods period wav machine head schedule meant
  SchedulePlays-both = schedule_both

  pub PinsPlay-both : (unasked both : List ℕ → Type 0) → ((n : List ℕ) → unasked n → both n) → (gave given : ℕ → Type 0) → ((n : ℕ) → gave n → given n)
      → (periods period : ℕ) (machine : Machine) (wav name : List ℕ)
      → PinsPlay kind told failed emptied unasked gave periods period machine wav name meant → PinsPlay kind told both_failed both_emptied both given periods period machine wav name meant
  PinsPlay-both unasked both still gave given give periods period machine wav name (inl (inl unread, alone)) =
      inl (inl (rose wav unread.0, unread.1), λ other apart. still other (alone other apart))
  PinsPlay-both unasked both still gave given give periods period machine wav name (inl (inr refused, alone)) =
      inl (inr refused, λ other apart. still other (alone other apart))
  PinsPlay-both unasked both still gave given give periods period machine wav name (inr (head, file, plays)) =
      inr (head, file, SoundPlays-both (λ n. gave (bytes_before head + n)) (λ n. given (bytes_before head + n)) (λ n g. give (bytes_before head + n) g) periods period wav machine head name plays)

  pub MachinePlays-both : (unasked both : List ℕ → Type 0) → ((n : List ℕ) → unasked n → both n) → (gave given : ℕ → Type 0) → ((n : ℕ) → gave n → given n)
      → (periods period : ℕ) (machine : Machine) (wav name : List ℕ)
      → MachinePlays kind told failed emptied unasked gave periods period machine wav name meant → MachinePlays kind told both_failed both_emptied both given periods period machine wav name meant
  MachinePlays-both unasked both still gave given give periods period machine wav name (inl (stop, none)) = inl (stop, λ other. still other (none other))
  MachinePlays-both unasked both still gave given give periods period machine wav name (inr (few, plays)) =
      inr (few, PinsPlay-both unasked both still gave given give periods period machine wav name plays)
