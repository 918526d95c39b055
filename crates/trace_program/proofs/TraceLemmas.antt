-- What was traced of what is meant, and what that says of the run.
use Rattle.std.proofs.Common.{◌≡◌, ◌∙◌, ◌⊎◌, ℕ, List, Option, Some, None, inl, inr, ap, arith, refl, subst, sym}
use Rattle.std.specs.Prelude.{IfSome}
use Rattle.hda_outside.specs.Shelf.{Files}
use Rattle.hda_outside.specs.Sink.{TookFront}
use Rattle.program_words.proofs.Callers.{run_is_no_make}
use Rattle.capture_report.specs.declared.captured.Captured.{Captured}
use Rattle.sound_report.specs.declared.played.Played.{Played}
use Rattle.sound_report.specs.Statuses.{number_of}
use Rattle.hda_program.specs.Answers.{HasEnded, HasWritten}
use Rattle.hda_program.specs.Asks.{IsNoCommand}
use Rattle.hda_program.specs.Meanings.{Meant, run_meant}
use Rattle.hda_program.specs.Promises.{HasRun, HasWalkedOrPlayed, KeepsPromise}
use Rattle.hda_program.proofs.Callers.{WordsCase, ran, recorded, said, cases}
use Rattle.trace_lines.specs.declared.whole.Form.{Form}
use Rattle.trace_program.specs.Traced.{HasEndedTrace, IsAnswered, IsRunTraced, IsTraced, trace_of, traced, traced_run}
use Rattle.trace_program.specs.Words.{form_of, operands_of, played_words}

-- ---- one meaning

-- the trace of a meaning has its run
traced_given : (form : Form) (given : Option Played) (meant : Meant) → meant.play ≡ given → meant.play ≡ (traced_run form given meant).play
traced_given form None meant e = refl
traced_given form (Some played) meant e = e

pub traced_play : (form : Form) (meant : Meant) → meant.play ≡ (traced form meant).play
traced_play form meant = traced_given form meant.play meant refl

module _ (told : Option Files) (failed emptied unasked : List ℕ → Type 0) (gave : ℕ → Type 0) (words : List (List ℕ)) where
  abbrev Here : Meant → Type 0
  Here meant = WordsCase told failed emptied unasked gave (played_words words) meant

  -- the trace of what is meant has its status
  same_status : (form : Form) (meant : Meant) → Here meant → number_of (traced form meant).status ≡ number_of meant.status
  same_status form meant (said status cause text e) =
      ap (λ (m : Meant). number_of (traced form m).status) e ∙ sym (ap (λ (m : Meant). number_of m.status) e)
  same_status form meant (ran played text run e) =
      ap (λ (m : Meant). number_of (traced form m).status) e ∙ sym (ap (λ (m : Meant). number_of m.status) e)
  same_status form meant (recorded captured run e) =
      ap (λ (m : Meant). number_of (traced form m).status) e ∙ sym (ap (λ (m : Meant). number_of m.status) e)

  -- and its capture
  same_capture : (form : Form) (meant : Meant) → Here meant → (traced form meant).capture ≡ meant.capture
  same_capture form meant (said status cause text e) = ap (λ (m : Meant). (traced form m).capture) e ∙ sym (ap (λ (m : Meant). m.capture) e)
  same_capture form meant (ran played text run e) = ap (λ (m : Meant). (traced form m).capture) e ∙ sym (ap (λ (m : Meant). m.capture) e)
  same_capture form meant (recorded captured run e) = ap (λ (m : Meant). (traced form m).capture) e ∙ sym (ap (λ (m : Meant). m.capture) e)

  -- a run of words for a run is a walk or a play
  walked_or_played : (played : Played) (text : List ℕ) → HasRun told failed emptied gave (played_words words) played text
      → HasWalkedOrPlayed told failed emptied gave (played_words words) played
  walked_or_played played text (inl reported) = reported.0
  walked_or_played played text (inr made) = absurd (run_is_no_make (operands_of words) made.number made.asks)

-- ---- a text that is not told

no_front : (text : List ℕ) → TookFront None None text
no_front text = record { count = 0; within = omega arith; front = refl }

-- to a sink that tells nothing another text with the same status was written as well
untold : {before after : Option (List ℕ)} {sink_failed : Type 0} (one other : Meant) (status : ℕ) → number_of one.status ≡ number_of other.status
    → HasWritten before after sink_failed one status → HasWritten None None sink_failed other status
untold one other status same (inl whole) = inl (whole.0 ∙ same, refl)
untold one other status same (inr (inl sink)) = inr (inl (sink.0, sink.1, no_front other.text))
untold one other status same (inr (inr memory)) = inr (inr (memory.0, no_front other.text))

-- ---- the end

module _ (told : Option Files) (failed emptied unasked : List ℕ → Type 0) (gave : ℕ → Type 0) (words : List (List ℕ)) (before after : Option (List ℕ)) (sink_failed : Type 0)
    (play : Option Played) (capture : Option Captured) (status : ℕ) where
  -- the same words of `hda_play`
  abbrev Headline : Type 0
  Headline = HasEnded told failed emptied unasked gave (played_words words) None None sink_failed play capture status

  by_answer : (meant : Meant) → IsTraced told failed emptied unasked gave words meant → play ≡ meant.play → capture ≡ meant.capture → HasWritten before after sink_failed meant status
      → (answer : Meant) → meant ≡ traced (form_of words) answer → IsAnswered told failed emptied unasked gave words answer
      → IsNoCommand (played_words words) ⊎ Headline
  by_answer meant is given kept written answer traced_is (inl none) = inl none.0
  by_answer meant is given kept written answer traced_is (inr run) =
      let here = cases told failed emptied unasked gave (played_words words) answer run.2 in
      let form = form_of words in
      inr (inl (record {
        meant = answer;
        is = run.2;
        given = given ∙ (ap (λ (m : Meant). m.play) traced_is ∙ sym (traced_play form answer));
        given_capture = kept ∙ (ap (λ (m : Meant). m.capture) traced_is ∙ same_capture told failed emptied unasked gave words form answer here);
        written =
            untold meant answer status
            (ap (λ (m : Meant). number_of m.status) traced_is ∙ same_status told failed emptied unasked gave words form answer here) written;
      }))

  -- but for its text it has ended as `hda_play` does
  pub ended_so : HasEndedTrace told failed emptied unasked gave words before after sink_failed play capture status → IsNoCommand (played_words words) ⊎ Headline
  ended_so (inl answered) =
      by_answer answered.meant answered.is answered.given answered.given_capture answered.written answered.is.answer answered.is.is answered.is.answered
  ended_so (inr memory) = inr (inr (memory.0, memory.1, memory.2, refl))

  -- ---- the promise

  abbrev Kept : Option Played → Type 0
  Kept given = IfSome given (KeepsPromise (IsRunTraced told failed emptied gave words) before after sink_failed status)

  no_run_kept : (given : Option Played) → given ≡ None → Kept given
  no_run_kept given none = subst (λ (p : Option Played). Kept p) (sym none) tt

  run_kept : (answer : Meant) → Here told failed emptied unasked gave words answer → (meant : Meant) → meant ≡ traced (form_of words) answer → play ≡ meant.play
      → HasWritten before after sink_failed meant status → Kept play
  run_kept answer (said of cause text e) meant traced_is given written =
      no_run_kept play (given ∙ (ap (λ (m : Meant). m.play) traced_is ∙ ap (λ (m : Meant). (traced (form_of words) m).play) e))
  run_kept answer (recorded captured run e) meant traced_is given written =
      no_run_kept play (given ∙ (ap (λ (m : Meant). m.play) traced_is ∙ ap (λ (m : Meant). (traced (form_of words) m).play) e))
  run_kept answer (ran played text run e) meant traced_is given written =
      let form = form_of words in
      let is : meant ≡ run_meant played (trace_of form played) = traced_is ∙ ap (λ (m : Meant). traced form m) e in
      let kept : KeepsPromise (IsRunTraced told failed emptied gave words) before after sink_failed status played =
      record {
        run_text = trace_of form played;
        run = record { run = walked_or_played told failed emptied unasked gave words played text run; text_is = refl };
        text = subst (λ (m : Meant). HasWritten before after sink_failed m status) is written;
      } in
      subst (λ (p : Option Played). Kept p) (sym (given ∙ ap (λ (m : Meant). m.play) is)) kept

  kept_by : (meant answer : Meant) → meant ≡ traced (form_of words) answer → IsAnswered told failed emptied unasked gave words answer → play ≡ meant.play
      → HasWritten before after sink_failed meant status → Kept play
  kept_by meant answer traced_is (inl none) given written =
      no_run_kept play (given ∙ (ap (λ (m : Meant). m.play) traced_is ∙ ap (λ (m : Meant). (traced (form_of words) m).play) none.1))
  kept_by meant answer traced_is (inr run) given written =
      run_kept answer (cases told failed emptied unasked gave (played_words words) answer run.2) meant traced_is given written

  pub promise_kept : HasEndedTrace told failed emptied unasked gave words before after sink_failed play capture status → Kept play
  promise_kept (inl answered) = kept_by answered.meant answered.is.answer answered.is.is answered.is.answered answered.given answered.written
  promise_kept (inr memory) = no_run_kept play memory.1
