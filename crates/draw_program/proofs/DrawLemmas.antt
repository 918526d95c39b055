-- What was drawn of what is meant, and what that says of the run.
use Rattle.std.proofs.Common.{◌≡◌, ◌∙◌, ◌⊎◌, ℕ, Bool, true, false, List, Option, None, inl, inr, ap, arith, refl, subst, sym}
use Rattle.std.specs.Prelude.{IfSome}
use Rattle.stream_format.specs.declared.format.Format.{Format}
use Rattle.codec_graph.specs.declared.pin_kind.PinKind.TheVariants.{Analog}
use Rattle.route_planner.specs.declared.routes.Plan.{Plan}
use Rattle.driver_agenda.specs.Planned.{have_route}
use Rattle.hda_files.specs.declared.machine.CodecFile.{CodecFile}
use Rattle.hda_outside.specs.Shelf.{Files}
use Rattle.hda_outside.specs.Sink.{TookFront}
use Rattle.program_words.specs.Asked.{asked_by, make}
use Rattle.program_words.specs.declared.request.Request.{Request}
use Rattle.program_words.specs.declared.request.Request.TheVariants as request
use Rattle.capture_report.specs.declared.captured.Captured.{Captured}
use Rattle.sound_report.specs.declared.played.Played.{Played}
use Rattle.sound_report.specs.Statuses.{number_of}
use Rattle.svg_text.specs.Pictures.{picture_text}
use Rattle.hda_program.specs.Answers.{HasEnded, HasWritten, IsMeant, RequestAnswers, RouteAnswers, plans_meant}
use Rattle.hda_program.specs.Asks.{IsNoCommand, IsRouteOf}
use Rattle.hda_program.specs.Files.{CodecStops}
use Rattle.hda_program.specs.Meanings.{Meant}
use Rattle.hda_program.specs.Promises.{HasRun, HasWalkedOrPlayed, KeepsPromise}
use Rattle.hda_program.proofs.Callers.{WordsCase, ran, recorded, said, cases, play_captures_nothing}
use Rattle.draw_program.specs.Drawn.{CodecDrawn, HasEndedDrawing, IsDrawn, IsDrawnFor, IsForPicture, IsRunDrawn, IsRunPictured, codecs_drawn}
use Rattle.draw_program.specs.Words.{played_words}
use Rattle.draw_program.proofs.WordLemmas.{played_draws}

-- ---- codecs

-- the pictures of plans have the status that their lines have, and neither has a run
same_status : (routed : Bool) (codecs : List CodecFile) (plans : List Plan) → have_route plans ≡ routed
    → number_of (codecs_drawn codecs plans).status ≡ number_of (plans_meant codecs plans).status
same_status true codecs plans e = rw e refl
same_status false codecs plans e = rw e refl

no_run : (routed : Bool) (codecs : List CodecFile) (plans : List Plan) → have_route plans ≡ routed → None ≡ (plans_meant codecs plans).play
no_run true codecs plans e = rw e refl
no_run false codecs plans e = rw e refl

-- nor a capture
no_capture : (routed : Bool) (codecs : List CodecFile) (plans : List Plan) → have_route plans ≡ routed → None ≡ (plans_meant codecs plans).capture
no_capture true codecs plans e = rw e refl
no_capture false codecs plans e = rw e refl

-- what is answered to words for a picture is no capture
route_alone : (told : Option Files) (failed : List ℕ → Type 0) (name : List ℕ) (format : Format) (meant : Meant) → RouteAnswers told failed name format meant → meant.capture ≡ None
route_alone told failed name format meant (inl (inl unread)) = ap (λ (m : Meant). m.capture) unread.1
route_alone told failed name format meant (inl (inr refused)) = ap (λ (m : Meant). m.capture) refused.2
route_alone told failed name format meant (inr (machine, file, (plans, planned, is))) =
    ap (λ (m : Meant). m.capture) is ∙ sym (no_capture (have_route plans) machine.codecs plans refl)

pub captures_nothing : (told : Option Files) (failed emptied unasked : List ℕ → Type 0) (gave : ℕ → Type 0) (asked : Request) (meant : Meant) → IsForPicture (asked_by asked)
    → RequestAnswers told failed emptied unasked gave asked meant → meant.capture ≡ None
captures_nothing told failed emptied unasked gave (request.Route codec format) meant draws answers = route_alone told failed codec.now format meant answers
captures_nothing told failed emptied unasked gave (request.Walk codec schedule) meant draws answers = absurd draws
captures_nothing told failed emptied unasked gave (request.Play codec wav schedule periods period) meant draws answers =
    play_captures_nothing Analog told failed emptied unasked gave codec.now wav.now schedule.now periods period meant answers
captures_nothing told failed emptied unasked gave (request.Make number) meant draws answers = absurd draws
captures_nothing told failed emptied unasked gave (request.Spdif codec wav schedule periods period) meant draws answers = absurd draws
captures_nothing told failed emptied unasked gave (request.Capture codec wav schedule periods period) meant draws answers = absurd draws

-- where it ends at the codec file there is no run
stopped : (told : Option Files) (failed : List ℕ → Type 0) (name : List ℕ) (meant : Meant) → CodecStops told failed name meant → meant.play ≡ None
stopped told failed name meant (inl unread) = ap (λ (m : Meant). m.play) unread.1
stopped told failed name meant (inr refused) = ap (λ (m : Meant). m.play) refused.2

drawn_alone : (told : Option Files) (failed : List ℕ → Type 0) (name : List ℕ) (format : Format) (meant : Meant) → CodecDrawn told failed name format meant → meant.play ≡ None
drawn_alone told failed name format meant (inl stops) = stopped told failed name meant stops
drawn_alone told failed name format meant (inr drawn) = ap (λ (m : Meant). m.play) drawn.2.2

-- ---- a text that is not told

no_front : (text : List ℕ) → TookFront None None text
no_front text = record { count = 0; within = omega arith; front = refl }

-- to a sink that tells nothing another text with the same status was written as well
untold : {before after : Option (List ℕ)} {sink_failed : Type 0} (one other : Meant) (status : ℕ) → number_of one.status ≡ number_of other.status
    → HasWritten before after sink_failed one status → HasWritten None None sink_failed other status
untold one other status same (inl whole) = inl (whole.0 ∙ same, refl)
untold one other status same (inr (inl sink)) = inr (inl (sink.0, sink.1, no_front other.text))
untold one other status same (inr (inr memory)) = inr (inr (memory.0, no_front other.text))

-- ---- the end

module _ (told : Option Files) (failed emptied unasked : List ℕ → Type 0) (gave : ℕ → Type 0) (words : List (List ℕ)) (before after : Option (List ℕ)) (sink_failed : Type 0)
    (play : Option Played) (capture : Option Captured) (status : ℕ) where
  -- the same words of `hda_play`
  abbrev Headline : Type 0
  Headline = HasEnded told failed emptied unasked gave (played_words words) None None sink_failed play capture status

  abbrev Here : Meant → Type 0
  Here answer = WordsCase told failed emptied unasked gave (played_words words) answer

  abbrev Written : Meant → Type 0
  Written meant = HasWritten before after sink_failed meant status

  -- it answers so to these words, with the status and the run of what was written
  answers : (meant answer : Meant) → IsMeant told failed emptied unasked gave (played_words words) answer → play ≡ answer.play → capture ≡ answer.capture → number_of meant.status ≡ number_of answer.status
      → Written meant → Headline
  answers meant answer is given kept same written =
      inl (record { meant = answer; is = is; given = given; given_capture = kept; written = untold meant answer status same written })

  by_codec : (name : List ℕ) (format : Format) (meant : Meant) → IsRouteOf (played_words words) name format → CodecDrawn told failed name format meant → play ≡ meant.play → capture ≡ meant.capture → Written meant
      → Headline
  by_codec name format meant asks (inl stops) given kept written = answers meant meant (inr (inl (name, format, asks, inl stops))) given kept refl written
  by_codec name format meant asks (inr (machine, file, (plans, planned, is))) given kept written =
      let answer = plans_meant machine.codecs plans in
      answers meant answer (inr (inl (name, format, asks, inr (machine, file, (plans, planned, refl)))))
      (given ∙ (ap (λ (m : Meant). m.play) is ∙ no_run (have_route plans) machine.codecs plans refl))
      (kept ∙ (ap (λ (m : Meant). m.capture) is ∙ no_capture (have_route plans) machine.codecs plans refl))
      (ap (λ (m : Meant). number_of m.status) is ∙ same_status (have_route plans) machine.codecs plans refl) written

  -- the drawing of a run's answer has its run and its status
  by_case : (meant answer : Meant) → IsMeant told failed emptied unasked gave (played_words words) answer → Here answer → IsDrawnFor answer.play answer meant → play ≡ meant.play → capture ≡ meant.capture → Written meant
      → Headline
  by_case meant answer is (said of cause text e) drawn given kept written =
      let same : meant ≡ answer = subst (λ (p : Option Played). IsDrawnFor p answer meant) (ap (λ (m : Meant). m.play) e) drawn in
      answers meant answer is (given ∙ ap (λ (m : Meant). m.play) same) (kept ∙ ap (λ (m : Meant). m.capture) same) (ap (λ (m : Meant). number_of m.status) same) written
  by_case meant answer is (recorded captured run e) drawn given kept written =
      let same : meant ≡ answer = subst (λ (p : Option Played). IsDrawnFor p answer meant) (ap (λ (m : Meant). m.play) e) drawn in
      answers meant answer is (given ∙ ap (λ (m : Meant). m.play) same) (kept ∙ ap (λ (m : Meant). m.capture) same) (ap (λ (m : Meant). number_of m.status) same) written
  by_case meant answer is (ran played text run e) drawn given kept written =
      let shown : IsRunDrawn played meant = subst (λ (p : Option Played). IsDrawnFor p answer meant) (ap (λ (m : Meant). m.play) e) drawn in
      answers meant answer is (given ∙ (ap (λ (m : Meant). m.play) shown.2 ∙ sym (ap (λ (m : Meant). m.play) e)))
      (kept ∙ (ap (λ (m : Meant). m.capture) shown.2 ∙ sym (ap (λ (m : Meant). m.capture) e)))
      (ap (λ (m : Meant). number_of m.status) shown.2 ∙ sym (ap (λ (m : Meant). number_of m.status) e)) written

  by_meaning : (meant : Meant) → IsDrawn told failed emptied unasked gave words meant → play ≡ meant.play → capture ≡ meant.capture → Written meant → IsNoCommand (played_words words) ⊎ Headline
  by_meaning meant (inl none) given kept written = inl none.0
  by_meaning meant (inr (inl (name, format, asks, drawn))) given kept written = inr (by_codec name format meant asks drawn given kept written)
  by_meaning meant (inr (inr (codec, wav, schedule, periods, period, asks, drawn))) given kept written =
      let is : IsMeant told failed emptied unasked gave (played_words words) drawn.answer =
      inr (inr (inr (inl (Analog, codec, wav, schedule, periods, period, asks, drawn.answers)))) in
      inr (by_case meant drawn.answer is (cases told failed emptied unasked gave (played_words words) drawn.answer is) drawn.drawn given kept written)

  -- but for its text it has ended as `hda_play` does
  pub ended_so : HasEndedDrawing told failed emptied unasked gave words before after sink_failed play capture status → IsNoCommand (played_words words) ⊎ Headline
  ended_so (inl answered) = by_meaning answered.meant answered.is answered.given answered.given_capture answered.written
  ended_so (inr memory) = inr (inr (memory.0, memory.1, memory.2, refl))

  -- ---- the promise

  abbrev Kept : Option Played → Type 0
  Kept given = IfSome given (KeepsPromise (IsRunPictured told failed emptied gave words) before after sink_failed status)

  no_run_kept : (given : Option Played) → given ≡ None → Kept given
  no_run_kept given none = subst (λ (p : Option Played). Kept p) (sym none) tt

  -- a run of words for a picture is a walk or a play
  walked_or_played : (played : Played) (text : List ℕ) → HasRun told failed emptied gave (played_words words) played text
      → HasWalkedOrPlayed told failed emptied gave (played_words words) played
  walked_or_played played text (inl reported) = reported.0
  walked_or_played played text (inr made) = absurd (played_draws words (make made.number) made.asks)

  run_kept : (meant answer : Meant) → Here answer → IsDrawnFor answer.play answer meant → play ≡ meant.play → Written meant → Kept play
  run_kept meant answer (said of cause text e) drawn given written =
      let same : meant ≡ answer = subst (λ (p : Option Played). IsDrawnFor p answer meant) (ap (λ (m : Meant). m.play) e) drawn in
      no_run_kept play (given ∙ (ap (λ (m : Meant). m.play) same ∙ ap (λ (m : Meant). m.play) e))
  run_kept meant answer (recorded captured run e) drawn given written =
      let same : meant ≡ answer = subst (λ (p : Option Played). IsDrawnFor p answer meant) (ap (λ (m : Meant). m.play) e) drawn in
      no_run_kept play (given ∙ (ap (λ (m : Meant). m.play) same ∙ ap (λ (m : Meant). m.play) e))
  run_kept meant answer (ran played text run e) drawn given written =
      let shown : IsRunDrawn played meant = subst (λ (p : Option Played). IsDrawnFor p answer meant) (ap (λ (m : Meant). m.play) e) drawn in
      let kept : KeepsPromise (IsRunPictured told failed emptied gave words) before after sink_failed status played =
      record {
        run_text = picture_text shown.0;
        run = record { run = walked_or_played played text run; picture = shown.0; drawn = shown.1; text_is = refl };
        text = subst (λ (m : Meant). HasWritten before after sink_failed m status) shown.2 written;
      } in
      subst (λ (p : Option Played). Kept p) (sym (given ∙ ap (λ (m : Meant). m.play) shown.2)) kept

  kept_by : (meant : Meant) → IsDrawn told failed emptied unasked gave words meant → play ≡ meant.play → Written meant → Kept play
  kept_by meant (inl none) given written = no_run_kept play (given ∙ ap (λ (m : Meant). m.play) none.1)
  kept_by meant (inr (inl (name, format, asks, drawn))) given written = no_run_kept play (given ∙ drawn_alone told failed name format meant drawn)
  kept_by meant (inr (inr (codec, wav, schedule, periods, period, asks, drawn))) given written =
      let is : IsMeant told failed emptied unasked gave (played_words words) drawn.answer =
      inr (inr (inr (inl (Analog, codec, wav, schedule, periods, period, asks, drawn.answers)))) in
      run_kept meant drawn.answer (cases told failed emptied unasked gave (played_words words) drawn.answer is) drawn.drawn given written

  pub promise_kept : HasEndedDrawing told failed emptied unasked gave words before after sink_failed play capture status → Kept play
  promise_kept (inl answered) = kept_by answered.meant answered.is answered.given answered.written
  promise_kept (inr memory) = no_run_kept play memory.1
