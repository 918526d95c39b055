-- Where nothing is refused, sounds and walks come to their runs.
use Rattle.std.proofs.Common.{◌≡◌, ◌≢◌, ◌∙◌, ℕ, List, true, false, inl, inr, Option, Some, None, refl, sym, ap, subst}
use Rattle.std.specs.Prelude.{◌⊎◌, if◌then◌else◌, Bool, IsSome}
use Rattle.stream_format.specs.declared.format.Rate.{Rate}
use Rattle.stream_format.specs.declared.format.Bits.{Bits}
use Rattle.stream_format.specs.Layouts.{layout}
use Rattle.sound_report.specs.PlanLines.{plans_lines}
use Rattle.stream_format.specs.declared.format.Format.{Format}
use Rattle.codec_graph.specs.declared.pin_kind.PinKind.{PinKind}
use Rattle.codec_graph.specs.declared.pin_kind.PinKind.TheVariants.{Analog}
use Rattle.route_planner.specs.declared.routes.Plan.{Plan}
use Rattle.hda_outside.specs.Shelf.{Files}
use Rattle.stream_format.proofs.Callers.{one_format}
use Rattle.hda_files.specs.declared.machine.Machine.{Machine}
use Rattle.schedule_reader.specs.declared.schedule.Schedule.{Schedule}
use Rattle.stream_format.specs.Cadence.{hertz}
use Rattle.program_words.specs.Asked.{bits_of, capture, route, walk, make}
use Rattle.program_words.proofs.Callers.{bits_of-same, hertz-same}
use Rattle.period_writer.specs.declared.geometry.GeometryFault.{GeometryFault}
use Rattle.period_writer.specs.Rings.{fault_of}
use Rattle.wav_reader.specs.declared.opened.WavHead.{WavHead}
use Rattle.driver_progress.specs.declared.phase.Phase.{Phase}
use Rattle.driver_progress.specs.declared.phase.Phase.TheVariants.{Ready, Unanswered}
use Rattle.capture_report.specs.declared.captured.Captured.{Captured}
use Rattle.sound_report.specs.declared.played.Played.{Played}
use Rattle.sound_report.specs.declared.played.PlayFault.{PlayFault}
use Rattle.sound_report.specs.declared.played.PlayFault.TheVariants as fault
use Rattle.sound_report.specs.declared.played.CutLine.{CutLine}
use Rattle.sound_report.specs.declared.played.CutLine.TheVariants as cuts
use Rattle.sound_report.specs.declared.status.Status.TheVariants.{Done, OutOfMemory}
use Rattle.sound_report.specs.Statuses.{number_of}
use Rattle.program_runs.specs.Plays.{IsCutUnder}
use Rattle.program_runs.specs.Walks.{IsWalked, walk_fault, walk_format}
use Rattle.laws_start.specs.Tasks.{HavePlans}
use Rattle.program_runs.specs.Outputs.{HavePlansOf}
use Rattle.hda_program.specs.Answers.{HasEnded, HasEndedPlay, HasEndedWith, HasWritten, IsMeant, MachineWalks, PlansWalk, PlayAnswers, RouteAnswers, WalkAnswers, AtCodec, AtPins, AtWav, AtSchedule, AtRing, AtPlans, AtRun}
use Rattle.hda_program.specs.Asks.{IsRouteOf, IsSoundOf, IsWalkOf, sound_asked}
use Rattle.hda_program.specs.Pins.{AreFewPins}
use Rattle.hda_program.specs.Causes.{IsOfPlay, IsOfWalk, IsShortCut}
use Rattle.hda_program.specs.Complete.{CanPlay, CanRoute, CanWalk, HasPlayedOn, HasRoutes, HasWalkedOn}
use Rattle.hda_program.specs.Meanings.{Meant, end_status, fault_status, of_run, status_of, telling, unrouted}
use Rattle.driver_agenda.specs.Planned.{have_route}
use Rattle.hda_program.proofs.Endings.{never_short, not_route_and_sound, not_route_and_walk, same_asked}
use Rattle.hda_program.proofs.PinLemmas.{not_few_and_many}
use Rattle.hda_program.proofs.SoundWords.{no_sound, same_sound}
use Rattle.hda_program.proofs.OneReading.{codec_unrefused, one_machine, one_plans, one_wav_format, schedule_unrefused, wav_unrefused}

-- ---- the statuses of runs

pub of_play : (end : Option PlayFault) → IsOfPlay (number_of (fault_status end))
of_play None = inl (inl refl)
of_play (Some (fault.Unanswered codec command issued noticed)) = inl (inr (inl refl))
of_play (Some (fault.Late from to limit)) = inr refl
of_play (Some (fault.CommandsLeft sent of)) = inl (inr (inr refl))
of_play (Some (fault.FramesLeft written heard of)) = inl (inr (inr refl))

WalkEnd : Option PlayFault → Type 0
WalkEnd end = IsOfWalk (number_of (fault_status end))

of_walk : (phase : Phase) (sent of : ℕ) → WalkEnd (walk_fault phase sent of)
unfolding WalkEnd
of_walk Ready sent of = inl refl
of_walk (Unanswered codec command issued noticed) sent of = inr (inl refl)
of_walk phase sent of = inr (inr refl)

walk_end : (machine : Machine) (plans : List Plan) (schedule : Schedule) (played : Played) → IsWalked machine plans schedule played → IsOfWalk (number_of (status_of played))
unfolding WalkEnd
walk_end machine plans schedule played walked =
    subst (λ (cut : Option CutLine). IsOfWalk (number_of (end_status cut played.fault))) (sym walked.silent.uncut)
    (subst (λ (end : Option PlayFault). WalkEnd end) (sym walked.run.fault) (of_walk walked.run.state.phase walked.run.state.sent played.commands))

-- a run whose reading was cut by nothing ends so
uncut : (name : List ℕ) (head : WavHead) (read : ℕ) (failed emptied : Type 0) (cut : Option CutLine) (end : Option PlayFault) → IsCutUnder name head read failed emptied cut → (failed → ⊥) → (IsShortCut cut → ⊥)
    → IsOfPlay (number_of (end_status cut end))
uncut name head read failed emptied None end under good long = of_play end
uncut name head read failed emptied (Some (cuts.Failed text)) end under good long = absurd (good under.1)
uncut name head read failed emptied (Some (cuts.Short place)) end under good long = absurd (long tt)

-- ---- what is meant is a run

-- a run is meant whose status is one of these
abbrev IsRunOf : (ℕ → Type 0) → Meant → Type 0
IsRunOf IsOf meant = (played : Played) × IsOf (number_of (status_of played)) × (meant ≡ of_run played)

same_routes : (kind : PinKind) (format : Format) (machine : Machine) (one other : List Plan) → HavePlansOf kind format machine.codecs one → HavePlansOf kind format machine.codecs other → have_route one ≡ true
    → have_route other ≡ false → ⊥
same_routes kind format machine one other h k routed none =
    let bad : true ≡ false = sym routed ∙ (ap have_route (sym (one_plans kind format machine.codecs one other h k)) ∙ none) in cc

-- ---- `play` and `spdif`

module _ (kind : PinKind) (told : Option Files) (failed emptied : List ℕ → Type 0) (codec wav name : List ℕ) (periods period : ℕ) (can : CanPlay kind told failed codec wav name periods period) (meant : Meant) where
  abbrev Here : Option Files
  Here = Some can.files

  ring_good : (machine : Machine) (head : WavHead) (end : GeometryFault) → can.machine ≡ machine → can.head.format ≡ head.format
      → fault_of periods period machine.fifo head.format ≡ Some end → ⊥
  ring_good machine head end same format faulty =
      let P : Format → Type 0 = λ f. fault_of periods period can.machine.fifo f ≡ None in
      let Q : Machine → Type 0 = λ m. fault_of periods period m.fifo head.format ≡ None in
      let good : fault_of periods period machine.fifo head.format ≡ None = subst Q same (subst P format can.good_ring) in
      let bad : None ≡ Some end = sym good ∙ faulty in cc

  -- whichever way it ends, it is with a run
  play_files : (unasked : List ℕ → Type 0) (gave : ℕ → Type 0) → PlayAnswers kind Here failed emptied unasked gave codec wav name periods period meant → IsRunOf IsOfPlay meant
  play_files unasked gave (AtCodec (inl stop) alone) = absurd (can.codec_given stop.0)
  play_files unasked gave (AtCodec (inr stop) alone) = absurd (codec_unrefused can.files codec stop.0 can.machine can.codec_file stop.1)
  play_files unasked gave (AtPins machine file stop alone) =
      let same : can.machine ≡ machine = one_machine can.files codec machine can.machine file can.codec_file in
      absurd (not_few_and_many kind machine.codecs (subst (λ (m : Machine). AreFewPins kind m.codecs) same can.pins) stop.0)
  play_files unasked gave (AtWav machine file pins (inl stop) alone) = absurd (can.wav_given stop.0)
  play_files unasked gave (AtWav machine file pins (inr stop) alone) = absurd (wav_unrefused can.files wav stop.0 can.head can.wav_file stop.1)
  play_files unasked gave (AtSchedule machine head file pins wav_file (inl stop)) = absurd (can.schedule_given stop.0)
  play_files unasked gave (AtSchedule machine head file pins wav_file (inr stop)) = absurd (schedule_unrefused can.files name stop.0 can.schedule can.schedule_file stop.1)
  play_files unasked gave (AtRing machine head schedule file pins wav_file steps stop) =
      absurd (ring_good machine head stop.0 (one_machine can.files codec machine can.machine file can.codec_file) (one_wav_format can.files wav head can.head wav_file.file can.wav_file) stop.1)
  play_files unasked gave (AtPlans machine head schedule geometry plans file pins wav_file steps ring planned none is) =
      let P : Format → Type 0 = λ f. HavePlansOf kind f can.machine.codecs can.plans in
      let Q : Machine → Type 0 = λ m. HavePlansOf kind head.format m.codecs can.plans in
      let format : can.head.format ≡ head.format = one_wav_format can.files wav head can.head wav_file.file can.wav_file in
      let same : can.machine ≡ machine = one_machine can.files codec machine can.machine file can.codec_file in
      absurd (same_routes kind head.format machine can.plans plans (subst Q same (subst P format can.planned)) planned can.routed none)
  play_files unasked gave (AtRun played run is) =
      let long : IsShortCut played.cut → ⊥ = λ short. never_short kind can.files wav run.head run.machine run.plans run.geometry run.schedule played run.wav_file.file run.run short in
      (played, uncut wav run.head played.read (failed wav) (emptied wav) played.cut played.fault run.cut can.wav_given long, is)

  play_meant : (unasked : List ℕ → Type 0) (gave : ℕ → Type 0) → PlayAnswers kind told failed emptied unasked gave codec wav name periods period meant → IsRunOf IsOfPlay meant
  play_meant unasked gave answers =
      let P : Option Files → Type 0 = λ t. PlayAnswers kind t failed emptied unasked gave codec wav name periods period meant in play_files unasked gave (subst P can.tells answers)

-- ---- `walk`

module _ (told : Option Files) (failed unasked : List ℕ → Type 0) (codec name : List ℕ) (can : CanWalk told failed codec name) (meant : Meant) where
  abbrev HereWalk : Option Files
  HereWalk = Some can.files

  walk_plans : (machine : Machine) (schedule : Schedule) (plans : List Plan) → can.machine ≡ machine → HavePlans walk_format machine.codecs plans
      → PlansWalk machine schedule plans meant → IsRunOf IsOfWalk meant
  walk_plans machine schedule plans same planned (inl none) =
      let Q : Machine → Type 0 = λ m. HavePlans walk_format m.codecs can.plans in
      absurd (same_routes Analog walk_format machine can.plans plans (subst Q same can.planned) planned can.routed none.0)
  walk_plans machine schedule plans same planned (inr (played, routed, walked, is)) = (played, walk_end machine plans schedule played walked, is)

  walk_machine : (machine : Machine) → can.machine ≡ machine → MachineWalks HereWalk failed machine name meant → IsRunOf IsOfWalk meant
  walk_machine machine same (inl (inl stop)) = absurd (can.schedule_given stop.0)
  walk_machine machine same (inl (inr stop)) = absurd (schedule_unrefused can.files name stop.0 can.schedule can.schedule_file stop.1)
  walk_machine machine same (inr (schedule, steps, (plans, planned, walks))) = walk_plans machine schedule plans same planned walks

  walk_files : WalkAnswers HereWalk failed unasked codec name meant → IsRunOf IsOfWalk meant
  walk_files (inl (inl stop, alone)) = absurd (can.codec_given stop.0)
  walk_files (inl (inr stop, alone)) = absurd (codec_unrefused can.files codec stop.0 can.machine can.codec_file stop.1)
  walk_files (inr answers) = walk_machine answers.0 (one_machine can.files codec answers.0 can.machine answers.1 can.codec_file) answers.2

  walk_meant : WalkAnswers told failed unasked codec name meant → IsRunOf IsOfWalk meant
  walk_meant answers = let P : Option Files → Type 0 = λ t. WalkAnswers t failed unasked codec name meant in walk_files (subst P can.tells answers)

-- ---- `route`

-- what is meant has the status of routes
abbrev IsDone : Meant → Type 0
IsDone meant = number_of meant.status ≡ number_of Done

module _ (told : Option Files) (failed : List ℕ → Type 0) (name : List ℕ) (format : Format) (can : CanRoute told failed name format) (meant : Meant) where
  abbrev HereRoute : Option Files
  HereRoute = Some can.files

  route_done : (machine : Machine) (plans : List Plan) → can.machine ≡ machine → HavePlans format machine.codecs plans → (some : Bool) → have_route plans ≡ some
      → meant ≡ (if some then telling Done (plans_lines machine.codecs plans) else unrouted machine.codecs plans) → IsDone meant
  route_done machine plans same planned true routed is = ap (λ (m : Meant). number_of m.status) is
  route_done machine plans same planned false routed is =
      let Q : Machine → Type 0 = λ m. HavePlans format m.codecs can.plans in absurd (same_routes Analog format machine can.plans plans (subst Q same can.planned) planned can.routed routed)

  route_file : RouteAnswers HereRoute failed name format meant → IsDone meant
  route_file (inl (inl stop)) = absurd (can.codec_given stop.0)
  route_file (inl (inr stop)) = absurd (codec_unrefused can.files name stop.0 can.machine can.codec_file stop.1)
  route_file (inr (machine, file, (plans, planned, is))) = route_done machine plans (one_machine can.files name machine can.machine file can.codec_file) planned (have_route plans) refl is

  route_meant : RouteAnswers told failed name format meant → IsDone meant
  route_meant answers = let P : Option Files → Type 0 = λ t. RouteAnswers t failed name format meant in route_file (subst P can.tells answers)

-- ---- the words ask for one thing

-- a format is that of its numbers
same_format : (one other : Format) → hertz other.rate ≡ hertz one.rate → bits_of other.bits ≡ bits_of one.bits → other.channels ≡ one.channels → other ≡ one
same_format one other rates bits channels =
    let rate_is : other.rate ≡ one.rate = hertz-same other.rate one.rate rates in
    let bits_is : other.bits ≡ one.bits = bits_of-same other.bits one.bits bits in
    let first : layout other ≡ record (layout other) { rate = one.rate } = ap (λ (r : Rate). record (layout other) { rate = r }) rate_is in
    let second : record (layout other) { rate = one.rate } ≡ record (layout other) { rate = one.rate; bits = one.bits } = ap (λ (b : Bits). record (layout other) { rate = one.rate; bits = b }) bits_is in
    let third : record (layout other) { rate = one.rate; bits = one.bits } ≡ layout one = ap (λ (n : ℕ). record (layout other) { rate = one.rate; bits = one.bits; channels = n }) channels in
    one_format one other (first ∙ second ∙ third)

route_of_words : (told : Option Files) (failed emptied unasked : List ℕ → Type 0) (gave : ℕ → Type 0) (words : List (List ℕ)) (name : List ℕ) (format : Format) (meant : Meant) → IsRouteOf words name format
    → IsMeant told failed emptied unasked gave words meant → RouteAnswers told failed name format meant
route_of_words told failed emptied unasked gave words name format meant routes (inl refused) =
    let bad : None ≡ Some (route name (hertz format.rate) (bits_of format.bits) format.channels) = sym refused.0 ∙ routes in cc
route_of_words told failed emptied unasked gave words name format meant routes (inr (inl (first, other, asks, answers))) =
    let same : route first (hertz other.rate) (bits_of other.bits) other.channels ≡ route name (hertz format.rate) (bits_of format.bits) format.channels = same_asked words _ _ asks routes in
    let name_is : first ≡ name = cc in
    let rates : hertz other.rate ≡ hertz format.rate = cc in
    let bits : bits_of other.bits ≡ bits_of format.bits = cc in
    let channels : other.channels ≡ format.channels = cc in
    subst (λ (f : Format). RouteAnswers told failed name f meant) (same_format format other rates bits channels) (subst (λ (n : List ℕ). RouteAnswers told failed n other meant) name_is answers)
route_of_words told failed emptied unasked gave words name format meant routes (inr (inr (inl (codec, schedule, asks, answers)))) = absurd (not_route_and_walk words name format codec schedule routes asks)
route_of_words told failed emptied unasked gave words name format meant routes (inr (inr (inr (inr (inl (number, asks, answers)))))) =
    let bad : make number ≡ route name (hertz format.rate) (bits_of format.bits) format.channels = same_asked words _ _ asks routes in cc
route_of_words told failed emptied unasked gave words name format meant routes (inr (inr (inr (inr (inr (codec, wav, schedule, most, units, asks, answers)))))) =
    let bad : capture codec wav schedule most units ≡ route name (hertz format.rate) (bits_of format.bits) format.channels = same_asked words _ _ asks routes in cc
route_of_words told failed emptied unasked gave words name format meant routes (inr (inr (inr (inl (kind, codec, wav, schedule, most, units, asks, answers))))) =
    absurd (not_route_and_sound words name format kind codec wav schedule most units routes asks)

walk_of_words : (told : Option Files) (failed emptied unasked : List ℕ → Type 0) (gave : ℕ → Type 0) (words : List (List ℕ)) (codec name : List ℕ) (meant : Meant) → IsWalkOf words codec name
    → IsMeant told failed emptied unasked gave words meant → WalkAnswers told failed unasked codec name meant
walk_of_words told failed emptied unasked gave words codec name meant walks (inl refused) = let bad : None ≡ Some (walk codec name) = sym refused.0 ∙ walks in cc
walk_of_words told failed emptied unasked gave words codec name meant walks (inr (inl asked)) = absurd (not_route_and_walk words asked.0 asked.1 codec name asked.2 walks)
walk_of_words told failed emptied unasked gave words codec name meant walks (inr (inr (inl (first, second, asks, answers)))) =
    let same : walk first second ≡ walk codec name = same_asked words _ _ asks walks in
    let codec_is : first ≡ codec = cc in
    let name_is : second ≡ name = cc in
    subst (λ (n : List ℕ). WalkAnswers told failed unasked codec n meant) name_is (subst (λ (n : List ℕ). WalkAnswers told failed unasked n second meant) codec_is answers)
walk_of_words told failed emptied unasked gave words codec name meant walks (inr (inr (inr (inr (inl (number, asks, answers)))))) =
    let bad : make number ≡ walk codec name = same_asked words _ _ asks walks in cc
walk_of_words told failed emptied unasked gave words codec name meant walks (inr (inr (inr (inr (inr (first, second, third, most, units, asks, answers)))))) =
    let bad : capture first second third most units ≡ walk codec name = same_asked words _ _ asks walks in cc
walk_of_words told failed emptied unasked gave words codec name meant walks (inr (inr (inr (inl (kind, first, second, third, most, units, asks, answers))))) =
    no_sound kind first second third most units (walk codec name) refl (same_asked words _ _ asks walks)

sound_of_words : (told : Option Files) (failed emptied unasked : List ℕ → Type 0) (gave : ℕ → Type 0) (words : List (List ℕ)) (kind : PinKind) (codec wav name : List ℕ) (periods period : ℕ) (meant : Meant)
    → IsSoundOf kind words codec wav name periods period → IsMeant told failed emptied unasked gave words meant → PlayAnswers kind told failed emptied unasked gave codec wav name periods period meant
sound_of_words told failed emptied unasked gave words kind codec wav name periods period meant plays (inl refused) =
    let bad : None ≡ Some (sound_asked kind codec wav name periods period) = sym refused.0 ∙ plays in cc
sound_of_words told failed emptied unasked gave words kind codec wav name periods period meant plays (inr (inl asked)) =
    absurd (not_route_and_sound words asked.0 asked.1 kind codec wav name periods period asked.2 plays)
sound_of_words told failed emptied unasked gave words kind codec wav name periods period meant plays (inr (inr (inl (first, second, asks, answers)))) =
    no_sound kind codec wav name periods period (walk first second) refl (same_asked words _ _ plays asks)
sound_of_words told failed emptied unasked gave words kind codec wav name periods period meant plays (inr (inr (inr (inr (inl (number, asks, answers)))))) =
    no_sound kind codec wav name periods period (make number) refl (same_asked words _ _ plays asks)
sound_of_words told failed emptied unasked gave words kind codec wav name periods period meant plays (inr (inr (inr (inr (inr (first, second, third, most, units, asks, answers)))))) =
    no_sound kind codec wav name periods period (capture first second third most units) refl (same_asked words _ _ plays asks)
sound_of_words told failed emptied unasked gave words kind codec wav name periods period meant plays (inr (inr (inr (inl (other, first, second, third, most, units, asks, answers))))) =
    same_sound (λ k c w n p q. PlayAnswers k told failed emptied unasked gave c w n p q meant) other kind first second third codec wav name most units periods period (same_asked words _ _ asks plays) answers

-- ---- the end

module _ (before after : Option (List ℕ)) (sink_failed : Type 0) (given : Option Played) (kept : Option Captured) (status : ℕ) (sink_good : sink_failed → ⊥) where
  written_run : (IsOf : ℕ → Type 0) (meant : Meant) → IsRunOf IsOf meant → HasWritten before after sink_failed meant status → IsOf status ⊎ (status ≡ number_of OutOfMemory)
  written_run IsOf meant (played, ends, is) (inl whole) =
      let number : number_of (status_of played) ≡ status = sym (whole.0 ∙ ap (λ (m : Meant). number_of m.status) is) in inl (subst IsOf number ends)
  written_run IsOf meant run (inr (inl sink)) = absurd (sink_good sink.1)
  written_run IsOf meant run (inr (inr memory)) = inr memory.0

  ended_run : (CanMean : Meant → Type 0) (IsOf : ℕ → Type 0) → ((meant : Meant) → CanMean meant → IsRunOf IsOf meant)
      → HasEndedWith CanMean before after sink_failed given kept status → IsOf status ⊎ (status ≡ number_of OutOfMemory)
  ended_run CanMean IsOf run (inl answered) = written_run IsOf answered.meant (run answered.meant answered.is) answered.written
  ended_run CanMean IsOf run (inr memory) = inr memory.0

  written_done : (meant : Meant) → IsDone meant → HasWritten before after sink_failed meant status → HasRoutes status
  written_done meant is (inl whole) = inl (whole.0 ∙ is)
  written_done meant is (inr (inl sink)) = absurd (sink_good sink.1)
  written_done meant is (inr (inr memory)) = inr memory.0

  module _ (told : Option Files) (failed emptied unasked : List ℕ → Type 0) (gave : ℕ → Type 0) where
    pub route_complete : (words : List (List ℕ)) (name : List ℕ) (format : Format) → IsRouteOf words name format → CanRoute told failed name format
        → HasEnded told failed emptied unasked gave words before after sink_failed given kept status → HasRoutes status
    route_complete words name format routes can (inl answered) =
        written_done answered.meant (route_meant told failed name format can answered.meant (route_of_words told failed emptied unasked gave words name format answered.meant routes answered.is)) answered.written
    route_complete words name format routes can (inr memory) = inr memory.0

    pub files_complete : (kind : PinKind) (codec wav name : List ℕ) (periods period : ℕ) → CanPlay kind told failed codec wav name periods period
        → HasEndedPlay kind told failed emptied unasked gave codec wav name periods period before after sink_failed given kept status → HasPlayedOn status
    files_complete kind codec wav name periods period can ended =
        ended_run (PlayAnswers kind told failed emptied unasked gave codec wav name periods period) IsOfPlay (λ meant is. play_meant kind told failed emptied codec wav name periods period can meant unasked gave is) ended

    pub sound_complete : (words : List (List ℕ)) (kind : PinKind) (codec wav name : List ℕ) (periods period : ℕ) → IsSoundOf kind words codec wav name periods period
        → CanPlay kind told failed codec wav name periods period → HasEnded told failed emptied unasked gave words before after sink_failed given kept status → HasPlayedOn status
    sound_complete words kind codec wav name periods period plays can ended =
        ended_run (IsMeant told failed emptied unasked gave words) IsOfPlay
        (λ meant is. play_meant kind told failed emptied codec wav name periods period can meant unasked gave (sound_of_words told failed emptied unasked gave words kind codec wav name periods period meant plays is)) ended

    pub walk_complete : (words : List (List ℕ)) (codec name : List ℕ) → IsWalkOf words codec name → CanWalk told failed codec name
        → HasEnded told failed emptied unasked gave words before after sink_failed given kept status → HasWalkedOn status
    walk_complete words codec name walks can ended =
        ended_run (IsMeant told failed emptied unasked gave words) IsOfWalk (λ meant is. walk_meant told failed unasked codec name can meant (walk_of_words told failed emptied unasked gave words codec name meant walks is)) ended

-- ---- and its run is given

module _ (before after : Option (List ℕ)) (sink_failed : Type 0) (given : Option Played) (kept : Option Captured) (status : ℕ) (enough : status ≢ number_of OutOfMemory) where
  given_run : (CanMean : Meant → Type 0) (IsOf : ℕ → Type 0) → ((meant : Meant) → CanMean meant → IsRunOf IsOf meant) → HasEndedWith CanMean before after sink_failed given kept status → IsSome given
  given_run CanMean IsOf run (inl answered) =
      let one = run answered.meant answered.is in
      let play : given ≡ Some one.0 = answered.given ∙ ap (λ (m : Meant). m.play) one.2 in
      subst (λ (found : Option Played). IsSome found) (sym play) refl
  given_run CanMean IsOf run (inr memory) = absurd (enough memory.0)

  module _ (told : Option Files) (failed emptied unasked : List ℕ → Type 0) (gave : ℕ → Type 0) where
    pub files_given : (kind : PinKind) (codec wav name : List ℕ) (periods period : ℕ) → CanPlay kind told failed codec wav name periods period
        → HasEndedPlay kind told failed emptied unasked gave codec wav name periods period before after sink_failed given kept status → IsSome given
    files_given kind codec wav name periods period can ended =
        given_run (PlayAnswers kind told failed emptied unasked gave codec wav name periods period) IsOfPlay (λ meant is. play_meant kind told failed emptied codec wav name periods period can meant unasked gave is) ended

    pub sound_given : (words : List (List ℕ)) (kind : PinKind) (codec wav name : List ℕ) (periods period : ℕ) → IsSoundOf kind words codec wav name periods period
        → CanPlay kind told failed codec wav name periods period → HasEnded told failed emptied unasked gave words before after sink_failed given kept status → IsSome given
    sound_given words kind codec wav name periods period plays can ended =
        given_run (IsMeant told failed emptied unasked gave words) IsOfPlay
        (λ meant is. play_meant kind told failed emptied codec wav name periods period can meant unasked gave (sound_of_words told failed emptied unasked gave words kind codec wav name periods period meant plays is)) ended

    pub walk_given : (words : List (List ℕ)) (codec name : List ℕ) → IsWalkOf words codec name → CanWalk told failed codec name
        → HasEnded told failed emptied unasked gave words before after sink_failed given kept status → IsSome given
    walk_given words codec name walks can ended =
        given_run (IsMeant told failed emptied unasked gave words) IsOfWalk (λ meant is. walk_meant told failed unasked codec name can meant (walk_of_words told failed emptied unasked gave words codec name meant walks is)) ended
