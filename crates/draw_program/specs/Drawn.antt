-- What `hda_draw` writes, and how it ends: its refusals and statuses are those of `hda_play` with the same words, and
-- the text is the picture of the codecs or of the run. This project's own.
use Rattle.std.specs.Prelude.{◌≡◌, ◌⊎◌, ℕ, List, Option, Some, None, if◌then◌else◌}
use Rattle.stream_format.specs.declared.format.Format.{Format}
use Rattle.codec_graph.specs.declared.pin_kind.PinKind.TheVariants.{Analog}
use Rattle.route_planner.specs.declared.routes.Plan.{Plan}
use Rattle.hda_files.specs.declared.machine.CodecFile.{CodecFile}
use Rattle.hda_files.specs.declared.machine.Machine.{Machine}
use Rattle.hda_outside.specs.Shelf.{Files}
use Rattle.program_words.specs.Asked.{Asked, route, walk, play, make, spdif, capture}
use Rattle.program_words.specs.declared.request.Request.{Request}
use Rattle.program_words.specs.declared.request.Request.TheVariants as request
use Rattle.driver_agenda.specs.Planned.{have_route}
use Rattle.laws_start.specs.Tasks.{HavePlans}
use Rattle.capture_report.specs.declared.captured.Captured.{Captured}
use Rattle.sound_report.specs.declared.played.Played.{Played}
use Rattle.sound_report.specs.declared.status.Status.{Status}
use Rattle.sound_report.specs.declared.status.Status.TheVariants.{Done, NothingRouted, WordsRefused}
use Rattle.svg_text.specs.declared.shapes.Picture.{Picture}
use Rattle.svg_text.specs.Pictures.{picture_text}
use Rattle.codec_picture.specs.Wholes.{codec_picture}
use Rattle.run_picture.specs.Pictures.{IsPictureOf}
use Rattle.hda_program.specs.Answers.{HasEndedWith, PlayAnswers}
use Rattle.hda_program.specs.Asks.{IsNoCommand, IsPlayOf, IsRouteOf}
use Rattle.hda_program.specs.Files.{CodecStops, IsMachineOf}
use Rattle.hda_program.specs.Meanings.{Meant, message_meant, run_meant, telling}
use Rattle.hda_program.specs.Promises.{HasWalkedOrPlayed}
use Rattle.draw_program.specs.declared.answer.Drawing.{Drawing}
use Rattle.draw_program.specs.declared.answer.Drawing.TheVariants as drawing
use Rattle.draw_program.specs.Words.{played_words, usage_line}

-- what a drawing comes to: a text, or a picture's with the status for it, of a run with that of its end
abbrev pub drawing_meant : Drawing → Meant
drawing_meant (drawing.Message message) = message_meant message
drawing_meant (drawing.Codecs status picture) = telling status (picture_text picture)
drawing_meant (drawing.Run played picture) = run_meant played (picture_text picture)

-- ---- codecs

-- the status of plans: whether some pin has a route
abbrev pub status_for : List Plan → Status
status_for plans = if have_route plans then Done else NothingRouted

-- the picture of codecs with these plans
abbrev pub codecs_drawn : List CodecFile → List Plan → Meant
codecs_drawn codecs plans = telling (status_for plans) (picture_text (codec_picture codecs plans))

abbrev pub MachineDrawn : Format → Machine → Meant → Type 0
MachineDrawn format machine meant =
    (plans : List Plan) × HavePlans format machine.codecs plans × (meant ≡ codecs_drawn machine.codecs plans)

-- it ends at the codec file, or with the picture of the machine that this reads as
abbrev pub CodecDrawn : Option Files → (List ℕ → Type 0) → List ℕ → Format → Meant → Type 0
CodecDrawn told failed name format meant =
    CodecStops told failed name meant
    ⊎ ((machine : Machine) × IsMachineOf told name machine × MachineDrawn format machine meant)

-- ---- runs

-- a run with its picture
abbrev pub IsRunDrawn : Played → Meant → Type 0
IsRunDrawn played meant =
    (picture : Picture) × IsPictureOf played picture × (meant ≡ run_meant played (picture_text picture))

-- the run of an answer with its picture in place of its report. Where there is no run the text stays
abbrev pub IsDrawnFor : Option Played → (answer meant : Meant) → Type 0
IsDrawnFor None answer meant = meant ≡ answer
IsDrawnFor (Some played) answer meant = IsRunDrawn played meant

abbrev pub IsDrawnOf : (answer meant : Meant) → Type 0
IsDrawnOf answer meant = IsDrawnFor answer.play answer meant

-- what `hda_play` answers to `play` with these names and numbers, drawn
pub record PlayDrawn (told : Option Files) (failed emptied unasked : List ℕ → Type 0) (gave : ℕ → Type 0)
    (codec wav schedule : List ℕ) (periods period : ℕ) (meant : Meant) : Type 0 where
  pub answer : Meant
  pub answers : PlayAnswers Analog told failed emptied unasked gave codec wav schedule periods period answer
  pub drawn : IsDrawnOf answer meant

-- ---- all words

-- what is asked is a picture: routes, or a sound through analog pins
abbrev pub IsForPicture : Asked → Type 0
IsForPicture (route codec rate bits channels) = Unit {0}
IsForPicture (walk codec schedule) = ⊥
IsForPicture (play codec wav schedule periods period) = Unit {0}
IsForPicture (make number) = ⊥
IsForPicture (spdif codec wav schedule periods period) = ⊥
IsForPicture (capture codec wav schedule periods period) = ⊥

abbrev pub RequestDrawn : Option Files → (failed emptied unasked : List ℕ → Type 0) → (gave : ℕ → Type 0) → Request
    → Meant → Type 0
RequestDrawn told failed emptied unasked gave (request.Route codec format) meant =
    CodecDrawn told failed codec.now format meant
RequestDrawn told failed emptied unasked gave (request.Walk codec schedule) meant = ⊥
RequestDrawn told failed emptied unasked gave (request.Play codec wav schedule periods period) meant =
    PlayDrawn told failed emptied unasked gave codec.now wav.now schedule.now periods period meant
RequestDrawn told failed emptied unasked gave (request.Make number) meant = ⊥
RequestDrawn told failed emptied unasked gave (request.Spdif codec wav schedule periods period) meant = ⊥
RequestDrawn told failed emptied unasked gave (request.Capture codec wav schedule periods period) meant = ⊥

-- what is drawn: the usage line where the words ask for no picture, the codecs of a file, or a run
abbrev pub IsDrawn : Option Files → (failed emptied unasked : List ℕ → Type 0) → (gave : ℕ → Type 0)
    → List (List ℕ) → Meant → Type 0
IsDrawn told failed emptied unasked gave words meant =
    (IsNoCommand (played_words words) × (meant ≡ telling WordsRefused usage_line))
    ⊎ (((name : List ℕ) × (format : Format) × IsRouteOf (played_words words) name format
    × CodecDrawn told failed name format meant)
    ⊎ ((codec : List ℕ) × (wav : List ℕ) × (schedule : List ℕ) × (periods : ℕ) × (period : ℕ)
    × IsPlayOf (played_words words) codec wav schedule periods period
    × PlayDrawn told failed emptied unasked gave codec wav schedule periods period meant))

-- the program has ended so
abbrev pub HasEndedDrawing : Option Files → (failed emptied unasked : List ℕ → Type 0) → (gave : ℕ → Type 0)
    → (words : List (List ℕ)) → (before after : Option (List ℕ)) → (sink_failed : Type 0) → Option Played
    → Option Captured → (status : ℕ) → Type 0
HasEndedDrawing told failed emptied unasked gave words before after sink_failed given kept status =
    HasEndedWith (IsDrawn told failed emptied unasked gave words) before after sink_failed given kept status

-- the run is the one that `hda_play` makes of the same words, with what is promised there, and the text is its picture
pub record IsRunPictured (told : Option Files) (failed emptied : List ℕ → Type 0) (gave : ℕ → Type 0)
    (words : List (List ℕ)) (played : Played) (text : List ℕ) : Type 0 where
  pub run : HasWalkedOrPlayed told failed emptied gave (played_words words) played
  pub picture : Picture
  pub drawn : IsPictureOf played picture
  pub text_is : text ≡ picture_text picture
