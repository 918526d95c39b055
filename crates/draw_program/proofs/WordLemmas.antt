-- Words that ask for a picture.
use Rattle.std.proofs.Common.{◌≡◌, ℕ, Bool, true, false, List, [], ◌∷◌, Option, Some, None, codes, inl, inr}
use Rattle.std.specs.Prelude.{option_and_then, if◌then◌else◌}
use Rattle.std.specs.Str.{bytes_eq}
use Rattle.hda_outside.specs.Shelf.{Files}
use Rattle.program_words.specs.Asked.{Asked, asked_by, asked_of, capture, make, play, request_of, route, spdif, walk}
use Rattle.program_words.specs.Commands.{play_grammar, route_grammar}
use Rattle.program_words.specs.Lines.{CommandLine, command_line_of}
use Rattle.program_words.specs.declared.request.Request.{Request}
use Rattle.program_words.specs.declared.request.Request.TheVariants as request
use Rattle.program_words.specs.declared.table.CommandName.TheVariants.{Play, Route}
use Rattle.hda_program.specs.Meanings.{Meant}
use Rattle.draw_program.specs.Drawn.{IsDrawn, IsForPicture, RequestDrawn}
use Rattle.draw_program.specs.Words.{behind, played_words}

-- a line of `route` or of `play` asks for a picture
route_draws : (line : Option CommandLine) (asked : Asked) → option_and_then (asked_of Route) line ≡ Some asked → IsForPicture asked
route_draws line (route codec rate bits channels) e = tt
route_draws line (play codec wav schedule periods period) e = tt
route_draws None (walk codec schedule) e = let bad : None ≡ Some (walk codec schedule) = e in cc
route_draws (Some line) (walk codec schedule) e = cc
route_draws None (make number) e = let bad : None ≡ Some (make number) = e in cc
route_draws (Some line) (make number) e = cc
route_draws None (spdif codec wav schedule periods period) e = let bad : None ≡ Some (spdif codec wav schedule periods period) = e in cc
route_draws (Some line) (spdif codec wav schedule periods period) e = cc
route_draws None (capture codec wav schedule periods period) e = let bad : None ≡ Some (capture codec wav schedule periods period) = e in cc
route_draws (Some line) (capture codec wav schedule periods period) e = cc

play_draws : (line : Option CommandLine) (asked : Asked) → option_and_then (asked_of Play) line ≡ Some asked → IsForPicture asked
play_draws line (route codec rate bits channels) e = tt
play_draws line (play codec wav schedule periods period) e = tt
play_draws None (walk codec schedule) e = let bad : None ≡ Some (walk codec schedule) = e in cc
play_draws (Some line) (walk codec schedule) e = cc
play_draws None (make number) e = let bad : None ≡ Some (make number) = e in cc
play_draws (Some line) (make number) e = cc
play_draws None (spdif codec wav schedule periods period) e = let bad : None ≡ Some (spdif codec wav schedule periods period) = e in cc
play_draws (Some line) (spdif codec wav schedule periods period) e = cc
play_draws None (capture codec wav schedule periods period) e = let bad : None ≡ Some (capture codec wav schedule periods period) = e in cc
play_draws (Some line) (capture codec wav schedule periods period) e = cc

nothing_asked : (asked : Asked) → None ≡ Some asked → ⊥
nothing_asked asked e = cc

behind_draws : (codec run : Bool) (rest : List (List ℕ)) (asked : Asked)
    → request_of (behind (if codec then Some (codes "route") else (if run then Some (codes "play") else None)) rest) ≡ Some asked → IsForPicture asked
behind_draws true run rest asked e = route_draws (command_line_of route_grammar rest) asked e
behind_draws false true rest asked e = play_draws (command_line_of play_grammar rest) asked e
behind_draws false false rest asked e = absurd (nothing_asked asked e)

-- words that ask for something ask for a picture
pub played_draws : (words : List (List ℕ)) (asked : Asked) → request_of (played_words words) ≡ Some asked → IsForPicture asked
played_draws [] asked e = absurd (nothing_asked asked e)
played_draws (word ∷ rest) asked e = behind_draws (bytes_eq word (codes "codec")) (bytes_eq word (codes "run")) rest asked e

-- what is drawn for a request of the words is drawn for them
pub request_drawn : (told : Option Files) (failed emptied unasked : List ℕ → Type 0) (gave : ℕ → Type 0) (words : List (List ℕ)) (asked : Request) (meant : Meant)
    → request_of (played_words words) ≡ Some (asked_by asked) → RequestDrawn told failed emptied unasked gave asked meant → IsDrawn told failed emptied unasked gave words meant
request_drawn told failed emptied unasked gave words (request.Route codec format) meant is drawn = inr (inl (codec.now, format, is, drawn))
request_drawn told failed emptied unasked gave words (request.Walk codec schedule) meant is drawn = absurd drawn
request_drawn told failed emptied unasked gave words (request.Play codec wav schedule periods period) meant is drawn =
    inr (inr (codec.now, wav.now, schedule.now, periods, period, is, drawn))
request_drawn told failed emptied unasked gave words (request.Make number) meant is drawn = absurd drawn
request_drawn told failed emptied unasked gave words (request.Spdif codec wav schedule periods period) meant is drawn = absurd drawn
request_drawn told failed emptied unasked gave words (request.Capture codec wav schedule periods period) meant is drawn = absurd drawn
