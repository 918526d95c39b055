use Rattle.std.proofs.Common.{◌≡◌, ◌++◌, map, drop}
use Rattle.jack_rules.specs.JackPins.{speakers_among}
use Rattle.jack_rules.specs.Switching.{pin_of, speaker_opened, SpeakersReach}
use Rattle.jack_rules.proofs.opening.open_speakers.Given as goal

abbrev pub invariant-loop-place : goal.invariant-loop-place
invariant-loop-place l =
    (l.speakers.items ++ map speaker_opened (speakers_among (map pin_of l.jacks) (drop l.place l.graphs) (drop l.place l.plans))
    ≡ map speaker_opened (speakers_among (map pin_of l.jacks) l.graphs l.plans))
    × SpeakersReach l.speakers.items
