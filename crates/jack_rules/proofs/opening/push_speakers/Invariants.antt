use Rattle.std.proofs.Common.{◌≡◌, ◌++◌, map, drop}
use Rattle.jack_rules.specs.JackPins.{speakers_from}
use Rattle.jack_rules.specs.Switching.{pin_of, speaker_opened}
use Rattle.jack_rules.proofs.opening.push_speakers.Given as goal

abbrev pub invariant-loop-entry : goal.invariant-loop-entry
invariant-loop-entry l =
    l.speakers.items ++ map speaker_opened (speakers_from (map pin_of l.jacks) l.codec (drop l.entry-index l.entries))
    ≡ l.initial.speakers.items ++ map speaker_opened (speakers_from (map pin_of l.jacks) l.codec l.entries)
