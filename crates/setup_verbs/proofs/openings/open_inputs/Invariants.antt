use Rattle.std.proofs.Common.{◌≡◌, ◌++◌, map}
use Rattle.std.specs.List.{range_with_len}
use Rattle.setup_verbs.specs.VerbList.{commands_to, mixer_input}
use Rattle.setup_verbs.proofs.openings.open_inputs.Given as goal

abbrev pub invariant-loop-place : goal.invariant-loop-place
invariant-loop-place l =
    l.commands.items ≡ l.initial.commands.items ++ commands_to l.codec l.nid (map (mixer_input l.codec l.node l.index) (range_with_len 0 l.place))
