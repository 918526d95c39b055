-- How the fields of a switching are seen. This project's own.
use Rattle.jack_rules.specs.declared.switching.Switching.TheInside.{Inside}
use Rattle.jack_rules.specs.Switching.{SwitchingState, AreInReach}

abbrev pub state_inside : Inside → SwitchingState
state_inside switching =
    record { jacks = switching.jacks.items; speakers = switching.speakers.items; asking = switching.asking }

abbrev pub IsInside : Inside → Type 0
IsInside switching = AreInReach (state_inside switching)
