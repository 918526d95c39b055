use Rattle.hda_world.specs.Worlds.{World}
use Rattle.hda_world.specs.Events.{Event, Stepped, Begin, End, Read, Write, DmaRead, DmaWrite, IsNoStep, happens}
use Rattle.hda_world.specs.Streaming.{HoldsTaken}
use Rattle.hda_world.proofs.TakenWrites.{write_keeps_taken}
use Rattle.hda_world.proofs.input_laws.accesses_keep_taken.Goals as goal

kept : (event : Event) (world : World) → IsNoStep event → HoldsTaken world → HoldsTaken (happens world event)
kept (Stepped step) world none holds = absurd none
kept Begin world none holds = holds
kept End world none holds = holds
kept (Read at width value) world none holds = holds
kept (Write at width value) world none holds = write_keeps_taken world at value width holds
kept (DmaRead at bytes) world none holds = holds
kept (DmaWrite at bytes) world none holds = holds

pub returns : goal.returns
returns c = kept
