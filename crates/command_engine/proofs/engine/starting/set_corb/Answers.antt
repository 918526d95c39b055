use Rattle.hda_world.proofs.Callers.{rows}
use Rattle.std.proofs.Common.{rules}
use Rattle.command_engine.proofs.engine.starting.set_corb.Goals as goal

pub returns-clause-made : goal.returns-clause-made
returns-clause-made g c = record { pointer_reset = c.read-reset.result; pointer_ready = c.read-ready.result; made = search (rules, rows) depth 20 }
