use Rattle.std.proofs.Common.{◌≡◌, ℕ, ◌<◌, None}
use Rattle.hda_files.specs.ListFaults.{list_fault_at}
use Rattle.hda_files.proofs.list_faults.first_list_fault.Given as goal

abbrev pub invariant-loop-nid : goal.invariant-loop-nid
invariant-loop-nid l = (lesser : ℕ) → lesser < l.nid → list_fault_at l.nodes lesser ≡ None
