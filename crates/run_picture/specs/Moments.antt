-- The moments of a journal at which the output stream runs: after each link frame, and after each other entry. This
-- project's own.
use Rattle.std.specs.Prelude.{ℕ, zero, suc, List, [], ◌∷◌, ◌++◌, if◌then◌else◌}
use Rattle.stream_format.specs.declared.format.Format.{Format}
use Rattle.world_steps.specs.declared.Step.{Step}
use Rattle.world_steps.specs.declared.Step.TheVariants as step
use Rattle.hda_world.specs.declared.entry.Entry.{Entry}
use Rattle.hda_world.specs.declared.entry.Entry.TheVariants as entry
use Rattle.run_picture.specs.declared.meter.Meter.{Meter}
use Rattle.run_picture.specs.Meters.{meter_opened, passed, waited, told}

-- so many link frames of the running stream passed, and where it stood after each of them
abbrev pub frames_passed : Format → ℕ → Meter → Meter
frames_passed format zero m = m
frames_passed format (suc n) m = frames_passed format n (passed format m)

abbrev pub frame_moments : Format → ℕ → Meter → List Meter
frame_moments format zero m = []
frame_moments format (suc n) m = passed format m ∷ frame_moments format n (passed format m)

-- so many link frames passed, and the moments among them
abbrev pub linked : Format → (frames : ℕ) → Meter → Meter
linked format frames m = if m.running then frames_passed format frames m else waited frames m

abbrev pub link_moments : Format → (frames : ℕ) → Meter → List Meter
link_moments format frames m = if m.running then frame_moments format frames m else []

-- where the stream stands, if it runs
abbrev pub moment_of : Meter → List Meter
moment_of m = if m.running then m ∷ [] else []

-- after a step
abbrev pub after_step : Format → (fifo : ℕ) → Step → Meter → Meter
after_step format fifo (step.Link frames) m = linked format frames m
after_step format fifo (step.Fetch stream most) m = told fifo (entry.Step (step.Fetch stream most)) m
after_step format fifo step.Corb m = m
after_step format fifo (step.Answer codec) m = m
after_step format fifo (step.Lose codec) m = m
after_step format fifo step.Rirb m = m
after_step format fifo (step.Plug codec nid) m = m
after_step format fifo (step.Unplug codec nid) m = m

abbrev pub step_moments : Format → (fifo : ℕ) → Step → Meter → List Meter
step_moments format fifo (step.Link frames) m = link_moments format frames m
step_moments format fifo (step.Fetch stream most) m = moment_of (told fifo (entry.Step (step.Fetch stream most)) m)
step_moments format fifo step.Corb m = moment_of m
step_moments format fifo (step.Answer codec) m = moment_of m
step_moments format fifo (step.Lose codec) m = moment_of m
step_moments format fifo step.Rirb m = moment_of m
step_moments format fifo (step.Plug codec nid) m = moment_of m
step_moments format fifo (step.Unplug codec nid) m = moment_of m

-- after an entry, and the moments of it
abbrev pub after_entry : Format → (fifo : ℕ) → Entry → Meter → Meter
after_entry format fifo (entry.Step step) m = after_step format fifo step m
after_entry format fifo (entry.Write at width value) m = told fifo (entry.Write at width value) m
after_entry format fifo (entry.Read at width value) m = told fifo (entry.Read at width value) m
after_entry format fifo entry.Begin m = m
after_entry format fifo entry.End m = m
after_entry format fifo (entry.DmaRead number) m = m
after_entry format fifo (entry.DmaWrite number) m = m

abbrev pub entry_moments : Format → (fifo : ℕ) → Entry → Meter → List Meter
entry_moments format fifo (entry.Step step) m = step_moments format fifo step m
entry_moments format fifo (entry.Write at width value) m = moment_of (told fifo (entry.Write at width value) m)
entry_moments format fifo (entry.Read at width value) m = moment_of (told fifo (entry.Read at width value) m)
entry_moments format fifo entry.Begin m = moment_of m
entry_moments format fifo entry.End m = moment_of m
entry_moments format fifo (entry.DmaRead number) m = moment_of m
entry_moments format fifo (entry.DmaWrite number) m = moment_of m

-- the moments of entries from a place on, and where the stream stands after them
abbrev pub moments_from : Format → (fifo : ℕ) → List Entry → Meter → List Meter
moments_from format fifo [] m = []
moments_from format fifo (entry ∷ entries) m =
    entry_moments format fifo entry m ++ moments_from format fifo entries (after_entry format fifo entry m)

abbrev pub meter_from : Format → (fifo : ℕ) → List Entry → Meter → Meter
meter_from format fifo [] m = m
meter_from format fifo (entry ∷ entries) m = meter_from format fifo entries (after_entry format fifo entry m)

-- the moments of a journal, of a stream of this format with a FIFO of so many bytes, and where the stream stands at its
-- end
abbrev pub moments : Format → (fifo : ℕ) → List Entry → List Meter
moments format fifo entries = moments_from format fifo entries meter_opened

abbrev pub meter_after : Format → (fifo : ℕ) → List Entry → Meter
meter_after format fifo entries = meter_from format fifo entries meter_opened
