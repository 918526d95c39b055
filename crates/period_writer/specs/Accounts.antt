-- What a run takes of a supply, and how much of it is recorded. This project's own.
use Rattle.std.specs.Prelude.{◌≡◌, ◌≤◌, ℕ, ◌+◌, ◌%◌, length}
use Rattle.wav_reader.specs.Supplies.{Supplied}
use Rattle.period_writer.specs.declared.course.Course.{Course}
use Rattle.period_writer.specs.declared.course.Ran.{Ran}
use Rattle.period_writer.specs.declared.course.Ran.TheVariants.{Playing, Drained, Late}
use Rattle.period_writer.specs.Runs.{Measures}

-- the most bytes of sound that were taken and not recorded, by how the last run ended: a late one may have taken as
-- many as the ring has
abbrev pub unrecorded : (ring : ℕ) → Ran → ℕ
unrecorded ring Playing = 0
unrecorded ring Drained = 0
unrecorded ring (Late from to limit) = ring

-- whole blocks are taken, so that whole blocks are held, left and taken where they were before, and all that is taken
-- is recorded as used, but by a late run
pub record Accounts (m : Measures) (old new : Supplied) (before after : Course) : Type 0 where
  pub blocks : length old.held % m.block ≡ 0 → length new.held % m.block ≡ 0
  pub left_blocks : old.left % m.block ≡ 0 → new.left % m.block ≡ 0
  pub taken_blocks : old.taken % m.block ≡ 0 → new.taken % m.block ≡ 0
  pub used : new.taken + (before.used + unrecorded m.ring before.ran) ≤ old.taken + (after.used + unrecorded m.ring
      after.ran)
  pub grows : before.used ≤ after.used
