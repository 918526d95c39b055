-- What phases of a driver are like. This project's own.
use Rattle.std.specs.Prelude.{Bool, true, false, ◌&&◌, ◌||◌, not}
use Rattle.driver_progress.specs.declared.phase.Phase.{Phase}
use Rattle.driver_progress.specs.declared.phase.Phase.TheVariants.{Reset, Settling, Walking, SettingUp, Ready, Playing}
use Rattle.driver_progress.specs.declared.phase.Phase.TheVariants.{Drained, NothingRouted, Unanswered, Late, Malformed}
use Rattle.driver_progress.specs.declared.phase.Phase.TheVariants.{Failed}

-- ---- the groups of phases

pub data PhaseGroup : Type 0 where
  -- no command was sent yet
  BeforeWalk : PhaseGroup
  -- commands are sent: the codecs are walked and set up
  Asking : PhaseGroup
  -- all codecs are set up, and no sound was played yet
  BeforeSound : PhaseGroup
  -- the stream runs
  Sounding : PhaseGroup
  -- nothing is left to do
  Over : PhaseGroup

-- each phase is in one of them
abbrev pub group_of : Phase → PhaseGroup
group_of Reset = BeforeWalk
group_of Settling = BeforeWalk
group_of Walking = Asking
group_of SettingUp = Asking
group_of Ready = BeforeSound
group_of Playing = Sounding
group_of Drained = Over
group_of NothingRouted = Over
group_of (Unanswered codec command issued noticed) = Over
group_of (Late from to limit) = Over
group_of (Malformed codec fault) = Over
group_of Failed = Over

abbrev pub precedes_walk : PhaseGroup → Bool
precedes_walk BeforeWalk = true
precedes_walk group = false

abbrev pub sends_commands : PhaseGroup → Bool
sends_commands Asking = true
sends_commands group = false

abbrev pub acts : PhaseGroup → Bool
acts Over = false
acts group = true

-- whether no command was sent yet
abbrev pub is_before_walk : Phase → Bool
is_before_walk phase = precedes_walk (group_of phase)

-- whether commands are sent in a phase
abbrev pub is_asking : Phase → Bool
is_asking phase = sends_commands (group_of phase)

-- whether anything is done in a phase
abbrev pub is_active : Phase → Bool
is_active phase = acts (group_of phase)

-- ---- single phases

-- whether nothing was done yet
abbrev pub is_reset : Phase → Bool
is_reset Reset = true
is_reset phase = false

-- whether the codecs announce themselves
abbrev pub is_settling : Phase → Bool
is_settling Settling = true
is_settling phase = false

-- whether all codecs are set up, and no sound was played yet
abbrev pub is_ready : Phase → Bool
is_ready Ready = true
is_ready phase = false

-- ---- several of them

-- whether commands are left to send, or an answer to come
abbrev pub has_commands_left : Phase → Bool
has_commands_left phase = is_before_walk phase || is_asking phase

-- whether an answer leads on in a phase that it led to
abbrev pub goes_on : Phase → Bool
goes_on phase = is_asking phase || is_ready phase

-- whether an answer can lead to a phase: to more commands, to none, or to an end
abbrev pub can_follow : Phase → Bool
can_follow NothingRouted = true
can_follow (Malformed codec fault) = true
can_follow phase = goes_on phase

-- whether no sound was played yet, and none was given up
abbrev pub is_early : Phase → Bool
is_early Playing = false
is_early Drained = false
is_early (Late from to limit) = false
is_early phase = true

-- whether all codecs are set up in a phase: sound may be played from then on
abbrev pub are_set_up : Phase → Bool
are_set_up phase = is_ready phase || not (is_early phase)

-- whether all codecs were walked
abbrev pub walked_all : Phase → Bool
walked_all SettingUp = true
walked_all phase = are_set_up phase

-- whether sound may be played at the next call
abbrev pub may_play : Phase → Bool
may_play phase = are_set_up phase && is_active phase
