-- Words that tell a fault, or that no pin has a route, lead just there.
use Rattle.std.proofs.Common.{◌≡◌, ℕ, List, [], ◌++◌, inl, inr, refl, sym, ap, subst, ◌∙◌, append-nil}
use Rattle.codec_graph.specs.declared.raw.RawCodec.{RawCodec}
use Rattle.codec_walk.specs.declared.fault.WalkFault.{WalkFault}
use Rattle.route_planner.specs.declared.routes.Plan.{Plan}
use Rattle.route_setup.specs.Means.{Means}
use Rattle.driver_agenda.specs.declared.agenda.Agenda.{Agenda}
use Rattle.driver_agenda.specs.AnswerWords.{WasAnswered, AllWalked, AreFaulty, AreUnrouted}
use Rattle.driver_progress.specs.declared.phase.Phase.{Phase}
use Rattle.driver_progress.specs.declared.phase.Phase.TheVariants.{Reset, Settling, Walking, SettingUp, Ready, Playing, Drained, NothingRouted, Unanswered, Late, Malformed, Failed}
use Rattle.driver_bring_up.specs.AnsweredWords.{IsUnasked, WereAnsweredIn, EndsFaulty, EndsUnrouted}

-- ---- what words come to, by the law

abbrev pub OneFaulty : Type 0
OneFaulty = (addresses words : List ℕ) (one other : List RawCodec) (codec codec' : ℕ) (fault fault' : WalkFault) → AreFaulty addresses words one codec fault
    → AreFaulty addresses words other codec' fault' → (one ≡ other) × (codec ≡ codec') × (fault ≡ fault')

abbrev pub FaultyOrWhole : Type 0
FaultyOrWhole = (addresses words before rest : List ℕ) (one other : List RawCodec) (codec : ℕ) (fault : WalkFault) → AreFaulty addresses words one codec fault → words ≡ before ++ rest
    → AllWalked addresses before other → ⊥

abbrev pub LedOrFaulty : Means → Type 0
LedOrFaulty means = (words : List ℕ) (agenda : Agenda) (graphs : List RawCodec) (codec : ℕ) (fault : WalkFault) → WasAnswered means words agenda
    → AreFaulty agenda.addresses.items words graphs codec fault → ⊥

abbrev pub NoneOrFaulty : Type 0
NoneOrFaulty = (addresses : List ℕ) (graphs : List RawCodec) (codec : ℕ) (fault : WalkFault) → AreFaulty addresses [] graphs codec fault → ⊥

abbrev pub OneUnrouted : Means → Type 0
OneUnrouted means = (addresses words : List ℕ) (one other : List RawCodec) (plans plans' : List Plan) → AreUnrouted means addresses words one plans → AreUnrouted means addresses words other plans'
    → (one ≡ other) × (plans ≡ plans')

abbrev pub LedOrUnrouted : Means → Type 0
LedOrUnrouted means = (words : List ℕ) (agenda : Agenda) (graphs : List RawCodec) (plans : List Plan) → WasAnswered means words agenda
    → AreUnrouted means agenda.addresses.items words graphs plans → ⊥

abbrev pub NoneOrUnrouted : Means → Type 0
NoneOrUnrouted means = (addresses : List ℕ) (graphs : List RawCodec) (plans : List Plan) → AreUnrouted means addresses [] graphs plans → ⊥

-- ---- a fault

module _ (means : Means) (words : List ℕ) (agenda : Agenda) (graphs : List RawCodec) (codec : ℕ) (fault : WalkFault) (faulty : AreFaulty agenda.addresses.items words graphs codec fault) (one : OneFaulty)
    (whole : FaultyOrWhole) (led : LedOrFaulty means) (none : NoneOrFaulty) where
  unasked : IsUnasked words agenda → ⊥
  unasked is = none agenda.addresses.items graphs codec fault (subst (λ (words : List ℕ). AreFaulty agenda.addresses.items words graphs codec fault) is.words_are faulty)

  pub ends_faulty : (phase : Phase) → WereAnsweredIn means words agenda phase → EndsFaulty codec fault graphs agenda phase
  ends_faulty Reset is = absurd (unasked is)
  ends_faulty Settling is = absurd (unasked is)
  ends_faulty Walking is = absurd (led words agenda graphs codec fault is faulty)
  ends_faulty SettingUp is = absurd (led words agenda graphs codec fault is faulty)
  ends_faulty Ready is = absurd (led words agenda graphs codec fault is faulty)
  ends_faulty Playing is = absurd (led words agenda graphs codec fault is faulty)
  ends_faulty Drained is = absurd (led words agenda graphs codec fault is faulty)
  ends_faulty (Late from to limit) is = absurd (led words agenda graphs codec fault is faulty)
  ends_faulty (Unanswered other command issued noticed) is = absurd (led words agenda graphs codec fault is faulty)
  ends_faulty NothingRouted is = absurd (whole agenda.addresses.items words words [] graphs agenda.graphs.items codec fault faulty (sym (append-nil words)) is.walked)
  ends_faulty (Malformed other other_fault) is =
      let (same, codec_same, fault_same) = one agenda.addresses.items words agenda.graphs.items graphs other codec other_fault fault is.0 faulty in
      inl (ap (λ (codec : ℕ). Malformed codec other_fault) codec_same ∙ ap (λ (fault : WalkFault). Malformed codec fault) fault_same, same)
  ends_faulty Failed is = inr refl

-- ---- no route

module _ (means : Means) (words : List ℕ) (agenda : Agenda) (graphs : List RawCodec) (plans : List Plan) (unrouted : AreUnrouted means agenda.addresses.items words graphs plans) (one : OneUnrouted means)
    (whole : FaultyOrWhole) (led : LedOrUnrouted means) (none : NoneOrUnrouted means) where
  unasked_yet : IsUnasked words agenda → ⊥
  unasked_yet is = none agenda.addresses.items graphs plans (subst (λ (words : List ℕ). AreUnrouted means agenda.addresses.items words graphs plans) is.words_are unrouted)

  pub ends_unrouted : (phase : Phase) → WereAnsweredIn means words agenda phase → EndsUnrouted graphs plans agenda phase
  ends_unrouted Reset is = absurd (unasked_yet is)
  ends_unrouted Settling is = absurd (unasked_yet is)
  ends_unrouted Walking is = absurd (led words agenda graphs plans is unrouted)
  ends_unrouted SettingUp is = absurd (led words agenda graphs plans is unrouted)
  ends_unrouted Ready is = absurd (led words agenda graphs plans is unrouted)
  ends_unrouted Playing is = absurd (led words agenda graphs plans is unrouted)
  ends_unrouted Drained is = absurd (led words agenda graphs plans is unrouted)
  ends_unrouted (Late from to limit) is = absurd (led words agenda graphs plans is unrouted)
  ends_unrouted (Unanswered other command issued noticed) is = absurd (led words agenda graphs plans is unrouted)
  ends_unrouted NothingRouted is =
      let (same, plans_same) = one agenda.addresses.items words agenda.graphs.items graphs agenda.plans.items plans is unrouted in
      inl (refl, same, plans_same)
  ends_unrouted (Malformed codec fault) is =
      absurd (whole agenda.addresses.items words words [] agenda.graphs.items graphs codec fault is.0 (sym (append-nil words)) unrouted.walked)
  ends_unrouted Failed is = inr refl
