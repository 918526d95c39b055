-- How items that were run for a capture go together, and that a step of the device goes on.
use Rattle.std.proofs.Common.{◌≡◌, ℕ, List, [], ◌∷◌, ◌++◌, refl, ap, subst, ◌∙◌, append_assoc, arith, false}
use Rattle.verb_codes.specs.declared.verbs.Command.{Command}
use Rattle.codec_graph.specs.declared.raw.RawCodec.{RawCodec}
use Rattle.world_steps.specs.declared.Step.{Step}
use Rattle.schedule_reader.specs.declared.schedule.Item.{Item}
use Rattle.schedule_reader.specs.declared.schedule.Item.TheVariants.{Device}
use Rattle.hda_world.specs.Events.{Stepped}
use Rattle.hda_world.specs.Tellings.{Telling, Went}
use Rattle.hda_world.proofs.Callers.{went_none, went_both}
use Rattle.driver_progress.specs.Tasks.{Task, DriverLine}
use Rattle.laws_capture.specs.Capturing.{KeepsCapturing}
use Rattle.rig.specs.Follows.{FollowItems}
use Rattle.rig.specs.Rigs.{telling_of, setting_of}
use Rattle.rig.specs.declared.rig.Rig.{Rig}
use Rattle.program_runs.specs.Lines.{lines_in}
use Rattle.program_runs.proofs.Callers.{FollowBoth, lines_both, count_both, short_before}
use Rattle.program_captures.specs.declared.terms.CaptureTerms.{CaptureTerms}
use Rattle.program_captures.specs.declared.capturer.Capturer.{Capturer}
use Rattle.program_captures.specs.declared.capturer.Capturer.TheVariants.{Coming, Recording}
use Rattle.program_captures.specs.Capturing.{CaptureRan, CaptureLeadsOn, IsCaptureTask, IsCapturerFor, GoesOn, means_of, total_of, parts_with}

-- a driver that captures is led on for each task
abbrev pub KeepsFor : CaptureTerms → Type 0
KeepsFor terms =
    (verbs : RawCodec → List Command) (graphs : List RawCodec) (task : Task) (nid : ℕ) → IsCaptureTask terms verbs graphs task nid
    → KeepsCapturing (means_of terms) verbs graphs task (total_of terms) nid

module _ (terms : CaptureTerms) where
  -- nothing was run
  pub ran_none : FollowItems [] [] → (capturer : Capturer) (rig : Rig) → (setting_of rig).in_run ≡ false → IsCapturerFor terms capturer → CaptureRan terms [] capturer capturer rig rig
  ran_none none capturer rig between is = record {
    events = [];
    went = went_none (telling_of rig);
    follow = none;
    leads = λ verbs graphs task nid all left is has short on. on;
    keeps = λ task has. has;
    stays = is;
    corb = refl;
    rirb = refl;
    calls = omega arith;
    between = between;
    machine = refl;
  }

  -- some items and then others
  pub ran_both : FollowBoth → (first second : List Item) (old middle new : Capturer) (before between after : Rig) → CaptureRan terms first old middle before between → CaptureRan terms second middle new between after
      → CaptureRan terms (first ++ second) old new before after
  ran_both follow first second old middle new before between after one other =
      let counts = count_both first second in
      let few = one.calls in
      let more = other.calls in
      record {
        events = one.events ++ other.events;
        went = went_both (telling_of before) (telling_of between) (telling_of after) one.events other.events one.went other.went;
        follow = follow first second one.events other.events one.follow other.follow;
        leads = λ verbs graphs task nid all left is has short on.
            (other.leads verbs graphs task nid all left is has short
            (one.leads verbs graphs task nid all (lines_in second ++ left) is (other.keeps task has) (short_before (telling_of between) (telling_of after) other.events other.went short)
            (subst (λ (lines : List DriverLine). GoesOn terms verbs graphs task all lines old (telling_of before))
            (ap (λ (lines : List DriverLine). lines ++ left) (lines_both first second) ∙ append_assoc (lines_in first) (lines_in second) left) on)));
        keeps = λ task has. one.keeps task (other.keeps task has);
        stays = other.stays;
        corb = other.corb ∙ one.corb;
        rirb = other.rirb ∙ one.rirb;
        calls = omega (arith, few, more, counts);
        between = other.between;
        machine = other.machine ∙ one.machine;
      }

  -- a step of the device leads on
  step_leads : KeepsFor terms → (step : Step) (capturer : Capturer) (before after : Telling) → Went before after (Stepped step ∷ []) → CaptureLeadsOn terms (lines_in (Device step ∷ [])) capturer capturer before after
  step_leads keeps step (Coming driver) before after went verbs graphs task nid all left is has short on =
      (keeps verbs graphs task nid is).steps all left (parts_with driver.value.bring_up driver.value.writer) (step ∷ []) before after went on
  step_leads keeps step (Recording driver) before after went verbs graphs task nid all left is has short on =
      (keeps verbs graphs task nid is).records_steps all left driver.value (step ∷ []) before after went on

  pub step_ran : KeepsFor terms → (step : Step) (capturer : Capturer) (before after : Rig) → FollowItems (Device step ∷ []) (Stepped step ∷ []) → Went (telling_of before) (telling_of after) (Stepped step ∷ [])
      → (setting_of before).in_run ≡ false → setting_of after ≡ setting_of before → IsCapturerFor terms capturer → CaptureRan terms (Device step ∷ []) capturer capturer before after
  step_ran keeps step capturer before after follow went between same is = record {
    events = Stepped step ∷ [];
    went = went;
    follow = follow;
    leads = step_leads keeps step capturer (telling_of before) (telling_of after) went;
    keeps = λ task has. has;
    stays = is;
    corb = refl;
    rirb = refl;
    calls = omega arith;
    between = ap (λ setting. setting.in_run) same ∙ between;
    machine = ap (λ setting. setting.machine) same;
  }
