-- Of the plans of a machine for its input one has an entry, with a route.
use Rattle.std.proofs.Common.{◌≡◌, ◌==◌, ℕ, Bool, true, false, List, [], ◌∷◌, ◌++◌, refl, sym, ap, subst, ◌∙◌, arith, get_or}
use Rattle.std.specs.Prelude.{Contains}
use Rattle.std.specs.List.{zip, list_any}
use Rattle.std.proofs.lemmas.Bool.{or_right}
use Rattle.std.proofs.lemmas.Bool.Decides.{nat_tests}
use Rattle.std.proofs.lemmas.List.Elements.{Contains-append_right}
use Rattle.stream_format.specs.declared.format.Format.{Format}
use Rattle.codec_graph.specs.declared.raw.RawCodec.{RawCodec}
use Rattle.route_planner.specs.declared.routes.Outcome.{Outcome}
use Rattle.route_planner.specs.declared.routes.PinPlan.{PinPlan}
use Rattle.route_planner.specs.declared.routes.Plan.{Plan}
use Rattle.route_planner.specs.Inputs.{AreInputEntries, IsInputEntry, IsInputPlan}
use Rattle.input_verbs.specs.OpenInputs.{IsInputPlanIf, IsInputPlanAt}
use Rattle.driver_agenda.specs.Planned.{is_route, has_route, have_route}
use Rattle.hda_files.specs.declared.machine.CodecFile.{CodecFile}
use Rattle.laws_start.specs.Tasks.{HavePlansBy}
use Rattle.laws_capture.specs.Listening.{RecordsPin}
use Rattle.program_captures.specs.Inputs.{IsInputOf, HasInputPin, capture_means}

-- the plan of a graph that has an input has one entry
pub record HasEntry (graph : RawCodec) (format : Format) (pins : List PinPlan) : Type 0 where
  pub entry : PinPlan
  pub one : pins ≡ entry ∷ []
  pub is : IsInputEntry graph format entry

one_entry : (graph : RawCodec) (format : Format) (pins : List PinPlan) (some : PinPlan) → IsInputEntry graph format some → AreInputEntries graph format pins → HasEntry graph format pins
one_entry graph format [] some has none = absurd (none some.pin has.first.candidate has.first.has_path)
one_entry graph format (entry ∷ []) some has is = record { entry = entry; one = refl; is = is }
one_entry graph format (entry ∷ other ∷ rest) some has is = absurd is

own_plan : (address : ℕ) (file : CodecFile) (format : Format) (plan : Plan) → address ≡ file.graph.address → IsInputPlanAt address file.graph format plan → IsInputPlan file.graph format plan
own_plan address file format plan at is =
    let test : (file.graph.address == address) ≡ true = grind (arith, nat_tests, at) in
    subst (λ (records : Bool). IsInputPlanIf records file.graph format plan) test is

-- its plan has a route
entry_routes : (graph : RawCodec) (format : Format) (plan : Plan) → HasEntry graph format plan.pins → has_route plan ≡ true
entry_routes graph format plan has =
    ap (λ (pins : List PinPlan). list_any (λ (entry : PinPlan). is_route entry.outcome) pins) has.one
    ∙ by (is_route has.entry.outcome) (ap is_route has.is.outcome_is)
  where
    by : (b : Bool) → b ≡ true → list_any (λ (entry : PinPlan). is_route entry.outcome) (has.entry ∷ []) ≡ true
    by b is = search (arith, is)

module _ (format : Format) (address : ℕ) where
  -- of several codecs
  pub record PlansOne (files : List CodecFile) (plans : List Plan) : Type 0 where
    pub nid : ℕ
    pub records : RecordsPin address files plans nid
    pub routed : have_route plans ≡ true

  one_more : (file : CodecFile) (plan : Plan) (files : List CodecFile) (plans : List Plan) → PlansOne files plans → PlansOne (file ∷ files) (plan ∷ plans)
  one_more file plan files plans one =
      let records = one.records in record {
        nid = one.nid;
        records = record {
          file = records.file;
          plan = records.plan;
          among = Contains-append_right ((file, plan) ∷ []) (zip files plans) (records.file, records.plan) records.among;
          address_is = records.address_is;
          entry = records.entry;
          one = records.one;
          pin_is = records.pin_is;
          route = records.route;
          routed = records.routed;
        };
        routed = or_right (has_route plan) (have_route plans) one.routed;
      }

  first_one : (file : CodecFile) (plan : Plan) (files : List CodecFile) (plans : List Plan) → address ≡ file.graph.address → HasEntry file.graph format plan.pins → PlansOne (file ∷ files) (plan ∷ plans)
  first_one file plan files plans at has = record {
    nid = has.entry.pin;
    records = record {
      file = file;
      plan = plan;
      among = (0, omega arith, refl);
      address_is = sym at;
      entry = has.entry;
      one = has.one;
      pin_is = refl;
      route = has.is.route;
      routed = has.is.outcome_is;
    };
    routed = routed_first (entry_routes file.graph format plan has);
  } where
    routed_first : has_route plan ≡ true → have_route (plan ∷ plans) ≡ true
    routed_first is = search (arith, is)

  among_them : (before : List CodecFile) (file : CodecFile) (behind : List CodecFile) (plans : List Plan) → address ≡ file.graph.address → HasInputPin format file
      → HavePlansBy (capture_means address format) (before ++ file ∷ behind) plans → PlansOne (before ++ file ∷ behind) plans
  among_them [] file behind [] at has have = absurd have
  among_them [] file behind (plan ∷ plans) at has have = first_one file plan behind plans at (one_entry file.graph format plan.pins has.0 has.1 (own_plan address file format plan at have.0))
  among_them (first ∷ before) file behind [] at has have = absurd have
  among_them (first ∷ before) file behind (plan ∷ plans) at has have = one_more first plan (before ++ file ∷ behind) plans (among_them before file behind plans at has have.1)

  pub input_planned : (files : List CodecFile) (plans : List Plan) → IsInputOf format files address plans → PlansOne files plans
  input_planned files plans input =
      subst (λ (fs : List CodecFile). PlansOne fs plans) (sym input.among)
      (among_them input.before input.file input.behind plans input.address_is input.has (subst (λ (fs : List CodecFile). HavePlansBy (capture_means address format) fs plans) input.among input.planned))
