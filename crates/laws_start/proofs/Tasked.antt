-- What is to be done for a machine is the task of its codecs.
use Rattle.std.proofs.Common.{◌≡◌, ◌≢◌, ◌≤◌, ◌<◌, ◌+◌, ◌==◌, ◌++◌, ℕ, suc, Bool, true, false, if◌then◌else◌, List, [], ◌∷◌, length, map, get_or, All, refl, sym, ap, ◌∙◌, arith}
use Rattle.std.specs.List.{flat_map, list_any}
use Rattle.std.specs.List.Sorted.{IsStrictlyIncreasing}
use Rattle.std.proofs.lemmas.Bool.Decides.{nat_tests}
use Rattle.std.proofs.lemmas.List.{length-map}
use Rattle.std.proofs.lemmas.List.Elements.{All-nil, All-cons, All-head, All-tail, All-weaker}
use Rattle.verb_codes.specs.declared.verbs.Command.{Command}
use Rattle.codec_graph.specs.declared.raw.RawCodec.{RawCodec}
use Rattle.route_planner.specs.declared.routes.Plan.{Plan}
use Rattle.route_setup.specs.Means.{Means}
use Rattle.driver_agenda.specs.Planned.{ArePlansBy, verbs_for, has_route}
use Rattle.hda_files.specs.declared.machine.CodecFile.{CodecFile}
use Rattle.hda_files.specs.declared.machine.Machine.{Machine}
use Rattle.hda_files.specs.Machines.{IsSoundCodec, IsSound}
use Rattle.period_writer.specs.declared.geometry.Geometry.{Geometry}
use Rattle.command_engine.specs.Fetchings.{AscendFrom}
use Rattle.driver_progress.specs.Tasks.{Blocks, order_of, walks_over}
use Rattle.laws_bring_up.specs.Standing.{IsTaskOfCodecs}
use Rattle.heard_lists.specs.Listings.{graphs_in}
use Rattle.laws_start.specs.Tasks.{HavePlansBy, verbs_meant, task_meant}
use Rattle.laws_start.specs.Reading.{IsWhole}

-- ---- addresses

abbrev addresses_in : List CodecFile → List ℕ
addresses_in files = map (λ (file : CodecFile). file.graph.address) files

increasing-tail : (address : ℕ) (addresses : List ℕ) → IsStrictlyIncreasing (address ∷ addresses) → IsStrictlyIncreasing addresses
increasing-tail address addresses increasing k within =
    let next : suc k + 1 ≡ suc (k + 1) = omega arith in
    rw next at (increasing (suc k) (omega (arith, within)))

-- the codecs of a sound machine stand by address
pub stand_by_address : (low : ℕ) (files : List CodecFile) → IsStrictlyIncreasing (addresses_in files) → All IsSoundCodec files
    → (0 < length files → low ≤ get_or (addresses_in files) 0 0) → AscendFrom low (graphs_in files)
stand_by_address low [] increasing sound above = tt
stand_by_address low (file ∷ files) increasing sound above = (
  above (omega arith),
  (All-head IsSoundCodec file files sound).address,
  stand_by_address (file.graph.address + 1) files (increasing-tail file.graph.address (addresses_in files) increasing) (All-tail IsSoundCodec file files sound)
      (λ some. (let same = length-map files (λ (one : CodecFile). one.graph.address) in let step = increasing 0 (omega (arith, some, same)) in omega (arith, step))),
)

above_low : (low : ℕ) (graphs : List RawCodec) → AscendFrom low graphs → All (λ (graph : RawCodec). low ≤ graph.address) graphs
above_low low [] ascend = All-nil (λ (graph : RawCodec). low ≤ graph.address)
above_low low (graph ∷ graphs) ascend =
    let first = ascend.0 in
    All-cons (λ (one : RawCodec). low ≤ one.address) graph graphs first
    (All-weaker (λ (one : RawCodec). graph.address + 1 ≤ one.address) (λ (one : RawCodec). low ≤ one.address) (λ one more. omega (arith, more, first)) graphs (above_low (graph.address + 1) graphs ascend.2))

-- a graph has one plan
abbrev HasOnePlan : Means → Type 0
HasOnePlan means =
    (graph : RawCodec) (plan other : Plan) → means.IsPlanBy graph plan → means.IsPlanBy graph other → other ≡ plan

-- ---- verbs

-- a graph has its verbs by its plan
abbrev HasVerbs : Means → (RawCodec → List Command) → RawCodec → Type 0
HasVerbs means verbs graph = (plan : Plan) → means.IsPlanBy graph plan → verbs graph ≡ means.verbs_by graph plan

later_verbs : (means : Means) (file : CodecFile) (files : List CodecFile) (plan : Plan) (plans : List Plan) (graph : RawCodec) → file.graph.address + 1 ≤ graph.address
    → verbs_meant means (file ∷ files) (plan ∷ plans) graph ≡ verbs_meant means files plans graph
later_verbs means file files plan plans graph above = by (file.graph.address == graph.address) refl where
  by : (here : Bool) → (file.graph.address == graph.address) ≡ here
      → (if here then means.verbs_by file.graph plan else verbs_meant means files plans graph) ≡ verbs_meant means files plans graph
  by true is = absurd (grind (arith, nat_tests))
  by false is = refl

own_verbs : (means : Means) (file : CodecFile) (files : List CodecFile) (plan : Plan) (plans : List Plan)
    → verbs_meant means (file ∷ files) (plan ∷ plans) file.graph ≡ means.verbs_by file.graph plan
own_verbs means file files plan plans = by (file.graph.address == file.graph.address) refl where
  by : (here : Bool) → (file.graph.address == file.graph.address) ≡ here
      → (if here then means.verbs_by file.graph plan else verbs_meant means files plans file.graph) ≡ means.verbs_by file.graph plan
  by true is = refl
  by false is = absurd (grind (arith, nat_tests))

pub all_have_verbs : (means : Means) → HasOnePlan means → (low : ℕ) (files : List CodecFile) (plans : List Plan) → HavePlansBy means files plans → AscendFrom low (graphs_in files)
    → All (HasVerbs means (verbs_meant means files plans)) (graphs_in files)
all_have_verbs means one_plan low [] plans have ascend = All-nil (HasVerbs means (verbs_meant means [] plans))
all_have_verbs means one_plan low (file ∷ files) [] have ascend = absurd have
all_have_verbs means one_plan low (file ∷ files) (plan ∷ plans) have ascend =
    let rest = all_have_verbs means one_plan (file.graph.address + 1) files plans have.1 ascend.2 in
    let above = above_low (file.graph.address + 1) (graphs_in files) ascend.2 in
    All-cons (HasVerbs means (verbs_meant means (file ∷ files) (plan ∷ plans))) file.graph (graphs_in files)
    (λ other is. own_verbs means file files plan plans ∙ ap (means.verbs_by file.graph) (one_plan file.graph other plan is have.0))
    (λ k graph within other is. later_verbs means file files plan plans (get_or (graphs_in files) k graph) (above k graph within) ∙ rest k graph within other is)

-- so all verbs are those of each
pub verbs_joined : (means : Means) (verbs : RawCodec → List Command) (files : List CodecFile) (plans : List Plan) → HavePlansBy means files plans
    → All (HasVerbs means verbs) (graphs_in files) → verbs_for (means.verbs_by) (graphs_in files) plans ≡ flat_map verbs (graphs_in files)
verbs_joined means verbs [] plans have own = refl
verbs_joined means verbs (file ∷ files) [] have own = absurd have
verbs_joined means verbs (file ∷ files) (plan ∷ plans) have own =
    let first : verbs file.graph ≡ means.verbs_by file.graph plan = All-head (HasVerbs means verbs) file.graph (graphs_in files) own plan have.0 in
    let rest = verbs_joined means verbs files plans have.1 (All-tail (HasVerbs means verbs) file.graph (graphs_in files) own) in
    ap (λ (commands : List Command). commands ++ verbs_for (means.verbs_by) (graphs_in files) plans) (sym first) ∙ ap (λ (commands : List Command). verbs file.graph ++ commands) rest

-- ---- plans

-- codecs have one list of plans
same_plans : (means : Means) → HasOnePlan means → (files : List CodecFile) (plans others : List Plan) → HavePlansBy means files plans
    → ArePlansBy (λ (graph : RawCodec). means.IsPlanBy graph) (graphs_in files) others → others ≡ plans
same_plans means one_plan [] [] [] have are = refl
same_plans means one_plan [] [] (other ∷ others) have are = absurd are
same_plans means one_plan [] (plan ∷ plans) others have are = absurd have
same_plans means one_plan (file ∷ files) [] others have are = absurd have
same_plans means one_plan (file ∷ files) (plan ∷ plans) [] have are = absurd are
same_plans means one_plan (file ∷ files) (plan ∷ plans) (other ∷ others) have are =
    let first : other ≡ plan = one_plan file.graph plan other have.0 are.0 in
    let rest : others ≡ plans = same_plans means one_plan files plans others have.1 are.1 in
    ap (λ (one : Plan). one ∷ others) first ∙ ap (λ (list : List Plan). plan ∷ list) rest

-- where some pin has a route there is some codec
some_graph : (means : Means) (files : List CodecFile) (plans : List Plan) → HavePlansBy means files plans → list_any has_route plans ≡ true → graphs_in files ≢ []
some_graph means [] [] have routed none = (let never : false ≡ true = routed in cc)
some_graph means [] (plan ∷ plans) have routed none = have
some_graph means (file ∷ files) plans have routed none = cc

-- ---- the task

pub tasked : (means : Means) → HasOnePlan means → (machine : Machine) (plans : List Plan) (geometry : Geometry) (plays : Bool) (pcm : List ℕ) (blocks : Blocks) → IsSound machine → IsWhole machine → HavePlansBy means machine.codecs plans
    → list_any has_route plans ≡ true
    → IsTaskOfCodecs means (verbs_meant means machine.codecs plans) (graphs_in machine.codecs) (task_meant means machine plans geometry plays pcm blocks)
tasked means one_plan machine plans geometry plays pcm blocks sound whole have routed =
    let ascend = stand_by_address 0 machine.codecs sound.ascending sound.each (λ some. omega arith) in
    let own = all_have_verbs means one_plan 0 machine.codecs plans have ascend in
    let joined = verbs_joined means (verbs_meant means machine.codecs plans) machine.codecs plans have own in
    record {
      right = record {
        well_formed = whole.well_formed;
        verbs_are = own;
        routed = λ others are. ap (λ (list : List Plan). list_any has_route list) (same_plans means one_plan machine.codecs plans others have are) ∙ routed;
      };
      is_for = record {
        orders = ap (λ (commands : List Command). map order_of (walks_over (graphs_in machine.codecs) ++ commands)) joined;
        walks = refl;
      };
      some = some_graph means machine.codecs plans have routed;
      few = (let same = length-map machine.codecs (λ (file : CodecFile). file.graph) in let few = whole.few in omega (arith, same, few));
    }
