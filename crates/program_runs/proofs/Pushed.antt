-- The number of commands of codecs, one more at a time.
use Rattle.std.proofs.Common.{◌≡◌, ◌<◌, ◌+◌, ◌++◌, ℕ, zero, suc, List, [], ◌∷◌, length, take, get_or, arith, length-append}
use Rattle.std.proofs.Math.Seq.{take-suc}
use Rattle.std.proofs.lemmas.List.{length-take-le}
use Rattle.std.proofs.lemmas.Slice.Zip.{AllZip-long}
use Rattle.stream_format.specs.declared.format.Format.{Format}
use Rattle.codec_graph.specs.declared.pin_kind.PinKind.{PinKind}
use Rattle.route_planner.specs.declared.routes.Plan.{Plan}
use Rattle.route_planner.specs.Plans.{IsPlanAs}
use Rattle.driver_agenda.specs.Planned.{verbs_for}
use Rattle.codec_walk.specs.Commands.{walk_commands}
use Rattle.hda_files.specs.declared.machine.CodecFile.{CodecFile}
use Rattle.driver_progress.specs.Tasks.{walks_over}
use Rattle.heard_lists.specs.Listings.{graphs_in}
use Rattle.program_runs.specs.Outputs.{HavePlansOf, verbs_by_as, commands_as}

-- the commands of one codec more
walks_push : (files : List CodecFile) (file : CodecFile) → length (walks_over (graphs_in (files ++ file ∷ []))) ≡ length (walks_over (graphs_in files)) + length (walk_commands file.graph)
walks_push [] file = (let one = length-append (walk_commands file.graph) [] in omega (arith, one))
walks_push (first ∷ files) file =
    let rest = walks_push files file in
    let new = length-append (walk_commands first.graph) (walks_over (graphs_in (files ++ file ∷ []))) in
    let old = length-append (walk_commands first.graph) (walks_over (graphs_in files)) in
    omega (arith, rest, new, old)

verbs_push : (kind : PinKind) (format : Format) (files : List CodecFile) (plans : List Plan) (file : CodecFile) (plan : Plan) → length plans ≡ length files
    → length (verbs_for (verbs_by_as kind format) (graphs_in (files ++ file ∷ [])) (plans ++ plan ∷ [])) ≡ length (verbs_for (verbs_by_as kind format) (graphs_in files) plans) + length (verbs_by_as kind format file.graph plan)
verbs_push kind format [] [] file plan same = (let one = length-append (verbs_by_as kind format file.graph plan) [] in omega (arith, one))
verbs_push kind format [] (other ∷ plans) file plan same = absurd (omega (arith, same))
verbs_push kind format (first ∷ files) [] file plan same = absurd (omega (arith, same))
verbs_push kind format (first ∷ files) (other ∷ plans) file plan same =
    let rest = verbs_push kind format files plans file plan (omega (arith, same)) in
    let new = length-append (verbs_by_as kind format first.graph other) (verbs_for (verbs_by_as kind format) (graphs_in (files ++ file ∷ [])) (plans ++ plan ∷ [])) in
    let old = length-append (verbs_by_as kind format first.graph other) (verbs_for (verbs_by_as kind format) (graphs_in files) plans) in
    omega (arith, rest, new, old)

pub commands_push : (kind : PinKind) (format : Format) (files : List CodecFile) (plans : List Plan) (file : CodecFile) (plan : Plan) → length plans ≡ length files
    → length (commands_as kind format (files ++ file ∷ []) (plans ++ plan ∷ [])) ≡ length (commands_as kind format files plans) + (length (walk_commands file.graph) + length (verbs_by_as kind format file.graph plan))
commands_push kind format files plans file plan same =
    let walks = walks_push files file in
    let verbs = verbs_push kind format files plans file plan same in
    let new = length-append (walks_over (graphs_in (files ++ file ∷ []))) (verbs_for (verbs_by_as kind format) (graphs_in (files ++ file ∷ [])) (plans ++ plan ∷ [])) in
    let old = length-append (walks_over (graphs_in files)) (verbs_for (verbs_by_as kind format) (graphs_in files) plans) in
    omega (arith, walks, verbs, new, old)

-- ---- at a place

pub plans_long : (kind : PinKind) (format : Format) (files : List CodecFile) (plans : List Plan) → HavePlansOf kind format files plans → length plans ≡ length files
plans_long kind format files plans have = AllZip-long (λ (file : CodecFile) (plan : Plan). IsPlanAs kind file.graph format plan) files plans have

pub plan_at : (kind : PinKind) (format : Format) (files : List CodecFile) (plans : List Plan) (place : ℕ) (file : CodecFile) (plan : Plan) → HavePlansOf kind format files plans → place < length files
    → IsPlanAs kind (get_or files place file).graph format (get_or plans place plan)
plan_at kind format [] plans place file plan have within = absurd (omega (arith, within))
plan_at kind format (first ∷ files) [] place file plan have within = absurd have
plan_at kind format (first ∷ files) (other ∷ plans) zero file plan have within = have.0
plan_at kind format (first ∷ files) (other ∷ plans) (suc place) file plan have within = plan_at kind format files plans place file plan have.1 (omega (arith, within))

pub commands_more : (kind : PinKind) (format : Format) (files : List CodecFile) (plans : List Plan) (place : ℕ) (file : CodecFile) (plan : Plan) → HavePlansOf kind format files plans → place < length files
    → length (commands_as kind format (take (suc place) files) (take (suc place) plans))
    ≡ length (commands_as kind format (take place files) (take place plans)) + (length (walk_commands (get_or files place file).graph) + length (verbs_by_as kind format (get_or files place file).graph (get_or plans place plan)))
commands_more kind format files plans place file plan have within =
    let long = plans_long kind format files plans have in
    let first = take-suc files place file within in
    let second = take-suc plans place plan (omega (arith, long, within)) in
    let front = length-take-le place files (omega (arith, within)) in
    let front' = length-take-le place plans (omega (arith, long, within)) in
    rw (first, second) (commands_push kind format (take place files) (take place plans) (get_or files place file) (get_or plans place plan) (omega (arith, front, front')))
