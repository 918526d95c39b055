-- The number of commands of codecs, one codec more at a time.
use Rattle.std.proofs.Common.{◌≡◌, ◌<◌, ◌+◌, ◌++◌, ℕ, zero, suc, List, [], ◌∷◌, length, take, get_or, arith, length-append}
use Rattle.std.proofs.Math.Seq.{take-suc}
use Rattle.std.proofs.lemmas.List.{length-take-le}
use Rattle.std.proofs.lemmas.Slice.Zip.{AllZip-long}
use Rattle.codec_graph.specs.declared.raw.RawCodec.{RawCodec}
use Rattle.verb_codes.specs.declared.verbs.Command.{Command}
use Rattle.route_planner.specs.declared.routes.Plan.{Plan}
use Rattle.route_setup.specs.Means.{Means}
use Rattle.driver_agenda.specs.Planned.{verbs_for}
use Rattle.codec_walk.specs.Commands.{walk_commands}
use Rattle.hda_files.specs.declared.machine.CodecFile.{CodecFile}
use Rattle.driver_progress.specs.Tasks.{walks_over}
use Rattle.heard_lists.specs.Listings.{graphs_in}
use Rattle.laws_start.specs.Tasks.{HavePlansBy, commands_meant}

walks_push : (files : List CodecFile) (file : CodecFile) → length (walks_over (graphs_in (files ++ file ∷ []))) ≡ length (walks_over (graphs_in files)) + length (walk_commands file.graph)
walks_push [] file = (let one = length-append (walk_commands file.graph) [] in omega (arith, one))
walks_push (first ∷ files) file =
    let rest = walks_push files file in
    let new = length-append (walk_commands first.graph) (walks_over (graphs_in (files ++ file ∷ []))) in
    let old = length-append (walk_commands first.graph) (walks_over (graphs_in files)) in
    omega (arith, rest, new, old)

module _ (verbs_by : RawCodec → Plan → List Command) where
  verbs_push : (files : List CodecFile) (plans : List Plan) (file : CodecFile) (plan : Plan) → length plans ≡ length files
      → length (verbs_for verbs_by (graphs_in (files ++ file ∷ [])) (plans ++ plan ∷ [])) ≡ length (verbs_for verbs_by (graphs_in files) plans) + length (verbs_by file.graph plan)
  verbs_push [] [] file plan same = (let one = length-append (verbs_by file.graph plan) [] in omega (arith, one))
  verbs_push [] (other ∷ plans) file plan same = absurd (omega (arith, same))
  verbs_push (first ∷ files) [] file plan same = absurd (omega (arith, same))
  verbs_push (first ∷ files) (other ∷ plans) file plan same =
      let rest = verbs_push files plans file plan (omega (arith, same)) in
      let new = length-append (verbs_by first.graph other) (verbs_for verbs_by (graphs_in (files ++ file ∷ [])) (plans ++ plan ∷ [])) in
      let old = length-append (verbs_by first.graph other) (verbs_for verbs_by (graphs_in files) plans) in
      omega (arith, rest, new, old)

module _ (means : Means) where
  commands_push : (files : List CodecFile) (plans : List Plan) (file : CodecFile) (plan : Plan) → length plans ≡ length files
      → length (commands_meant means (files ++ file ∷ []) (plans ++ plan ∷ [])) ≡ length (commands_meant means files plans) + (length (walk_commands file.graph) + length (means.verbs_by file.graph plan))
  commands_push files plans file plan same =
      let walks = walks_push files file in
      let verbs = verbs_push means.verbs_by files plans file plan same in
      let new = length-append (walks_over (graphs_in (files ++ file ∷ []))) (verbs_for means.verbs_by (graphs_in (files ++ file ∷ [])) (plans ++ plan ∷ [])) in
      let old = length-append (walks_over (graphs_in files)) (verbs_for means.verbs_by (graphs_in files) plans) in
      omega (arith, walks, verbs, new, old)

  -- ---- at a place

  pub plans_long : (files : List CodecFile) (plans : List Plan) → HavePlansBy means files plans → length plans ≡ length files
  plans_long files plans have = AllZip-long (λ (file : CodecFile) (plan : Plan). means.IsPlanBy file.graph plan) files plans have

  pub plan_at : (files : List CodecFile) (plans : List Plan) (place : ℕ) (file : CodecFile) (plan : Plan) → HavePlansBy means files plans → place < length files
      → means.IsPlanBy (get_or files place file).graph (get_or plans place plan)
  plan_at [] plans place file plan have within = absurd (omega (arith, within))
  plan_at (first ∷ files) [] place file plan have within = absurd have
  plan_at (first ∷ files) (other ∷ plans) zero file plan have within = have.0
  plan_at (first ∷ files) (other ∷ plans) (suc place) file plan have within = plan_at files plans place file plan have.1 (omega (arith, within))

  pub commands_more : (files : List CodecFile) (plans : List Plan) (place : ℕ) (file : CodecFile) (plan : Plan) → HavePlansBy means files plans → place < length files
      → length (commands_meant means (take (suc place) files) (take (suc place) plans))
      ≡ length (commands_meant means (take place files) (take place plans)) + (length (walk_commands (get_or files place file).graph) + length (means.verbs_by (get_or files place file).graph (get_or plans place plan)))
  commands_more files plans place file plan have within =
      let long = plans_long files plans have in
      let first = take-suc files place file within in
      let second = take-suc plans place plan (omega (arith, long, within)) in
      let front = length-take-le place files (omega (arith, within)) in
      let front' = length-take-le place plans (omega (arith, long, within)) in
      rw (first, second) (commands_push (take place files) (take place plans) (get_or files place file) (get_or plans place plan) (omega (arith, front, front')))
