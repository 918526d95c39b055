-- The lines of inputs, codec by codec.
use Rattle.std.proofs.Common.{◌≡◌, ℕ, ◌+◌, ◌<◌, List, ◌++◌, length, get_or, take, take_all, append-nil, min, sym, ap, ◌∙◌, arith}
use Rattle.std.specs.List.{flat_map, zip}
use Rattle.std.proofs.lemmas.List.{take_more}
use Rattle.std.proofs.lemmas.List.Concat.{flat_map-append}
use Rattle.std.proofs.lemmas.Slice.Zip.{length-zip, get_or-zip}
use Rattle.hda_files.specs.declared.machine.CodecFile.{CodecFile}
use Rattle.route_planner.specs.declared.routes.Plan.{Plan}
use Rattle.capture_report.specs.CaptureLines.{inputs_in}

-- the lines of one codec more
pub inputs-more : (files : List CodecFile) (plans : List Plan) (n : ℕ) (file : CodecFile) (plan : Plan) → n < length files → n < length plans
    → ((d : CodecFile) → file ≡ get_or files n d) → ((d : Plan) → plan ≡ get_or plans n d)
    → flat_map inputs_in (take (n + 1) (zip files plans)) ≡ flat_map inputs_in (take n (zip files plans)) ++ inputs_in (file, plan)
inputs-more files plans n file plan in_files in_plans is_file is_plan =
    let within : n < length (zip files plans) = rw length-zip (omega arith) in
    let here : get_or (zip files plans) n (file, plan) ≡ (file, plan) =
    get_or-zip files plans n (file, plan) in_files in_plans ∙ ap (λ x. (x, get_or plans n plan)) (sym (is_file file)) ∙ ap (λ x. (file, x)) (sym (is_plan plan)) in
    rw (take_more (zip files plans) n (file, plan) within, here, flat_map-append) (ap (λ x. flat_map inputs_in (take n (zip files plans)) ++ x) (append-nil (inputs_in (file, plan))))

-- the lines of all codecs
pub inputs-all : (files : List CodecFile) (plans : List Plan) (n : ℕ) → n ≡ min (length files) (length plans) → take n (zip files plans) ≡ zip files plans
inputs-all files plans n e = take_all n (zip files plans) (rw (length-zip, e) (omega arith))
