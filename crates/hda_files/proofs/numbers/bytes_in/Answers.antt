use Rattle.std.proofs.Common.{◌≡◌, ◌∙◌, vec_items, rules, tests}
use Rattle.std.specs.List.{filter_map}
use Rattle.std.proofs.lemmas.Iterator.{YieldsList-from_slice, items_from_collect}
use Rattle.std.proofs.lemmas.Iterator.Consumers.{YieldsList-from_filter_map}
use Rattle.std.proofs.lemmas.Result.{IfOk-at_ok}
use Rattle.toml.specs.View.{view}
use Rattle.hda_files.specs.Values.{number_up_to}
use Rattle.hda_files.proofs.numbers.bytes_in.Goals as goal

pub returns-clause-list : goal.returns-clause-list
returns-clause-list c =
    let found = items_from_collect _ c.collect.ensures.ran (YieldsList-from_filter_map _ (λ value. number_up_to 255 (view value)) (YieldsList-from_slice c.args.array.now.items cc) c.filter_map.ensures.closure (λ x r q k. search (rules, tests))) in
    c.from_vec.ensures ∙ IfOk-at_ok (λ vector. vec_items vector ≡ filter_map (λ value. number_up_to 255 (view value)) c.args.array.now.items) c.in_ok-numbers.was found
