use Rattle.std.proofs.Common.{sym, ◌∙◌, rules, tests}
use Rattle.std.proofs.lemmas.Iterator.{YieldsList-from_slice}
use Rattle.std.proofs.lemmas.Iterator.Search.{all_from_yields_List}
use Rattle.toml.specs.View.{view}
use Rattle.hda_files.specs.Values.{is_integer}
use Rattle.hda_files.proofs.ArrayLemmas.{list_all-view}
use Rattle.hda_files.proofs.numbers.all_integers.Goals as goal

pub returns : goal.returns
returns c =
    all_from_yields_List (λ value. is_integer (view value)) _ _ c.all.result c.all.ensures.ran (YieldsList-from_slice c.args.array.now.items cc) (λ x b q k. search (rules, tests))
    ∙ sym (list_all-view is_integer c.args.array.now.items)
