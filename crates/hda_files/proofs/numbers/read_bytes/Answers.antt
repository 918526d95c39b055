use Rattle.std.proofs.Common.{◌≤◌, length, vec_len, arith}
use Rattle.std.proofs.lemmas.Result.{IfOk-weaker}
use Rattle.toml.specs.View.{view}
use Rattle.hda_files.specs.Values.{number_up_to}
use Rattle.hda_files.proofs.ArrayLemmas.{filter_map-view}
use Rattle.hda_files.proofs.NumberLemmas.{few-numbers}
use Rattle.hda_files.proofs.Meant.{IsMeant-from}
use Rattle.hda_files.proofs.numbers.read_bytes.Goals as goal

pub returns-clause-value : goal.returns-clause-value
returns-clause-value c =
    rw (c.in_ok-array.ensures.value, filter_map-view (number_up_to 255) c.in_ok-array.array.now.items)
    (IsMeant-from c.bytes_in.result _ c.bytes_in.ensures.list c.bytes_in.ensures.memory)

pub returns-clause-few : goal.returns-clause-few
returns-clause-few c =
    let few : vec_len c.in_ok-array.array.now ≤ c.args.count = c.in_ok-array.ensures.few in
    IfOk-weaker c.bytes_in.result _ (λ numbers. length numbers ≤ c.args.count) (λ numbers e. rw e (few-numbers (λ value. number_up_to 255 (view value)) c.in_ok-array.array.now.items c.args.count (omega arith))) c.bytes_in.ensures.list
