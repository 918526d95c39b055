use Rattle.std.proofs.Common.{◌≡◌, ℕ, ◌<◌, false, slice_index_or, arith}
use Rattle.std.proofs.lemmas.List.FromFn.{fill_by_all}
use Rattle.hda_files.specs.Starts.{is_plugged}
use Rattle.hda_files.proofs.start.presence_of.Goals as goal

pub returns : goal.returns
returns c =
    let each : (k : ℕ) → k < 128 → slice_index_or c.loop-nid.present k false ≡ is_plugged c.args.nodes.now k =
    λ k below. c.loop-nid.invariant.each k (omega arith) in
    fill_by_all (is_plugged c.args.nodes.now) c.loop-nid.present 128 false c.loop-nid.invariant.size each
