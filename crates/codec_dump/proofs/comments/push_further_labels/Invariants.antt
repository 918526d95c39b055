use Rattle.std.proofs.Common.{◌≡◌, ◌++◌, take, string_bytes}
use Rattle.std.specs.List.{flat_map}
use Rattle.codec_dump.specs.Comments.{further_label}
use Rattle.codec_dump.proofs.comments.push_further_labels.Given as goal

-- the labels so far are put
abbrev pub invariant-loop-label : goal.invariant-loop-label
invariant-loop-label l = string_bytes l.text ≡ string_bytes l.initial.text ++ flat_map further_label (take l.label-index l.labels)
