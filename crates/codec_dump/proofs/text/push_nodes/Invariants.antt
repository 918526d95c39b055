use Rattle.std.proofs.Common.{◌≡◌, ◌++◌, drop, string_bytes}
use Rattle.codec_dump.specs.Pieces.{each_from}
use Rattle.codec_dump.specs.Texts.{table_at, nodes_text}
use Rattle.codec_dump.proofs.text.push_nodes.Given as goal

-- with the tables that are left the text is whole
abbrev pub invariant-loop-place : goal.invariant-loop-place
invariant-loop-place l = string_bytes l.text ++ each_from (table_at l.group l.before) l.place (drop l.place l.nodes) ≡ string_bytes l.initial.text ++ nodes_text l.group l.before l.nodes
