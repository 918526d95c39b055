-- What private functions promise one another.
use Rattle.std.specs.Prelude.{◌≡◌}
use Rattle.std.specs.Map.{lookup}
use Rattle.std.specs.BTreeMap.{is_at}
use Rattle.codec_graph.specs.declared.controls.ControlKey.{ControlKey}
use Rattle.codec_graph.specs.Settings.{Entries, key_cmp}

-- a control is set to the same, or neither has it
abbrev pub IsSameAt : Entries → Entries → ControlKey → Type 0
IsSameAt one other at = lookup (is_at (key_cmp at)) one ≡ lookup (is_at (key_cmp at)) other
