-- The settings while they are opened, key by key.
use Rattle.std.specs.Prelude.{List}
use Rattle.codec_graph.specs.declared.raw.RawCodec.{RawCodec}
use Rattle.codec_graph.specs.declared.controls.ControlKey.{ControlKey}
use Rattle.codec_graph.specs.Settings.{Entries, owned_keys, opened}

-- the opening values of those of some keys whose control the node has
abbrev pub opened_so_far : RawCodec → List ControlKey → Entries
opened_so_far codec keys = opened codec (owned_keys codec keys)
