-- What a widget's table says of its settings at the start. This project's own; the settings are those of High
-- Definition Audio 1.0a, 7.3.3.
use Rattle.std.specs.Prelude.{ℕ, List, [], Option, Some, None, Result, Ok}
use Rattle.toml.specs.Data.{Data, Members}
use Rattle.codec_graph.specs.Widget.{most_amplified}
use Rattle.hda_files.specs.declared.opening.NodeOpening.{NodeOpening}
use Rattle.hda_files.specs.declared.fault.Place.{Place}
use Rattle.hda_files.specs.declared.fault.Key.{Key}
use Rattle.hda_files.specs.declared.fault.Key.TheVariants.{Select, PowerState, Stream, Control, Unsol, Eapd, Digital}
use Rattle.hda_files.specs.declared.fault.Key.TheVariants.{GainOut, Format, GainIn, Present}
use Rattle.hda_files.specs.declared.fault.FileFault.{FileFault}
use Rattle.hda_files.specs.Values.{◌>>=◌, value_at, given_number, numbers_of, flag_at}

-- the 8 bits of a key, where it is given
abbrev pub given_byte : Members → Place → Key → Result (Option ℕ) FileFault
given_byte table place key = given_number table place key 0 255

-- mute and gain, of 8 bits, of the input amplifiers from the first place of the connection list on
abbrev pub gains_of : Place → Option Data → Result (List ℕ) FileFault
gains_of place None = Ok []
gains_of place (Some value) = numbers_of place GainIn most_amplified 255 value

-- what a table says of its widget's settings
abbrev pub opening_of : Members → Place → Result NodeOpening FileFault
opening_of table place = do
  select ← given_byte table place Select
  power_state ← given_byte table place PowerState
  stream ← given_byte table place Stream
  control ← given_byte table place Control
  unsol ← given_byte table place Unsol
  eapd ← given_byte table place Eapd
  digital ← given_byte table place Digital
  gain_out ← given_byte table place GainOut
  format ← given_number table place Format 0 65535
  gain_in ← gains_of place (value_at table GainIn)
  present ← flag_at table place Present
  Ok (record {
    select = select;
    power_state = power_state;
    stream = stream;
    control = control;
    unsol = unsol;
    eapd = eapd;
    digital = digital;
    gain_out = gain_out;
    format = format;
    gain_in = gain_in;
    present = present;
  })
