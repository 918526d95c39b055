-- What an array of the TOML reader holds.
use Rattle.std.specs.Prelude.{List, Vec}
use Rattle.std.specs.List.{filter_map}
use Rattle.std.specs.declared.alloc.Global.{Global}
use Rattle.toml.specs.declared.value.Value.{Value}
use Rattle.toml.specs.Data.{Data, Members, as_table}
use Rattle.toml.specs.View.{array_view}
use Rattle.hda_files.specs.Values.{values_of}

-- the values of an array
abbrev pub values_in : Vec Value Global → List Data
values_in array = values_of (array_view array)

-- the tables among them
abbrev pub tables_in : Vec Value Global → List Members
tables_in array = filter_map as_table (values_in array)
