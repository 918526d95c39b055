-- What holds of a machine that a codec file describes.
use Rattle.std.proofs.Common.{◌≡◌, ◌≤◌, ℕ, Bool, true, false, List, [], ◌∷◌, length, map, All, Option, Some, None, Result, Ok, Err, IfOk, inl, inr, refl, sym, ap, subst, arith}
use Rattle.std.specs.Str.{is_utf8}
use Rattle.std.proofs.lemmas.Str.{IsUtf8-from_is_utf8, is_utf8-from_IsUtf8}
use Rattle.std.proofs.lemmas.List.{length-map}
use Rattle.std.proofs.lemmas.List.Elements.{All-nil, All-cons, All-head, All-tail}
use Rattle.toml.specs.Data.{Members}
use Rattle.toml.specs.Parse.{parse_document}
use Rattle.codec_graph.specs.Cycles.{IsWellFormed}
use Rattle.laws_settings.specs.Readings.{KeepsDefaults}
use Rattle.hda_files.specs.declared.machine.Machine.{Machine}
use Rattle.hda_files.specs.declared.machine.CodecFile.{CodecFile}
use Rattle.hda_files.specs.declared.fault.FileFault.{FileFault}
use Rattle.hda_files.specs.Tops.{machine_table_of}
use Rattle.hda_files.specs.Machines.{codec_file, IsGoodCodec, IsJudgedMachine, IsJudged, IsReadingOf, IsReadingOfBytes, IsSoundCodec, IsSound, by_address}
use Rattle.hda_controller.specs.Openings.{codec_in, codecs_in}
use Rattle.heard_lists.specs.Listings.{graphs_in}
use Rattle.laws_start.specs.Reading.{IsRead, IsWhole}
use Rattle.laws_start.proofs.Few.{few_in_table, by_address-short}
use Rattle.laws_start.proofs.Fifo.{IsWithin, fifo_in_table}
use Rattle.laws_start.proofs.Defaults.{start_has_defaults}

-- ---- its codecs

all_well_formed : (tables : _) → All IsGoodCodec tables → All IsWellFormed (graphs_in (map codec_file tables))
all_well_formed [] good = All-nil IsWellFormed
all_well_formed (table ∷ tables) good =
    All-cons IsWellFormed (codec_file table).graph (graphs_in (map codec_file tables)) (All-head IsGoodCodec table tables good).graph (all_well_formed tables (All-tail IsGoodCodec table tables good))

all_keep_defaults : (tables : _) → All IsGoodCodec tables → All IsSoundCodec (map codec_file tables) → All KeepsDefaults (codecs_in (map codec_file tables))
all_keep_defaults [] good sound = All-nil KeepsDefaults
all_keep_defaults (table ∷ tables) good sound =
    let file = codec_file table in
    let settings = (All-head IsSoundCodec file (map codec_file tables) sound).settings in
    All-cons KeepsDefaults (codec_in file) (codecs_in (map codec_file tables))
    (record { settings = settings; defaults = start_has_defaults file.graph table.group_power table.nodes (All-head IsGoodCodec table tables good).graph settings })
    (all_keep_defaults tables (All-tail IsGoodCodec table tables good) (All-tail IsSoundCodec file (map codec_file tables) sound))

few_files : (tables : _) → length tables ≤ 4 → length (map codec_file (by_address tables)) ≤ 4
few_files tables few = (let same = length-map (by_address tables) codec_file in let less = by_address-short tables in omega (arith, same, less, few))

-- ---- its top table

judged_whole : (table : _) (machine : Machine) → IsJudgedMachine table (Ok machine) → length table.codecs ≤ 4 → IsWithin 8 4096 table.fifo → IsSound machine → IsWhole machine
judged_whole table machine judged few fifo sound =
    let codecs : machine.codecs ≡ map codec_file (by_address table.codecs) = ap (λ (one : Machine). one.codecs) judged.0 in
    let same : machine.fifo ≡ table.fifo = ap (λ (one : Machine). one.fifo) judged.0 in
    record {
      some_fifo = omega (arith, same, fifo.0);
      small_fifo = omega (arith, same, fifo.1);
      well_formed = subst (λ (files : List CodecFile). All IsWellFormed (graphs_in files)) (sym codecs) (all_well_formed (by_address table.codecs) judged.1);
      few = subst (λ (files : List CodecFile). length files ≤ 4) (sym codecs) (few_files table.codecs few);
      defaults = subst (λ (files : List CodecFile). All KeepsDefaults (codecs_in files)) (sym codecs)
          (all_keep_defaults (by_address table.codecs) judged.1 (subst (λ (files : List CodecFile). All IsSoundCodec files) codecs sound.each));
    }

meant_whole : (meant : Result _ FileFault) (machine : Machine) → IsJudged meant (Ok machine) → IfOk meant (λ table. length table.codecs ≤ 4) → IfOk meant (λ table. IsWithin 8 4096 table.fifo) → IsSound machine → IsWhole machine
meant_whole (Ok table) machine judged few fifo sound = judged_whole table machine judged few fifo sound
meant_whole (Err fault) machine judged few fifo sound = cc

top_of : (bytes : List ℕ) (machine : Machine) (text : Bool) (parsed : Option Members) → is_utf8 bytes ≡ text → parse_document bytes ≡ parsed
    → IsReadingOfBytes bytes (Ok machine) → (top : Members) × IsReadingOf top (Ok machine)
top_of bytes machine true (Some top) is parses reading = (top, reading.of_table top (IsUtf8-from_is_utf8 bytes is, parses))
top_of bytes machine true None is parses reading = (let none = reading.of_none (λ top has. (let there = has.1 in cc)) in cc)
top_of bytes machine false parsed is parses reading = (let none = reading.of_none (λ top has. (let text = is_utf8-from_IsUtf8 bytes has.0 in cc)) in cc)

pub whole : (machine : Machine) → IsSound machine → IsRead machine → IsWhole machine
whole machine sound (bytes, inl memory) = cc
whole machine sound (bytes, inr reading) =
    let top = top_of bytes machine (is_utf8 bytes) (parse_document bytes) refl refl reading in
    meant_whole (machine_table_of top.0) machine top.1 (few_in_table top.0) (fifo_in_table top.0) sound
