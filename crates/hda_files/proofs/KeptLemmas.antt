-- No codec of a file is left out.
use Rattle.std.proofs.Common.{◌≡◌, ◌<◌, ◌≤◌, ◌+◌, ◌==◌, ◌++◌, ℕ, zero, suc, if◌then◌else◌, List, [], ◌∷◌, length, Option, None, Some, Ok, Err, IfOk, All, inl, inr, refl, ap, ◌∙◌, arith}
use Rattle.std.specs.Prelude.{Contains, is_some}
use Rattle.std.specs.Option.{option_or}
use Rattle.std.specs.List.{find, cons_option}
use Rattle.std.proofs.lemmas.Bool.Decides.{eqb_tells}
use Rattle.std.proofs.lemmas.List.Folds.{find-append}
use Rattle.std.proofs.lemmas.List.Elements.{All-nil, All-push, All-weaker, Contains-append_right}
use Rattle.toml.specs.Data.{Members}
use Rattle.codec_graph.specs.declared.raw.RawCodec.{RawCodec}
use Rattle.hda_files.specs.declared.fault.Place.{Place}
use Rattle.hda_files.specs.declared.fault.Place.TheVariants.{Top, Codec}
use Rattle.hda_files.specs.declared.fault.Key.TheVariants.{Fifo, Corb, Rirb, Codec as CodecKey, Address, Vendor, Revision, AmpIn, AmpOut, Power, Group, GroupType, Formats, Pcm, GroupPower, First, Count, Node as NodeKey}
use Rattle.hda_files.specs.declared.fault.FileFault.{FileFault}
use Rattle.hda_files.specs.declared.fault.FileFault.TheVariants.{Doubled}
use Rattle.hda_files.specs.declared.codec.CodecTable.{CodecTable}
use Rattle.hda_files.specs.declared.top.MachineTable.{MachineTable}
use Rattle.hda_files.specs.Values.{required_number, given_number, number_or, word_or_zero, most_word, tables_at}
use Rattle.hda_files.specs.Nodes.{nodes_after}
use Rattle.hda_files.specs.Codecs.{codec_with_address, address_of, codec_words_of, codec_with, codec_of, codecs_after}
use Rattle.hda_files.specs.Tops.{ring_size_at, codecs_at, machine_table_of}
use Rattle.hda_files.specs.Machines.{by_address}
use Rattle.hda_files.proofs.TableBounds.{IfOk-then, IfOk-after, required-most}
use Rattle.hda_files.proofs.AddressLemmas.{of_addresses}

-- an address that a codec can have and none of these has
record IsFree (codecs : List CodecTable) (address : ℕ) : Type 0 where
  small : address < 15
  absent : codec_with_address codecs address ≡ None

-- the codec is the one of these with its address
record IsFound (codecs : List CodecTable) (codec : CodecTable) : Type 0 where
  small : codec.words.address < 15
  here : codec_with_address codecs codec.words.address ≡ Some codec

abbrev AreFound : List CodecTable → Type 0
AreFound codecs = All (IsFound codecs) codecs

-- where a codec stands in some part of the addresses
contains-option : (found : Option CodecTable) (codecs : List CodecTable) (codec : CodecTable) → Contains codecs codec → Contains (cons_option found codecs) codec
contains-option None codecs codec h = h
contains-option (Some first) codecs codec h = Contains-append_right (first ∷ []) codecs codec h

of_addresses-contains : (codecs : List CodecTable) (first count address : ℕ) (codec : CodecTable) → first ≤ address → address < first + count → codec_with_address codecs address ≡ Some codec → Contains (of_addresses codecs first count) codec
of_addresses-contains codecs first zero address codec low high e = absurd (omega arith)
of_addresses-contains codecs first (suc count) address codec low high e =
    elim (eqb_tells first address) [
      | inl same ↦
          let here : codec_with_address codecs first ≡ Some codec = ap (codec_with_address codecs) same.1 ∙ e in
          rw here (0, omega arith, refl)
      | inr other ↦
          let apart = other.1 in
          contains-option (codec_with_address codecs first) (of_addresses codecs (first + 1) count) codec
          (of_addresses-contains codecs (first + 1) count address codec (omega arith) (omega arith) e)
    ]

found-contained : (codecs : List CodecTable) → AreFound codecs → All (Contains (by_address codecs)) codecs
unfolding by_address
found-contained codecs found =
    All-weaker (IsFound codecs) (Contains (of_addresses codecs 0 15)) (λ codec h. of_addresses-contains codecs 0 15 codec.words.address codec (omega arith) h.small h.here) codecs found

-- one codec more, with an address that was free
still-found : (codecs : List CodecTable) (other : CodecTable) (codec : CodecTable) → IsFound codecs codec → IsFound (codecs ++ other ∷ []) codec
still-found codecs other codec h =
    let has = λ (c : CodecTable). c.words.address == codec.words.address in
    record { small = h.small; here = find-append has codecs (other ∷ []) ∙ ap (λ o. option_or o (find has (other ∷ []))) h.here }

found-alone : (codec : CodecTable) → codec_with_address (codec ∷ []) codec.words.address ≡ Some codec
found-alone codec =
    elim (eqb_tells codec.words.address codec.words.address) [ inl same ↦ rw same.0 refl | inr other ↦ absurd (other.1 refl) ]

last-found : (codecs : List CodecTable) (codec : CodecTable) → IsFree codecs codec.words.address → IsFound (codecs ++ codec ∷ []) codec
last-found codecs codec free =
    let has = λ (c : CodecTable). c.words.address == codec.words.address in
    record { small = free.small; here = find-append has codecs (codec ∷ []) ∙ ap (λ o. option_or o (find has (codec ∷ []))) free.absent ∙ found-alone codec }

found-push : (codecs : List CodecTable) (codec : CodecTable) → AreFound codecs → IsFree codecs codec.words.address → AreFound (codecs ++ codec ∷ [])
found-push codecs codec found free =
    All-push (IsFound (codecs ++ codec ∷ [])) codecs codec (All-weaker (IsFound codecs) (IsFound (codecs ++ codec ∷ [])) (λ other h. still-found codecs codec other h) codecs found) (last-found codecs codec free)

-- an address that is read is free
free-or_doubled : (P : ℕ → Type 0) (found : Option CodecTable) (address : ℕ) (fault : FileFault) → (found ≡ None → P address) → IfOk (if is_some found then Err fault else Ok address) P
free-or_doubled P None address fault h = h refl
free-or_doubled P (Some codec) address fault h = tt

address-free : (table : Members) (place : Place) (earlier : List CodecTable) → IfOk (address_of table place earlier) (IsFree earlier)
address-free table place earlier =
    IfOk-then (λ n. n ≤ 14) (IsFree earlier) (required_number table place Address 0 14) _ (required-most table place Address 0 14)
    (λ address small. free-or_doubled (IsFree earlier) (codec_with_address earlier address) address (Doubled place Address) (λ none. record { small = omega arith; absent = none }))

words-free : (table : Members) (place : Place) (earlier : List CodecTable) → IfOk (codec_words_of table place earlier) (λ words. IsFree earlier words.address)
words-free table place earlier =
    let Q : RawCodec → Type 0 = λ words. IsFree earlier words.address in
    IfOk-then (IsFree earlier) Q (address_of table place earlier) _ (address-free table place earlier)
    (λ address free. IfOk-after Q (required_number table place Vendor 0 most_word) _
    (λ vendor. IfOk-after Q (word_or_zero table place Revision) _
    (λ revision. IfOk-after Q (word_or_zero table place AmpIn) _
    (λ amp_in. IfOk-after Q (word_or_zero table place AmpOut) _
    (λ amp_out. IfOk-after Q (word_or_zero table place Power) _
    (λ power. IfOk-after Q (number_or table place Group 1 127 1) _
    (λ group. IfOk-after Q (number_or table place GroupType 0 most_word 1) _
    (λ group_type. IfOk-after Q (number_or table place Formats 0 most_word 1) _
    (λ formats. IfOk-after Q (number_or table place Pcm 0 most_word 0x00020040)
    (λ pcm. Ok (record { address = address; vendor = vendor; revision = revision; group = group; group_type = group_type; group_words = record { pcm = pcm; formats = formats; amp_in = amp_in; amp_out = amp_out; power = power }; first = 0; count = 0; nodes = [] }))
    (λ pcm. free))))))))))

codec-free : (earlier : List CodecTable) (table : Members) → IfOk (codec_of earlier table) (λ codec. IsFree earlier codec.words.address)
codec-free earlier table =
    let Q : CodecTable → Type 0 = λ codec. IsFree earlier codec.words.address in
    let codec = length earlier in
    let place = Codec codec in
    IfOk-then (λ (words : RawCodec). IsFree earlier words.address) Q (codec_words_of table place earlier) _ (words-free table place earlier)
    (λ words free. IfOk-after Q (number_or table place GroupPower 0 3 0) _
    (λ group_power. IfOk-after Q (given_number table place First 0 127) _
    (λ first. IfOk-after Q (given_number table place Count 0 127) _
    (λ count. IfOk-after Q (tables_at table place NodeKey 126) _
    (λ tables. IfOk-after Q (nodes_after codec [] tables) (λ nodes. Ok (codec_with words group_power first count nodes)) (λ nodes. free))))))

codecs-found : (earlier : List CodecTable) (tables : List Members) → AreFound earlier → IfOk (codecs_after earlier tables) AreFound
codecs-found earlier [] found = found
codecs-found earlier (table ∷ tables) found =
    IfOk-then (λ (codec : CodecTable). IsFree earlier codec.words.address) AreFound (codec_of earlier table) _ (codec-free earlier table)
    (λ codec free. codecs-found (earlier ++ codec ∷ []) tables (found-push earlier codec found free))

-- each table of a file stands among those ascending by address
pub machine_table-kept : (top : Members) → IfOk (machine_table_of top) (λ table. All (Contains (by_address table.codecs)) table.codecs)
machine_table-kept top =
    let Q : MachineTable → Type 0 = λ table. All (Contains (by_address table.codecs)) table.codecs in
    IfOk-after Q (number_or top Top Fifo 8 4096 192) _
    (λ fifo. IfOk-after Q (ring_size_at top Corb) _
    (λ corb. IfOk-after Q (ring_size_at top Rirb) _
    (λ rirb. IfOk-then AreFound Q (codecs_at top) (λ codecs. Ok (record { fifo = fifo; corb = corb; rirb = rirb; codecs = codecs }))
    (IfOk-after AreFound (tables_at top Top CodecKey 4) (λ tables. codecs_after [] tables) (λ tables. codecs-found [] tables (All-nil (IsFound []))))
    (λ codecs found. found-contained codecs found))))
