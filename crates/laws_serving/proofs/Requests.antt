-- The accesses of a stretch, read off what they ask.
use Rattle.std.proofs.Common.{◌≡◌, ℕ, zero, suc, ◌+◌, ◌*◌, ◌%◌, Bool, true, false, List, [], ◌∷◌, ◌++◌, length, Some, refl, sym, ap, ◌∙◌, if◌then◌else◌}
use Rattle.std.specs.Prelude.{All, slice_index}
use Rattle.std.proofs.lemmas.List.Elements.{All-nil, All-cons, All-head, All-tail}
use Rattle.byteorder.specs.Endian.{little_bytes}
use Rattle.verb_codes.specs.Words.{has_bit}
use Rattle.hda_registers.specs.declared.shapes.Width.{Width}
use Rattle.hda_registers.specs.declared.shapes.Width.TheVariants.{One, Two}
use Rattle.hda_registers.specs.declared.places.TheConstants.{CORBWP, RIRBWP, RIRBSTS}
use Rattle.hda_registers.specs.Fields.{entries_of}
use Rattle.world_rings.specs.declared.entries.TheConstants.{COMMAND_BYTES, RESPONSE_BYTES}
use Rattle.hda_world.specs.Events.{Event, Stepped, Begin, End, Read, Write, DmaRead, DmaWrite}
use Rattle.command_engine.specs.declared.ring_places.RingPlaces.{RingPlaces}
use Rattle.command_engine.specs.Submitting.{command_place, submit_accesses}
use Rattle.command_engine.specs.Polling.{PollReads, AreNew, entry_reads, batch_accesses, poll_accesses, new_entries}
use Rattle.driver_progress.specs.Requests.{Request, Gets, Puts, Fetches, Stores, requests_in, requests_of}
use Rattle.driver_progress.specs.Tasks.{Order, Blocks}
use Rattle.driver_progress.specs.Seen.{Seen, values_of}
use Rattle.driver_progress.specs.Expected.{fetches, polls, submits}
use Rattle.rig.specs.Stretches.{is_access}
use Rattle.rig.specs.Follows.{AreAccesses}

abbrev pub IsAccess : Event → Type 0
IsAccess event = is_access event ≡ true

-- ---- one after another

-- the first access asks for this, and the later ones for these
pub record Asks (accesses : List Event) (request : Request) (rest : List Request) : Type 0 where
  pub event : Event
  pub later : List Event
  pub is : accesses ≡ event ∷ later
  pub access : is_access event ≡ true
  pub asks : requests_in event ≡ request ∷ []
  pub rest_is : requests_of later ≡ rest
  pub are : AreAccesses later

pub first_asks : (accesses : List Event) (request : Request) (rest : List Request) → AreAccesses accesses → requests_of accesses ≡ request ∷ rest → Asks accesses request rest
first_asks [] request rest are asks = cc
first_asks (Stepped step ∷ later) request rest are asks = let is = All-head IsAccess (Stepped step) later are in cc
first_asks (Begin ∷ later) request rest are asks = let is = All-head IsAccess Begin later are in cc
first_asks (End ∷ later) request rest are asks = let is = All-head IsAccess End later are in cc
first_asks (Read at width value ∷ later) request rest are asks =
    record { event = Read at width value; later = later; is = refl; access = refl; asks = cc; rest_is = cc; are = All-tail IsAccess (Read at width value) later are }
first_asks (Write at width value ∷ later) request rest are asks =
    record { event = Write at width value; later = later; is = refl; access = refl; asks = cc; rest_is = cc; are = All-tail IsAccess (Write at width value) later are }
first_asks (DmaRead at bytes ∷ later) request rest are asks =
    record { event = DmaRead at bytes; later = later; is = refl; access = refl; asks = cc; rest_is = cc; are = All-tail IsAccess (DmaRead at bytes) later are }
first_asks (DmaWrite at bytes ∷ later) request rest are asks =
    record { event = DmaWrite at bytes; later = later; is = refl; access = refl; asks = cc; rest_is = cc; are = All-tail IsAccess (DmaWrite at bytes) later are }

-- where nothing is asked there is no access
pub none_asked : (accesses : List Event) → AreAccesses accesses → requests_of accesses ≡ [] → accesses ≡ []
none_asked [] are asks = refl
none_asked (Stepped step ∷ later) are asks = let is = All-head IsAccess (Stepped step) later are in cc
none_asked (Begin ∷ later) are asks = let is = All-head IsAccess Begin later are in cc
none_asked (End ∷ later) are asks = let is = All-head IsAccess End later are in cc
none_asked (Read at width value ∷ later) are asks = cc
none_asked (Write at width value ∷ later) are asks = cc
none_asked (DmaRead at bytes ∷ later) are asks = cc
none_asked (DmaWrite at bytes ∷ later) are asks = cc

-- ---- by kind

read_asked : (event : Event) (at : ℕ) (width : Width) → requests_in event ≡ Gets at width ∷ [] → (value : ℕ) × (event ≡ Read at width value)
read_asked (Stepped step) at width asks = cc
read_asked Begin at width asks = cc
read_asked End at width asks = cc
read_asked (Read place wide value) at width asks = (value, cc)
read_asked (Write place wide value) at width asks = cc
read_asked (DmaRead place bytes) at width asks = cc
read_asked (DmaWrite place bytes) at width asks = cc

write_asked : (event : Event) (at : ℕ) (width : Width) (value : ℕ) → requests_in event ≡ Puts at width value ∷ [] → event ≡ Write at width value
write_asked (Stepped step) at width value asks = cc
write_asked Begin at width value asks = cc
write_asked End at width value asks = cc
write_asked (Read place wide given) at width value asks = cc
write_asked (Write place wide given) at width value asks = cc
write_asked (DmaRead place bytes) at width value asks = cc
write_asked (DmaWrite place bytes) at width value asks = cc

fetch_asked : (event : Event) (at count : ℕ) → requests_in event ≡ Fetches at count ∷ [] → (bytes : List ℕ) × (event ≡ DmaRead at bytes) × (length bytes ≡ count)
fetch_asked (Stepped step) at count asks = cc
fetch_asked Begin at count asks = cc
fetch_asked End at count asks = cc
fetch_asked (Read place wide value) at count asks = cc
fetch_asked (Write place wide value) at count asks = cc
fetch_asked (DmaRead place bytes) at count asks = (bytes, cc, cc)
fetch_asked (DmaWrite place bytes) at count asks = cc

store_asked : (event : Event) (at : ℕ) (bytes : List ℕ) → requests_in event ≡ Stores at bytes ∷ [] → event ≡ DmaWrite at bytes
store_asked (Stepped step) at bytes asks = cc
store_asked Begin at bytes asks = cc
store_asked End at bytes asks = cc
store_asked (Read place wide value) at bytes asks = cc
store_asked (Write place wide value) at bytes asks = cc
store_asked (DmaRead place given) at bytes asks = cc
store_asked (DmaWrite place given) at bytes asks = cc

-- a read of a register and what comes after it
pub record Reads (accesses : List Event) (at : ℕ) (width : Width) (rest : List Request) : Type 0 where
  pub value : ℕ
  pub later : List Event
  pub is : accesses ≡ Read at width value ∷ later
  pub rest_is : requests_of later ≡ rest
  pub are : AreAccesses later

pub reads_first : (accesses : List Event) (at : ℕ) (width : Width) (rest : List Request) → AreAccesses accesses → requests_of accesses ≡ Gets at width ∷ rest → Reads accesses at width rest
reads_first accesses at width rest are asks =
    let one = first_asks accesses (Gets at width) rest are asks in
    let read = read_asked one.event at width one.asks in
    record { value = read.0; later = one.later; is = one.is ∙ ap (λ (event : Event). event ∷ one.later) read.1; rest_is = one.rest_is; are = one.are }

-- any other access
pub record Makes (accesses : List Event) (event : Event) (rest : List Request) : Type 0 where
  pub later : List Event
  pub is : accesses ≡ event ∷ later
  pub rest_is : requests_of later ≡ rest
  pub are : AreAccesses later

pub writes_first : (accesses : List Event) (at : ℕ) (width : Width) (value : ℕ) (rest : List Request) → AreAccesses accesses → requests_of accesses ≡ Puts at width value ∷ rest → Makes accesses (Write at width value) rest
writes_first accesses at width value rest are asks =
    let one = first_asks accesses (Puts at width value) rest are asks in
    record { later = one.later; is = one.is ∙ ap (λ (event : Event). event ∷ one.later) (write_asked one.event at width value one.asks); rest_is = one.rest_is; are = one.are }

pub stores_first : (accesses : List Event) (at : ℕ) (bytes : List ℕ) (rest : List Request) → AreAccesses accesses → requests_of accesses ≡ Stores at bytes ∷ rest → Makes accesses (DmaWrite at bytes) rest
stores_first accesses at bytes rest are asks =
    let one = first_asks accesses (Stores at bytes) rest are asks in
    record { later = one.later; is = one.is ∙ ap (λ (event : Event). event ∷ one.later) (store_asked one.event at bytes one.asks); rest_is = one.rest_is; are = one.are }

-- ---- some and then others

pub record InTwo (accesses : List Event) (first second : List Request) : Type 0 where
  pub front : List Event
  pub back : List Event
  pub is : accesses ≡ front ++ back
  pub front_asks : requests_of front ≡ first
  pub back_asks : requests_of back ≡ second
  pub front_are : AreAccesses front
  pub back_are : AreAccesses back

pub in_two : (first second : List Request) (accesses : List Event) → AreAccesses accesses → requests_of accesses ≡ first ++ second → InTwo accesses first second
in_two [] second accesses are asks =
    record { front = []; back = accesses; is = refl; front_asks = refl; back_asks = asks; front_are = All-nil IsAccess; back_are = are }
in_two (request ∷ first) second accesses are asks =
    let one = first_asks accesses request (first ++ second) are asks in
    let rest = in_two first second one.later one.are one.rest_is in
    record {
      front = one.event ∷ rest.front;
      back = rest.back;
      is = one.is ∙ ap (λ (later : List Event). one.event ∷ later) rest.is;
      front_asks = ap (λ (asked : List Request). asked ++ requests_of rest.front) one.asks ∙ ap (λ (asked : List Request). request ∷ asked) rest.front_asks;
      back_asks = rest.back_asks;
      front_are = All-cons IsAccess one.event rest.front one.access rest.front_are;
      back_are = rest.back_are;
    }

-- ---- entries of RIRB

pub record ReadsEntries (rirb size count place : ℕ) (accesses : List Event) : Type 0 where
  pub entries : List (List ℕ)
  pub is : accesses ≡ entry_reads rirb size place entries
  pub number : length entries ≡ count
  pub whole : All (λ (entry : List ℕ). length entry ≡ RESPONSE_BYTES) entries

pub reads_entries : (rirb size count place : ℕ) (accesses : List Event) → AreAccesses accesses → requests_of accesses ≡ fetches rirb size count place → ReadsEntries rirb size count place accesses
reads_entries rirb size zero place accesses are asks =
    record { entries = []; is = none_asked accesses are asks; number = refl; whole = All-nil (λ (entry : List ℕ). length entry ≡ RESPONSE_BYTES) }
reads_entries rirb size (suc count) place accesses are asks =
    let one = first_asks accesses (Fetches (rirb + RESPONSE_BYTES * (place % size)) RESPONSE_BYTES) (fetches rirb size count (place + 1)) are asks in
    let entry = fetch_asked one.event (rirb + RESPONSE_BYTES * (place % size)) RESPONSE_BYTES one.asks in
    let rest = reads_entries rirb size count (place + 1) one.later one.are one.rest_is in
    record {
      entries = entry.0 ∷ rest.entries;
      is = one.is ∙ ap (λ (event : Event). event ∷ one.later) entry.1 ∙ ap (λ (later : List Event). DmaRead (rirb + RESPONSE_BYTES * (place % size)) entry.0 ∷ later) rest.is;
      number = ap suc rest.number;
      whole = All-cons (λ (entry : List ℕ). length entry ≡ RESPONSE_BYTES) entry.0 rest.entries entry.2 rest.whole;
    }

-- ---- a poll

-- these accesses are those of a poll that reads so
pub record IsPoll (rirb : ℕ) (rings : RingPlaces) (seen : Seen) (accesses : List Event) : Type 0 where
  pub reads : PollReads
  pub is : accesses ≡ poll_accesses rirb rings reads
  pub new_ones : AreNew rings reads
  pub flag : seen.flag ≡ reads.flag
  pub pointer : has_bit reads.flag 0 ≡ true → seen.pointer ≡ reads.pointer

module _ (rirb : ℕ) (rings : RingPlaces) (seen : Seen) (back : List Event) where
  -- what it reads is what the stretch saw
  abbrev SeenIn : List Event → Type 0
  SeenIn accesses = (seen.flag ≡ slice_index (values_of (accesses ++ back) RIRBSTS) 0) × (seen.pointer ≡ slice_index (values_of (accesses ++ back) RIRBWP) 0)

  -- after the read of RIRBSTS, where the flag is set
  batch_is : (accesses : List Event) (flag : ℕ) (later : List Event) → accesses ≡ Read RIRBSTS One flag ∷ later → AreAccesses later → seen.flag ≡ flag → SeenIn accesses → has_bit flag 0 ≡ true
      → requests_of later ≡ Gets RIRBWP Two ∷ (fetches rirb (entries_of rings.rirb) (new_entries rings seen.pointer) (rings.read + 1) ++ Puts RIRBSTS One 1 ∷ []) → IsPoll rirb rings seen accesses
  batch_is accesses flag later is are flag_is sees set asks =
      let pointer = reads_first later RIRBWP Two (fetches rirb (entries_of rings.rirb) (new_entries rings seen.pointer) (rings.read + 1) ++ Puts RIRBSTS One 1 ∷ []) are asks in
      let parts = in_two (fetches rirb (entries_of rings.rirb) (new_entries rings seen.pointer) (rings.read + 1)) (Puts RIRBSTS One 1 ∷ []) pointer.later pointer.are pointer.rest_is in
      let entries = reads_entries rirb (entries_of rings.rirb) (new_entries rings seen.pointer) (rings.read + 1) parts.front parts.front_are parts.front_asks in
      let last = writes_first parts.back RIRBSTS One 1 [] parts.back_are parts.back_asks in
      let none = none_asked last.later last.are last.rest_is in
      let whole : accesses ≡ Read RIRBSTS One flag ∷ Read RIRBWP Two pointer.value ∷ pointer.later = is ∙ ap (λ (later : List Event). Read RIRBSTS One flag ∷ later) pointer.is in
      let pointed : seen.pointer ≡ pointer.value = sees.1 ∙ ap (λ (accesses : List Event). slice_index (values_of (accesses ++ back) RIRBWP) 0) whole in
      let ended : parts.back ≡ Write RIRBSTS One 1 ∷ [] = last.is ∙ ap (λ (later : List Event). Write RIRBSTS One 1 ∷ later) none in
      let rest : pointer.later ≡ entry_reads rirb (entries_of rings.rirb) (rings.read + 1) entries.entries ++ Write RIRBSTS One 1 ∷ [] =
      parts.is ∙ ap (λ (front : List Event). front ++ parts.back) entries.is ∙ ap (λ (back : List Event). entry_reads rirb (entries_of rings.rirb) (rings.read + 1) entries.entries ++ back) ended in
      let reads : PollReads = record { flag = flag; pointer = pointer.value; entries = entries.entries } in
      record {
        reads = reads;
        is = whole ∙ ap (λ (rest : List Event). Read RIRBSTS One flag ∷ Read RIRBWP Two pointer.value ∷ rest) rest
            ∙ ap (λ (set : Bool). Read RIRBSTS One flag ∷ (if set then batch_accesses rirb rings pointer.value entries.entries else [])) (sym set);
        new_ones = record {
          number = entries.number ∙ ap (new_entries rings) pointed ∙ ap (λ (set : Bool). if set then new_entries rings pointer.value else 0) (sym set);
          whole = entries.whole;
        };
        flag = flag_is;
        pointer = λ set. pointed;
      }

  -- and where it is not
  idle_is : (accesses : List Event) (flag : ℕ) (later : List Event) → accesses ≡ Read RIRBSTS One flag ∷ later → AreAccesses later → seen.flag ≡ flag → has_bit flag 0 ≡ false → requests_of later ≡ [] → IsPoll rirb rings seen accesses
  idle_is accesses flag later is are flag_is clear asks =
      let none = none_asked later are asks in
      let reads : PollReads = record { flag = flag; pointer = 0; entries = [] } in
      record {
        reads = reads;
        is = is ∙ ap (λ (later : List Event). Read RIRBSTS One flag ∷ later) none ∙ ap (λ (set : Bool). Read RIRBSTS One flag ∷ (if set then batch_accesses rirb rings 0 [] else [])) (sym clear);
        new_ones = record {
          number = ap (λ (set : Bool). if set then new_entries rings 0 else 0) (sym clear);
          whole = All-nil (λ (entry : List ℕ). length entry ≡ RESPONSE_BYTES);
        };
        flag = flag_is;
        pointer = λ set. let z : true ≡ false = sym set ∙ clear in cc;
      }

  poll_by : (b : Bool) (accesses : List Event) (flag : ℕ) (later : List Event) → has_bit flag 0 ≡ b → accesses ≡ Read RIRBSTS One flag ∷ later → AreAccesses later → seen.flag ≡ flag → SeenIn accesses
      → requests_of later ≡ (if b then Gets RIRBWP Two ∷ (fetches rirb (entries_of rings.rirb) (new_entries rings seen.pointer) (rings.read + 1) ++ Puts RIRBSTS One 1 ∷ []) else []) → IsPoll rirb rings seen accesses
  poll_by true accesses flag later set is are flag_is sees asks = batch_is accesses flag later is are flag_is sees set asks
  poll_by false accesses flag later clear is are flag_is sees asks = idle_is accesses flag later is are flag_is clear asks

  pub polled_as : (accesses : List Event) → AreAccesses accesses → SeenIn accesses → requests_of accesses ≡ polls rirb rings seen → IsPoll rirb rings seen accesses
  polled_as accesses are sees asks =
      let first = reads_first accesses RIRBSTS One (if has_bit seen.flag 0 then Gets RIRBWP Two ∷ (fetches rirb (entries_of rings.rirb) (new_entries rings seen.pointer) (rings.read + 1) ++ Puts RIRBSTS One 1 ∷ []) else []) are asks in
      let flag_is : seen.flag ≡ first.value = sees.0 ∙ ap (λ (accesses : List Event). slice_index (values_of (accesses ++ back) RIRBSTS) 0) first.is in
      poll_by (has_bit seen.flag 0) accesses first.value first.later (ap (λ (flag : ℕ). has_bit flag 0) (sym flag_is)) first.is first.are flag_is sees first.rest_is

-- ---- a submission

pub submitted_as : (blocks : Blocks) (rings : RingPlaces) (order : Order) (accesses : List Event) → AreAccesses accesses → requests_of accesses ≡ submits blocks rings (Some order) → accesses ≡ submit_accesses blocks.corb rings order.word
submitted_as blocks rings order accesses are asks =
    let first = stores_first accesses (blocks.corb + COMMAND_BYTES * command_place rings) (little_bytes 4 order.word) (Puts CORBWP Two (command_place rings) ∷ []) are asks in
    let second = writes_first first.later CORBWP Two (command_place rings) [] first.are first.rest_is in
    let none = none_asked second.later second.are second.rest_is in
    first.is ∙ ap (λ (later : List Event). DmaWrite (blocks.corb + COMMAND_BYTES * command_place rings) (little_bytes 4 order.word) ∷ later) second.is
    ∙ ap (λ (later : List Event). DmaWrite (blocks.corb + COMMAND_BYTES * command_place rings) (little_bytes 4 order.word) ∷ Write CORBWP Two (command_place rings) ∷ later) none
