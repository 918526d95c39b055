-- A fetch of an input stream byte by byte, and as a whole: all its bytes, then the interrupt of a buffer that ended,
-- FIFORDY, and DESE.
use Rattle.std.proofs.Common.{◌≡◌, ◌≢◌, ◌<◌, ◌≤◌, ◌+◌, nat_lt, ℕ, zero, suc, Bool, true, false, List, [], ◌∷◌, length, Option, Some, None, unwrap_or, if◌then◌else◌, refl, sym, ap, ◌∙◌, arith, rules, tests}
use Rattle.std.proofs.lemmas.Bool.{ltb-true}
use Rattle.hda_registers.specs.Fields.{is_running, list_address}
use Rattle.world_rings.proofs.Callers.{stored_outside}
use Rattle.world_streams.specs.declared.buffers.Buffer.{Buffer}
use Rattle.world_streams.specs.declared.buffers.ListPlace.{ListPlace}
use Rattle.world_streams.specs.Lists.{HasMore, IsInUse, is_good, is_last_byte, next_index}
use Rattle.world_streams.specs.Streams.{StreamState, Stream, is_usable, broke}
use Rattle.world_streams.specs.Output.{next_of}
use Rattle.world_streams.specs.Input.{Storage, Emptying, holds_byte, byte_place, oldest_byte, without_byte, stored_byte, stored_one, store_move, store, can_go, byte_gone, next_gone, bytes_went, some_fills, some_jams}
use Rattle.world_streams.proofs.Whole.{Shows, whole, shows_same, whole-byte}
use Rattle.world_streams.proofs.Going.{stays_empty, stays_jammed, remains, none_fills, none_jams, jams_now, jams_later, fills_or, went_on}

-- the stream breaks off
abbrev pub broken_off : Storage → Storage
broken_off storage = record storage { stream = broke storage.stream }

-- the entry of its next byte can be used
abbrev pub finds_good : Storage → Bool
finds_good storage = is_good storage.memory (next_of storage.memory (list_address storage.stream.descriptor) storage.stream.state)

-- ---- one byte

-- what a move comes to
pub store-cases : (Holds : Storage → Type 0) (storage : Storage) → Holds storage
    → (is_running storage.stream.descriptor ≡ true → is_usable storage.stream.descriptor ≡ false → Holds (broken_off storage))
    → (is_running storage.stream.descriptor ≡ true → is_usable storage.stream.descriptor ≡ true → holds_byte storage.stream.state ≡ true → finds_good storage ≡ false → Holds (broken_off storage))
    → (is_running storage.stream.descriptor ≡ true → is_usable storage.stream.descriptor ≡ true → holds_byte storage.stream.state ≡ true → finds_good storage ≡ true → Holds (stored_byte storage))
    → Holds (store_move storage)
store-cases Holds storage still refuses jams stores = by_runs _ refl
  where
    by_good : (runs : is_running storage.stream.descriptor ≡ true) (usable : is_usable storage.stream.descriptor ≡ true) (some : holds_byte storage.stream.state ≡ true) (good : Bool) → finds_good storage ≡ good
        → Holds (if good then stored_byte storage else broken_off storage)
    by_good runs usable some true is = stores runs usable some is
    by_good runs usable some false is = jams runs usable some is

    by_held : (runs : is_running storage.stream.descriptor ≡ true) (usable : is_usable storage.stream.descriptor ≡ true) (some : Bool) → holds_byte storage.stream.state ≡ some
        → Holds (if some then (if finds_good storage then stored_byte storage else broken_off storage) else storage)
    by_held runs usable true is = by_good runs usable is _ refl
    by_held runs usable false is = still

    by_usable : (runs : is_running storage.stream.descriptor ≡ true) (usable : Bool) → is_usable storage.stream.descriptor ≡ usable
        → Holds (if usable then stored_one storage else broken_off storage)
    by_usable runs true is = by_held runs is _ refl
    by_usable runs false is = refuses runs is

    by_runs : (runs : Bool) → is_running storage.stream.descriptor ≡ runs
        → Holds (if runs then (if is_usable storage.stream.descriptor then stored_one storage else broken_off storage) else storage)
    by_runs true is = by_usable is _ refl
    by_runs false is = still

-- ---- many

pub store-add : (m n : ℕ) (storage : Storage) → store (m + n) storage ≡ store n (store m storage)
store-add zero n storage = let all : 0 + n ≡ n = omega arith in ap (λ (n : ℕ). store n storage) all
store-add (suc m) n storage =
    let more : suc m + n ≡ suc (m + n) = omega arith in
    ap (λ (n : ℕ). store n storage) more ∙ store-add m n (store_move storage)

-- where a move changes nothing, none does
store_stays : (n : ℕ) (storage : Storage) → store_move storage ≡ storage → store n storage ≡ storage
store_stays zero storage same = refl
store_stays (suc n) storage same = ap (store n) same ∙ store_stays n storage same

pub store-stopped : (n : ℕ) (storage : Storage) → is_running storage.stream.descriptor ≡ false → store n storage ≡ storage
store-stopped n storage stopped = store_stays n storage (rw stopped refl)

pub store-unusable : (n : ℕ) (storage : Storage) → is_running storage.stream.descriptor ≡ true → is_usable storage.stream.descriptor ≡ false
    → store (suc n) storage ≡ broken_off storage
store-unusable n storage runs unusable =
    let one : store_move storage ≡ broken_off storage = rw (runs, unusable) refl in
    ap (store n) one ∙ store-stopped n (broken_off storage) refl

-- a fact of a storage that each move keeps
kept_by_store : (Holds : Storage → Type 0) → ((storage : Storage) → Holds storage → Holds (store_move storage)) → (n : ℕ) (storage : Storage) → Holds storage → Holds (store n storage)
kept_by_store Holds keeps zero storage holds = holds
kept_by_store Holds keeps (suc n) storage holds = kept_by_store Holds keeps n (store_move storage) (keeps storage holds)

pub store-length : (n : ℕ) (storage : Storage) → length (store n storage).memory ≡ length storage.memory
store-length n storage = kept_by_store (λ (now : Storage). length now.memory ≡ length storage.memory)
    (λ now same. store-cases (λ (now : Storage). length now.memory ≡ length storage.memory) now same (λ runs unusable. same) (λ runs usable some bad. same)
    (λ runs usable some good. (stored_outside (byte_place now.memory (list_address now.stream.descriptor) now.stream.state) (oldest_byte now.stream.state ∷ []) now.memory).0 ∙ same))
    n storage refl

pub store-entered : (n : ℕ) (storage : Storage) → (store n storage).stream.state.entered ≡ storage.stream.state.entered
store-entered n storage = kept_by_store (λ (now : Storage). now.stream.state.entered ≡ storage.stream.state.entered)
    (λ now same. store-cases (λ (now : Storage). now.stream.state.entered ≡ storage.stream.state.entered) now same (λ runs unusable. same) (λ runs usable some bad. same) (λ runs usable some good. same))
    n storage refl

pub store-frame : (n : ℕ) (storage : Storage) → (store n storage).stream.state.frame ≡ storage.stream.state.frame
store-frame n storage = kept_by_store (λ (now : Storage). now.stream.state.frame ≡ storage.stream.state.frame)
    (λ now same. store-cases (λ (now : Storage). now.stream.state.frame ≡ storage.stream.state.frame) now same (λ runs unusable. same) (λ runs usable some bad. same) (λ runs usable some good. same))
    n storage refl

-- no more leaves than entered
pub store-behind : (n : ℕ) (storage : Storage) → storage.stream.state.left ≤ length storage.stream.state.entered
    → (store n storage).stream.state.left ≤ length (store n storage).stream.state.entered
store-behind n storage behind = kept_by_store (λ (now : Storage). now.stream.state.left ≤ length now.stream.state.entered)
    (λ now behind. store-cases (λ (now : Storage). now.stream.state.left ≤ length now.stream.state.entered) now behind (λ runs unusable. behind) (λ runs usable some bad. behind)
    (λ runs usable some good. (let less = ltb-true now.stream.state.left (length now.stream.state.entered) some in omega (arith, less))))
    n storage behind

-- ---- the place in the list

-- the byte lies in the buffer
pub byte-in-buffer : (memory : List ℕ) (base : ℕ) (state : StreamState) → IsInUse state.list → is_good memory (next_of memory base state) ≡ true
    → state.list.fetched < (next_of memory base state).bytes
byte-in-buffer memory base state in_use good = by_buffer state.list.buffer _ in_use good
  where
    some_bytes : (buffer : Buffer) → is_good memory buffer ≡ true → 0 < buffer.bytes
    some_bytes buffer good = search (rules, tests)

    by_buffer : (buffer : Option Buffer) (found : Buffer) → HasMore buffer state.list.fetched → is_good memory (unwrap_or buffer found) ≡ true → state.list.fetched < (unwrap_or buffer found).bytes
    by_buffer None found none good = let some = some_bytes found good in omega (arith, none, some)
    by_buffer (Some buffer) found more good = more

-- after it the place is one again
pub place-in-use : (memory : List ℕ) (base last : ℕ) (state : StreamState) → IsInUse state.list → is_good memory (next_of memory base state) ≡ true
    → IsInUse (without_byte memory base last state).list
place-in-use memory base last state in_use good = by_last _ refl
  where
    buffer : Buffer
    buffer = next_of memory base state

    by_last : (ends : Bool) → is_last_byte (next_of memory base state) state.list ≡ ends
        → (let place : ListPlace = if ends then record { index = next_index last state.list.index; buffer = None; fetched = 0 } else record { index = state.list.index; buffer = Some (next_of memory base state); fetched = state.list.fetched + 1 } in
        IsInUse place)
    by_last true is = refl
    by_last false is =
        let inside = byte-in-buffer memory base state in_use good in
        let other : state.list.fetched + 1 ≢ (next_of memory base state).bytes = search (rules, tests) in
        omega (arith, inside, other)

-- and one of the list's entries is next
pub place-listed : (memory : List ℕ) (base last : ℕ) (state : StreamState) → state.list.index ≤ last → (without_byte memory base last state).list.index ≤ last
place-listed memory base last state listed = by_last (is_last_byte (next_of memory base state) state.list)
  where
    next_listed : (more : Bool) → nat_lt state.list.index last ≡ more → (let next : ℕ = if more then state.list.index + 1 else 0 in next ≤ last)
    next_listed true is = let less = ltb-true state.list.index last is in omega (arith, less)
    next_listed false is = omega arith

    by_last : (ends : Bool)
        → (let place : ListPlace = if ends then record { index = next_index last state.list.index; buffer = None; fetched = 0 } else record { index = state.list.index; buffer = Some (next_of memory base state); fetched = state.list.fetched + 1 } in
        place.index ≤ last)
    by_last true = next_listed _ refl
    by_last false = listed

-- ---- as a whole

-- a FIFO alone, of a stream
abbrev pub emptying : Storage → Emptying
emptying storage = record { memory = storage.memory; state = storage.stream.state }

-- the stream and memory after a fetch of at most so many bytes
abbrev pub stored_whole : ℕ → Storage → Storage
stored_whole n storage =
    let base = list_address storage.stream.descriptor in
    let last = storage.stream.descriptor.last_index in
    record {
      memory = (bytes_went n base last (emptying storage)).memory;
      stream = whole (some_fills n base last (emptying storage)) (some_jams n base last (emptying storage)) (bytes_went n base last (emptying storage)).state storage.stream;
    }

storage_same : (c c' b b' : Bool) (went went' : Emptying) (stream : Stream) → c ≡ c' → b ≡ b' → went ≡ went'
    → (let one : Storage = record { memory = went.memory; stream = whole c b went.state stream } in one ≡ record { memory = went'.memory; stream = whole c' b' went'.state stream })
storage_same c c' b b' went went' stream first second third = rw (first, second, third) refl

none_held : (n : ℕ) (storage : Storage) → holds_byte storage.stream.state ≡ false → stored_whole n storage ≡ stored_whole (suc n) storage
none_held n storage none =
    let base = list_address storage.stream.descriptor in
    let last = storage.stream.descriptor.last_index in
    let held = emptying storage in
    let stays = stays_empty base last held none in
    storage_same _ _ _ _ _ _ storage.stream
    (none_fills base last n held stays ∙ sym (none_fills base last (suc n) held stays))
    (none_jams base last n held none ∙ sym (none_jams base last (suc n) held none))
    (remains base last n held stays ∙ sym (remains base last (suc n) held stays))

bad_entry : (n : ℕ) (storage : Storage) → holds_byte storage.stream.state ≡ true → finds_good storage ≡ false → broken_off storage ≡ stored_whole (suc n) storage
bad_entry n storage some bad =
    let base = list_address storage.stream.descriptor in
    let last = storage.stream.descriptor.last_index in
    let held = emptying storage in
    let stays = stays_jammed base last held bad in
    storage_same false _ true _ held _ storage.stream
    (sym (none_fills base last (suc n) held stays))
    (sym (jams_now base last n held some bad))
    (sym (remains base last (suc n) held stays))

good_entry : (n : ℕ) (storage : Storage) → holds_byte storage.stream.state ≡ true → finds_good storage ≡ true → stored_whole n (stored_byte storage) ≡ stored_whole (suc n) storage
good_entry n storage some good =
    let base = list_address storage.stream.descriptor in
    let last = storage.stream.descriptor.last_index in
    let held = emptying storage in
    let next = emptying (stored_byte storage) in
    ap (λ (stream : Stream). record { memory = (bytes_went n base last next).memory; stream = stream })
    (whole-byte storage.memory _ (some_fills n base last next) (some_jams n base last next) (bytes_went n base last next).state storage.stream refl)
    ∙ storage_same _ _ _ _ _ _ storage.stream
    (sym (fills_or base last n held some good))
    (sym (jams_later base last n held some good))
    (sym (went_on base last n held some good))

-- one move and then the rest
cases_move : (n : ℕ) (storage : Storage) (some good : Bool) → holds_byte storage.stream.state ≡ some → finds_good storage ≡ good
    → store_move storage ≡ stored_one storage
    → store n storage ≡ stored_whole n storage
    → store n (stored_byte storage) ≡ stored_whole n (stored_byte storage)
    → store (suc n) storage ≡ stored_whole (suc n) storage
cases_move n storage false good some_is good_is move same_rest byte_rest =
    ap (store n) (move ∙ rw some_is refl) ∙ (same_rest ∙ none_held n storage some_is)
cases_move n storage true false some_is good_is move same_rest byte_rest =
    ap (store n) (move ∙ rw (some_is, good_is) refl) ∙ (store-stopped n (broken_off storage) refl ∙ bad_entry n storage some_is good_is)
cases_move n storage true true some_is good_is move same_rest byte_rest =
    ap (store n) (move ∙ rw (some_is, good_is) refl) ∙ (byte_rest ∙ good_entry n storage some_is good_is)

-- of a stream that runs and can be used, whose FIFORDY is shown
pub store-whole : (n : ℕ) (storage : Storage) → is_running storage.stream.descriptor ≡ true → is_usable storage.stream.descriptor ≡ true → Shows storage.stream
    → store n storage ≡ stored_whole n storage
store-whole zero storage runs usable shows = ap (λ (stream : Stream). record { memory = storage.memory; stream = stream }) (sym (shows_same storage.stream shows))
store-whole (suc n) storage runs usable shows =
    cases_move n storage _ _ refl refl (rw (runs, usable) refl) (store-whole n storage runs usable shows)
    (store-whole n (stored_byte storage) runs usable refl)

-- ---- what a FIFO that is emptied keeps

gone_rest : (base last : ℕ) (held : Emptying) (go : Bool)
    → (let next : Emptying = if go then byte_gone base last held else held in
    (length next.memory ≡ length held.memory) × (next.state.entered ≡ held.state.entered) × (next.state.frame ≡ held.state.frame))
gone_rest base last held true = ((stored_outside (byte_place held.memory base held.state) (oldest_byte held.state ∷ []) held.memory).0, refl, refl)
gone_rest base last held false = (refl, refl, refl)

-- the size of memory, what entered, and the frames
pub went-rest : (n base last : ℕ) (held : Emptying)
    → (length (bytes_went n base last held).memory ≡ length held.memory) × ((bytes_went n base last held).state.entered ≡ held.state.entered)
    × ((bytes_went n base last held).state.frame ≡ held.state.frame)
went-rest zero base last held = (refl, refl, refl)
went-rest (suc n) base last held =
    let one = gone_rest base last held (can_go base held) in
    let later = went-rest n base last (next_gone base last held) in
    (later.0 ∙ one.0, later.1 ∙ one.1, later.2 ∙ one.2)
