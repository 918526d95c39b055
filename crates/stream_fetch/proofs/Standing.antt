-- What a FIFO stands for, byte by byte.
use Rattle.std.proofs.Common.{◌≡◌, ◌<◌, ◌≤◌, ◌+◌, ◌-◌, ◌==◌, ℕ, true, false, List, ◌++◌, length, take, drop, refl, sym, ap, ◌∙◌, arith, rules, tests, length-append, length-drop}
use Rattle.std.proofs.lemmas.List.{drop-append-le, drop-drop}
use Rattle.world_streams.specs.Streams.{StreamState}
use Rattle.world_streams.specs.Output.{has_room, next_of}
use Rattle.stream_fetch.specs.Bytes.{after_bytes, with_bytes}
use Rattle.stream_fetch.specs.Fetching.{Fetching, StandsFor}
use Rattle.stream_fetch.proofs.Stores.{with_stored}

-- how many bytes it holds
pub held_length : (fetch : Fetching) (state : StreamState) → StandsFor fetch state → length fetch.bytes ≡ length state.entered - state.left
held_length fetch state stands = ap length stands.bytes ∙ length-drop state.left state.entered

pub has_space : (fetch : Fetching) (state : StreamState) → StandsFor fetch state → length fetch.bytes ≤ fetch.capacity
    → (length fetch.bytes == fetch.capacity) ≡ false → has_room fetch.capacity state ≡ true
has_space fetch state stands fits other =
    let long = held_length fetch state stands in
    let behind = stands.behind in
    let less : length fetch.bytes < fetch.capacity = search (rules, tests) in
    let room : length state.entered < state.left + fetch.capacity = omega (arith, long, behind, less) in
    search (rules, tests)

pub has_none : (fetch : Fetching) (state : StreamState) → StandsFor fetch state
    → (length fetch.bytes == fetch.capacity) ≡ true → has_room fetch.capacity state ≡ false
has_none fetch state stands same =
    let long = held_length fetch state stands in
    let behind = stands.behind in
    let equal : length fetch.bytes ≡ fetch.capacity = search (rules, tests) in
    let full : state.left + fetch.capacity ≤ length state.entered = omega (arith, long, behind, equal) in
    search (rules, tests)

-- some bytes more
pub some_more : (count base last : ℕ) (fetch : Fetching) (state : StreamState) (memory : List ℕ) → StandsFor fetch state
    → StandsFor (record fetch {
      bytes = fetch.bytes ++ take count (drop ((next_of memory base state).address + state.list.fetched) memory);
      list = after_bytes count last (next_of memory base state) state.list;
    }) (with_bytes count memory base last state)
some_more count base last fetch state memory stands =
    let behind = stands.behind in
    let more = take count (drop ((next_of memory base state).address + state.list.fetched) memory) in
    record {
      bytes = ap (λ (bytes : List ℕ). bytes ++ more) stands.bytes ∙ sym (drop-append-le state.left state.entered more behind);
      list = refl;
      behind = rw (length-append state.entered more) (omega (arith, behind));
    }

-- some bytes less
pub some_less : (count base last : ℕ) (fetch : Fetching) (state : StreamState) (memory : List ℕ) → StandsFor fetch state → count ≤ length fetch.bytes
    → StandsFor (record fetch {
      bytes = drop count fetch.bytes;
      list = after_bytes count last (next_of memory base state) state.list;
    }) (with_stored count base last (record { memory = memory; state = state })).state
some_less count base last fetch state memory stands few =
    let long = held_length fetch state stands in
    let behind = stands.behind in
    record {
      bytes = ap (drop count) stands.bytes ∙ drop-drop count state.left state.entered;
      list = refl;
      behind = omega (arith, behind, long, few);
    }
