use Rattle.std.proofs.Common.{◌≡◌, ◌≢◌, ◌+◌, ◌-◌, ◌≤◌, min, ℕ, List, length, take, drop, Bool, true, false, length-drop, rules, tests, ap₂, ◌<◌, ◌==◌, ◌&&◌, ◌++◌, sym, ap, subst, ◌∙◌, arith}
use Rattle.std.proofs.Math.Nat.{min-le_left, min-le_right, le-min}
use Rattle.std.proofs.lemmas.List.{length-take-le, take-take}
use Rattle.circular_buffer.specs.Buffer.{buffer}
use Rattle.world_streams.specs.Streams.{StreamState}
use Rattle.world_streams.specs.Output.{bytes_came, next_of}
use Rattle.stream_fetch.specs.Bytes.{after_bytes}
use Rattle.stream_fetch.specs.Fetching.{Fetching, StandsFor}
use Rattle.stream_fetch.specs.contracts.fetch.Fetch.{the_view}
use Rattle.world_streams.specs.declared.buffers.ListPlace.{ListPlace}
use Rattle.world_streams.specs.declared.buffers.Buffer.{Buffer}
use Rattle.world_streams.specs.Lists.{is_good}
use Rattle.stream_fetch.proofs.Runs.{HasBytes, ends_in, some_come, some_complete, none_break}
use Rattle.stream_fetch.proofs.Standing.{some_more, held_length}
use Rattle.stream_fetch.proofs.fetch.Fetch.fetch_bytes.Goals as goal
use Rattle.stream_fetch.proofs.fetch.Fetch.fetch_bytes.Goals.{then-ends, else-ends}

-- what is seen of the FIFO as the call begins
seen : (c : goal.Joined-ends) → c.args.self.now ≡ the_view c.self.inside
seen c = sym c.self.view_is

-- where the next bytes lie in memory
abbrev place : goal.Joined-ends → ℕ
place c = c.next_buffer-buffer.result.address + c.self.inside.list.fetched

abbrev slice : goal.Joined-ends → List ℕ
slice c = take (place c + c.min-left.result - place c) (drop (place c) c.args.memory.now)

abbrev came : goal.Joined-ends → ℕ
came c = c.fill-count.result

next : (c : goal.Joined-ends) (state : StreamState) → StandsFor c.args.self.now state → c.next_buffer-buffer.result ≡ next_of c.args.memory.now c.args.list.address state
next c state stands = c.next_buffer-buffer.ensures.next state stands

count : (c : goal.Joined-ends) → came c ≡ min (length (slice c)) (c.self.inside.fifo.capacity - length c.self.inside.fifo.items)
count c = c.fill-count.ensures.count

items : (c : goal.Joined-ends) → c.fill-count.new.fifo ≡ buffer (c.self.inside.fifo.items ++ take (came c) (slice c)) c.self.inside.fifo.capacity
items c = c.fill-count.ensures.items

list : (c : goal.Joined-ends) → c.after_bytes-self-inside.result ≡ after_bytes (came c) c.args.list.last c.next_buffer-buffer.result c.self.inside.list
list c = c.after_bytes-self-inside.ensures

good : (c : goal.Joined-ends) → is_good c.args.memory.now c.next_buffer-buffer.result ≡ true
good c = sym c.is_good.ensures ∙ c.if-not-is_good.false

-- some are asked for, and all of them lie in the region
left_bounds : (c : goal.Joined-ends) → (c.min-left.result ≤ c.next_buffer-buffer.result.bytes - c.self.inside.list.fetched) × (1 ≤ c.min-left.result)
left_bounds c =
    let min = c.min-left.ensures in
    let more = c.next_buffer-buffer.ensures.more (good c) in
    let fetched = ap (λ (fetch : Fetching). fetch.list.fetched) (seen c) in
    let below = min-le_left (c.next_buffer-buffer.result.bytes - c.self.inside.list.fetched) c.args.most in
    let above = le-min {k = 1} {a = c.next_buffer-buffer.result.bytes - c.self.inside.list.fetched} {b = c.args.most} (omega (arith, more, fetched)) c.requires in
    (omega (arith, min, below), omega (arith, min, above))

length_is : (c : goal.Joined-ends) → place c + c.min-left.result - place c ≡ c.min-left.result
length_is c = omega arith

long : (c : goal.Joined-ends) → length (slice c) ≡ c.min-left.result
long c =
    let ends = ends_in c.args.memory.now c.next_buffer-buffer.result (good c) in
    let more = c.next_buffer-buffer.ensures.more (good c) in
    let bounds = left_bounds c in
    let is = length_is c in
    length-take-le (place c + c.min-left.result - place c) (drop (place c) c.args.memory.now) (rw (length-drop (place c) c.args.memory.now) (omega (arith, ends, more, bounds.0, is))) ∙ is

-- at least one came, and as many as there is room for
came_bounds : (c : goal.Joined-ends) → (1 ≤ came c) × (came c ≤ c.min-left.result) × (came c ≤ c.self.inside.fifo.capacity - length c.self.inside.fifo.items)
came_bounds c =
    let is = count c in
    let asked = long c in
    let room : length c.self.inside.fifo.items < c.self.inside.fifo.capacity = (let fits = c.self.invariant.fits in let full = c.if-is_full.false in let ensures = c.is_full.ensures in search (rules, tests)) in
    let bounds = left_bounds c in
    let below = min-le_left (length (slice c)) (c.self.inside.fifo.capacity - length c.self.inside.fifo.items) in
    let right = min-le_right (length (slice c)) (c.self.inside.fifo.capacity - length c.self.inside.fifo.items) in
    let above = le-min {k = 1} {a = length (slice c)} {b = c.self.inside.fifo.capacity - length c.self.inside.fifo.items} (omega (arith, asked, bounds.1)) (omega (arith, room)) in
    (omega (arith, is, above), omega (arith, is, below, asked), omega (arith, is, right))

has_bytes : (c : goal.Joined-ends) (state : StreamState) → StandsFor c.args.self.now state
    → HasBytes c.args.self.now.capacity c.args.memory.now c.args.list.address c.args.list.last (came c) state
has_bytes c state stands =
    let bounds = came_bounds c in
    let asked = left_bounds c in
    let held = held_length c.args.self.now state stands in
    let behind = stands.behind in
    let fits = c.self.invariant.fits in
    let fetched : state.list.fetched ≡ c.self.inside.list.fetched = ap (λ (list : ListPlace). list.fetched) (sym stands.list) ∙ ap (λ (fetch : Fetching). fetch.list.fetched) (seen c) in
    let capacity = ap (λ (fetch : Fetching). fetch.capacity) (seen c) in
    let items = ap (λ (fetch : Fetching). length fetch.bytes) (seen c) in
    let bytes = ap (λ (buffer : Buffer). buffer.bytes) (next c state stands) in
    record {
      room = omega (arith, bounds.2, bounds.0, held, behind, fits, capacity, items);
      good = subst (λ (buffer : Buffer). is_good c.args.memory.now buffer ≡ true) (next c state stands) (good c);
      left = omega (arith, bounds.1, bounds.0, asked.0, fetched, bytes);
    }

-- what the FIFO holds now, and where it is in the list
abbrev now : goal.Joined-ends → Fetching
now c = record {
  capacity = c.self.inside.fifo.capacity;
  bytes = c.self.inside.fifo.items ++ take (came c) (drop (place c) c.args.memory.now);
  list = after_bytes (came c) c.args.list.last c.next_buffer-buffer.result c.self.inside.list;
}

now_is : (c : goal.Joined-ends) → the_view record { fifo = c.fill-count.new.fifo; list = c.after_bytes-self-inside.result } ≡ now c
now_is c =
    let bounds = came_bounds c in
    let is = length_is c in
    let bytes = take-take (came c) (place c + c.min-left.result - place c) (drop (place c) c.args.memory.now) (omega (arith, bounds.1, is)) in
    ap₂ (λ fifo (list : ListPlace). the_view record { fifo = fifo; list = list }) (items c) (list c)
    ∙ ap (λ (more : List ℕ). record (now c) { bytes = c.self.inside.fifo.items ++ more }) bytes

pub returns-clause-stands : goal.returns-clause-stands
returns-clause-stands c = λ state stands. (
    let more = some_more (came c) c.args.list.address c.args.list.last c.args.self.now state c.args.memory.now stands in
    let came_all = some_come c.args.self.now.capacity c.args.memory.now c.args.list.address c.args.list.last (came c) (came_bounds c).0 state (has_bytes c state stands) in
    let same = ap₂ (λ (fetch : Fetching) (buffer : Buffer). record {
      capacity = fetch.capacity;
      bytes = fetch.bytes ++ take (came c) (drop (buffer.address + fetch.list.fetched) c.args.memory.now);
      list = after_bytes (came c) c.args.list.last buffer fetch.list;
    }) (sym (seen c)) (next c state stands) in
    let there = ap (λ (list : ListPlace). record {
      capacity = c.args.self.now.capacity;
      bytes = c.args.self.now.bytes ++ take (came c) (drop ((next_of c.args.memory.now c.args.list.address state).address + list.fetched) c.args.memory.now);
      list = after_bytes (came c) c.args.list.last (next_of c.args.memory.now c.args.list.address state) list;
    }) stands.list in
    subst (λ (fetch : Fetching). StandsFor fetch (bytes_came (came c) c.args.self.now.capacity c.args.memory.now c.args.list.address c.args.list.last state)) (sym (now_is c ∙ same ∙ there))
    (subst (StandsFor _) (sym came_all) more))

ends : (c : goal.Joined-ends) → ((c.self.inside.list.fetched + came c == c.next_buffer-buffer.result.bytes) && c.next_buffer-buffer.result.interrupts) ≡ c.if-ends.result
ends c = elim c.if-ends.branch [
  | then-ends w ↦ (let same : c.self.inside.list.fetched + came c ≡ c.next_buffer-buffer.result.bytes = w.if-ends.true in
      let is : (c.self.inside.list.fetched + came c == c.next_buffer-buffer.result.bytes) ≡ true = search (rules, tests) in
      ap (λ (last : Bool). last && c.next_buffer-buffer.result.interrupts) is ∙ sym w.result-is)
  | else-ends w ↦ (let other : c.self.inside.list.fetched + came c ≢ c.next_buffer-buffer.result.bytes = w.if-ends.false in
      let is : (c.self.inside.list.fetched + came c == c.next_buffer-buffer.result.bytes) ≡ false = search (rules, tests) in
      ap (λ (last : Bool). last && c.next_buffer-buffer.result.interrupts) is ∙ sym is ∙ sym w.result-is)
]

pub returns-clause-found : goal.returns-clause-found
returns-clause-found c = λ state stands. (
  some_complete c.args.self.now.capacity c.args.memory.now c.args.list.address c.args.list.last (came c) (came_bounds c).0 state (has_bytes c state stands)
      ∙ ap₂ (λ (list : ListPlace) (buffer : Buffer). (list.fetched + came c == buffer.bytes) && buffer.interrupts) (sym stands.list ∙ ap (λ (fetch : Fetching). fetch.list) (seen c)) (sym (next c state stands))
      ∙ ends c,
  none_break c.args.self.now.capacity c.args.memory.now c.args.list.address c.args.list.last (came c) (came_bounds c).0 state (has_bytes c state stands),
)
