use Rattle.std.proofs.Common.{◌≡◌, ◌≢◌, ◌+◌, ◌-◌, ◌≤◌, ◌<◌, ◌==◌, ◌&&◌, ℕ, List, length, take, drop, Bool, true, false, rules, tests, sym, ap, ap₂, subst, ◌∙◌, arith}
use Rattle.std.proofs.Math.Nat.{min-le_left, min-le_right, le-min}
use Rattle.world_rings.specs.Memory.{stored}
use Rattle.world_streams.specs.declared.buffers.ListPlace.{ListPlace}
use Rattle.world_streams.specs.declared.buffers.Buffer.{Buffer}
use Rattle.world_streams.specs.Lists.{is_good}
use Rattle.world_streams.specs.Streams.{StreamState, held_bytes}
use Rattle.world_streams.specs.Output.{next_of}
use Rattle.world_streams.specs.Input.{Emptying, byte_place, bytes_went}
use Rattle.stream_fetch.specs.Bytes.{after_bytes}
use Rattle.stream_fetch.specs.Fetching.{Fetching, StandsFor}
use Rattle.stream_fetch.specs.contracts.fetch.Fetch.{the_view}
use Rattle.stream_fetch.proofs.Stores.{HoldsBytes, with_stored, some_go, some_fill, none_jam}
use Rattle.stream_fetch.proofs.Standing.{some_less, held_length}
use Rattle.stream_fetch.proofs.fetch.Fetch.store_bytes.Goals as goal
use Rattle.stream_fetch.proofs.fetch.Fetch.store_bytes.Goals.{then-ends, else-ends}

-- what is seen of the FIFO as the call begins
seen : (c : goal.Joined-ends) → c.args.self.now ≡ the_view c.self.inside
seen c = sym c.self.view_is

-- where the next bytes go in memory
abbrev place : goal.Joined-ends → ℕ
place c = c.next_buffer-buffer.result.address + c.self.inside.list.fetched

abbrev went : goal.Joined-ends → ℕ
went c = c.put-count.result

abbrev items : goal.Joined-ends → List ℕ
items c = c.self.inside.fifo.items

-- the FIFO with memory, as the call begins
abbrev held : goal.Joined-ends → StreamState → Emptying
held c state = record { memory = c.args.memory.now; state = state }

next : (c : goal.Joined-ends) (state : StreamState) → StandsFor c.args.self.now state → c.next_buffer-buffer.result ≡ next_of c.args.memory.now c.args.list.address state
next c state stands = c.next_buffer-buffer.ensures.next state stands

good : (c : goal.Joined-ends) → is_good c.args.memory.now c.next_buffer-buffer.result ≡ true
good c = sym c.is_good.ensures ∙ c.if-not-is_good.false

-- some are asked for, and all of them lie in the buffer
left_bounds : (c : goal.Joined-ends) → (c.min-left.result ≤ c.next_buffer-buffer.result.bytes - c.self.inside.list.fetched) × (1 ≤ c.min-left.result)
left_bounds c =
    let min = c.min-left.ensures in
    let more = c.next_buffer-buffer.ensures.more (good c) in
    let fetched = ap (λ (fetch : Fetching). fetch.list.fetched) (seen c) in
    let below = min-le_left (c.next_buffer-buffer.result.bytes - c.self.inside.list.fetched) c.args.most in
    let above = le-min {k = 1} {a = c.next_buffer-buffer.result.bytes - c.self.inside.list.fetched} {b = c.args.most} (omega (arith, more, fetched)) c.requires in
    (omega (arith, min, below), omega (arith, min, above))

-- at least one went, and no more than are held
went_bounds : (c : goal.Joined-ends) → (1 ≤ went c) × (went c ≤ c.min-left.result) × (went c ≤ length (items c))
went_bounds c =
    let is = c.put-count.ensures.count in
    let some : 0 < length (items c) = (let none = c.if-is_empty.false in let ensures = c.is_empty.ensures in search (rules, tests)) in
    let bounds = left_bounds c in
    let below = min-le_left c.min-left.result (length (items c)) in
    let right = min-le_right c.min-left.result (length (items c)) in
    let above = le-min {k = 1} {a = c.min-left.result} {b = length (items c)} bounds.1 (omega (arith, some)) in
    (omega (arith, is, above), omega (arith, is, below), omega (arith, is, right))

holds_bytes : (c : goal.Joined-ends) (state : StreamState) → StandsFor c.args.self.now state → HoldsBytes c.args.list.address c.args.list.last (went c) (held c state)
holds_bytes c state stands =
    let bounds = went_bounds c in
    let asked = left_bounds c in
    let long = held_length c.args.self.now state stands in
    let behind = stands.behind in
    let fetched : state.list.fetched ≡ c.self.inside.list.fetched = ap (λ (list : ListPlace). list.fetched) (sym stands.list) ∙ ap (λ (fetch : Fetching). fetch.list.fetched) (seen c) in
    let count = ap (λ (fetch : Fetching). length fetch.bytes) (seen c) in
    let bytes = ap (λ (buffer : Buffer). buffer.bytes) (next c state stands) in
    record {
      some = omega (arith, bounds.2, bounds.0, long, behind, count);
      good = subst (λ (buffer : Buffer). is_good c.args.memory.now buffer ≡ true) (next c state stands) (good c);
      left = omega (arith, bounds.1, bounds.0, asked.0, fetched, bytes);
    }

went_is : (c : goal.Joined-ends) (state : StreamState) → StandsFor c.args.self.now state
    → bytes_went (went c) c.args.list.address c.args.list.last (held c state) ≡ with_stored (went c) c.args.list.address c.args.list.last (held c state)
went_is c state stands = some_go c.args.list.address c.args.list.last (went c) (went_bounds c).0 (held c state) (holds_bytes c state stands)

-- what the FIFO holds now, and where it is in the list
abbrev now : goal.Joined-ends → Fetching
now c = record {
  capacity = c.self.inside.fifo.capacity;
  bytes = drop (went c) (items c);
  list = after_bytes (went c) c.args.list.last c.next_buffer-buffer.result c.self.inside.list;
}

-- the same by the state
abbrev without : goal.Joined-ends → StreamState → Fetching
without c state = record {
  capacity = c.args.self.now.capacity;
  bytes = drop (went c) c.args.self.now.bytes;
  list = after_bytes (went c) c.args.list.last (next_of c.args.memory.now c.args.list.address state) state.list;
}

now_is : (c : goal.Joined-ends) → the_view record { fifo = c.put-count.new.fifo; list = c.after_bytes-self-inside.result } ≡ now c
now_is c = ap₂ (λ fifo (list : ListPlace). the_view record { fifo = fifo; list = list }) c.put-count.ensures.items c.after_bytes-self-inside.ensures

pub returns-clause-stands : goal.returns-clause-stands
returns-clause-stands c = λ state stands. (
    let count = ap (λ (fetch : Fetching). length fetch.bytes) (seen c) in
    let less = some_less (went c) c.args.list.address c.args.list.last c.args.self.now state c.args.memory.now stands (omega (arith, count, (went_bounds c).2)) in
    let same = ap₂ (λ (fetch : Fetching) (buffer : Buffer). record {
      capacity = fetch.capacity;
      bytes = drop (went c) fetch.bytes;
      list = after_bytes (went c) c.args.list.last buffer fetch.list;
    }) (sym (seen c)) (next c state stands) in
    let there = ap (λ (list : ListPlace). record {
      capacity = c.args.self.now.capacity;
      bytes = drop (went c) c.args.self.now.bytes;
      list = after_bytes (went c) c.args.list.last (next_of c.args.memory.now c.args.list.address state) list;
    }) stands.list in
    subst (λ (fetch : Fetching). StandsFor fetch (bytes_went (went c) c.args.list.address c.args.list.last (held c state)).state) (sym (now_is c ∙ same ∙ there))
    (subst (λ (held : Emptying). StandsFor (without c state) held.state) (sym (went_is c state stands)) less))

pub returns-clause-memory : goal.returns-clause-memory
returns-clause-memory c = λ state stands. (
    let at : place c ≡ byte_place c.args.memory.now c.args.list.address state =
    ap₂ (λ (buffer : Buffer) (list : ListPlace). buffer.address + list.fetched) (next c state stands) (ap (λ (fetch : Fetching). fetch.list) (sym (seen c)) ∙ stands.list) in
    let bytes : items c ≡ held_bytes state = ap (λ (fetch : Fetching). fetch.bytes) (sym (seen c)) ∙ stands.bytes in
    c.put-count.ensures.memory
    ∙ ap₂ (λ (at : ℕ) (bytes : List ℕ). stored c.args.memory.now at (take (went c) bytes)) at bytes
    ∙ sym (ap (λ (held : Emptying). held.memory) (went_is c state stands)))

ends : (c : goal.Joined-ends) → ((c.self.inside.list.fetched + went c == c.next_buffer-buffer.result.bytes) && c.next_buffer-buffer.result.interrupts) ≡ c.if-ends.result
ends c = elim c.if-ends.branch [
  | then-ends w ↦ (let same : c.self.inside.list.fetched + went c ≡ c.next_buffer-buffer.result.bytes = w.if-ends.true in
      let is : (c.self.inside.list.fetched + went c == c.next_buffer-buffer.result.bytes) ≡ true = search (rules, tests) in
      ap (λ (last : Bool). last && c.next_buffer-buffer.result.interrupts) is ∙ sym w.result-is)
  | else-ends w ↦ (let other : c.self.inside.list.fetched + went c ≢ c.next_buffer-buffer.result.bytes = w.if-ends.false in
      let is : (c.self.inside.list.fetched + went c == c.next_buffer-buffer.result.bytes) ≡ false = search (rules, tests) in
      ap (λ (last : Bool). last && c.next_buffer-buffer.result.interrupts) is ∙ sym is ∙ sym w.result-is)
]

pub returns-clause-found : goal.returns-clause-found
returns-clause-found c = λ state stands. (
  some_fill c.args.list.address c.args.list.last (went c) (went_bounds c).0 (held c state) (holds_bytes c state stands)
      ∙ ap₂ (λ (list : ListPlace) (buffer : Buffer). (list.fetched + went c == buffer.bytes) && buffer.interrupts) (sym stands.list ∙ ap (λ (fetch : Fetching). fetch.list) (seen c)) (sym (next c state stands))
      ∙ ends c,
  none_jam c.args.list.address c.args.list.last (went c) (went_bounds c).0 (held c state) (holds_bytes c state stands),
)
