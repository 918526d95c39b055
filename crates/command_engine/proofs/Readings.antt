-- Entries that are read one after another.
use Rattle.std.proofs.Common.{◌≡◌, ◌≤◌, ◌+◌, ◌*◌, ◌%◌, ℕ, Bool, true, false, List, [], ◌∷◌, ◌++◌, length, map, Option, Some, None, refl, sym, ap, ◌∙◌, subst, append_assoc, append-nil, length-append, arith, lit≤, if◌then◌else◌}
use Rattle.std.specs.Prelude.{filter}
use Rattle.std.specs.List.{find}
use Rattle.std.specs.Option.{option_map, option_or}
use Rattle.std.proofs.lemmas.List.{map-append}
use Rattle.std.proofs.lemmas.List.Elements.{filter-append, All-push, All-nil}
use Rattle.std.proofs.lemmas.List.Folds.{find-append}
use Rattle.world_rings.specs.declared.response.Response.{Response}
use Rattle.world_rings.specs.declared.entries.TheConstants.{RESPONSE_BYTES}
use Rattle.hda_world.specs.Events as happens
use Rattle.hda_world.specs.Tellings.{Telling, Between, BetweenBy, Makes, Accessed}
use Rattle.hda_world.proofs.Callers.{row_one, row_more, row_both}
use Rattle.command_engine.specs.declared.answers.Event.{Event}
use Rattle.command_engine.specs.Entries.{response_in, responses_in, event_of, unasked_events_of, answers_it, answer_among}
use Rattle.command_engine.specs.declared.answers.Outstanding.{Outstanding}
use Rattle.command_engine.specs.declared.answers.Poll.{Poll}
use Rattle.command_engine.specs.declared.ring_places.RingPlaces.{RingPlaces}
use Rattle.verb_codes.specs.Words.{has_bit}
use Rattle.hda_registers.specs.Fields.{entries_of}
use Rattle.hda_registers.specs.declared.shapes.Width.TheVariants.{One, Two}
use Rattle.hda_registers.specs.declared.places.TheConstants.{RIRBWP, RIRBSTS}
use Rattle.command_engine.specs.Polling.{entry_reads, batch_accesses, new_entries, asked_of, poll_of, still_outstanding, Polls}
use Rattle.command_engine.specs.Reading.{found_with, event_in, ReadsEntries, ReadsBatch, ReadsNew}

none_by : (told : Option Telling) → BetweenBy (Makes []) told told
none_by (Some telling) = record { by = refl }
none_by None = tt

-- where nothing happens, no access is made
pub made_none : (told : Option Telling) → Between (Makes []) told told
made_none told = record { is = none_by told }

reads-push : (rirb size place : ℕ) (entries : List (List ℕ)) (entry : List ℕ)
    → entry_reads rirb size place (entries ++ entry ∷ []) ≡ entry_reads rirb size place entries ++ happens.DmaRead (rirb + RESPONSE_BYTES * ((place + length entries) % size)) entry ∷ []
reads-push rirb size place [] entry = let e : place + 0 ≡ place = omega arith in rw e refl
reads-push rirb size place (first ∷ entries) entry =
    let e : place + 1 + length entries ≡ place + length (first ∷ entries) = omega arith in
    ap (λ (rest : List happens.Event). happens.DmaRead (rirb + RESPONSE_BYTES * (place % size)) first ∷ rest) (reads-push rirb size (place + 1) entries entry ∙ ap (λ (at : ℕ). entry_reads rirb size (place + 1) entries ++ happens.DmaRead (rirb + RESPONSE_BYTES * (at % size)) entry ∷ []) e)

event-one : (response : Response) → unasked_events_of (response ∷ []) ≡ event_in response
event-one response = by response.unsolicited
  where
    by : (told : Bool) → map event_of (if told then response ∷ [] else []) ≡ (if told then event_of response ∷ [] else [])
    by true = refl
    by false = refl

events-push : (responses : List Response) (response : Response) → unasked_events_of (responses ++ response ∷ []) ≡ unasked_events_of responses ++ event_in response
events-push responses response =
    ap (map event_of) (filter-append (λ (r : Response). r.unsolicited) responses (response ∷ []))
    ∙ map-append event_of (filter (λ (r : Response). r.unsolicited) responses) (filter (λ (r : Response). r.unsolicited) (response ∷ []))
    ∙ ap (λ (rest : List Event). unasked_events_of responses ++ rest) (event-one response)

answer-push : (asked : Option ℕ) (responses : List Response) (response : Response) → found_with (answer_among asked responses) asked response ≡ answer_among asked (responses ++ response ∷ [])
answer-push asked responses response =
    by (find (answers_it asked) responses) (answers_it asked response) refl ∙ ap (option_map (λ (r : Response). r.answer)) (sym (find-append (answers_it asked) responses (response ∷ [])))
  where
    by : (found : Option Response) (answers : Bool) → answers_it asked response ≡ answers
        → found_with (option_map (λ (r : Response). r.answer) found) asked response
        ≡ option_map (λ (r : Response). r.answer) (option_or found (if answers then Some response else None))
    by (Some r) answers e = refl
    by None true e = rw e refl
    by None false e = rw e refl

event_read : (responses : List Response) (response : Response) (before after : List Event) → after ≡ before ++ unasked_events_of responses → after ++ event_in response ≡ before ++ unasked_events_of (responses ++ response ∷ [])
event_read responses response before after e =
    ap (λ (events : List Event). events ++ event_in response) e ∙ append_assoc before (unasked_events_of responses) (event_in response) ∙ ap (λ (events : List Event). before ++ events) (sym (events-push responses response))

-- nothing was read
pub reads_none : (rirb size place : ℕ) (asked : Option ℕ) (events : List Event) (told : Option Telling) → ReadsEntries rirb size place 0 asked events events None told told
reads_none rirb size place asked events told = record {
  entries = [];
  number = refl;
  whole = All-nil (λ (entry : List ℕ). length entry ≡ RESPONSE_BYTES);
  made = made_none told;
  events = sym (append-nil events);
  answer = refl;
}

-- one more entry was read
pub reads_more : (rirb size place count : ℕ) (asked : Option ℕ) (before after : List Event) (found : Option ℕ) (old new newer : Option Telling) (entry : List ℕ)
    → ReadsEntries rirb size place count asked before after found old new → length entry ≡ RESPONSE_BYTES
    → Between (λ old new. Accessed old new (happens.DmaRead (rirb + RESPONSE_BYTES * ((place + count) % size)) entry)) new newer
    → ReadsEntries rirb size place (count + 1) asked before (after ++ event_in (response_in entry)) (found_with found asked (response_in entry)) old newer
reads_more rirb size place count asked before after found old new newer entry reads is accessed =
    let responses = map-append response_in reads.entries (entry ∷ []) in
    let once : Between (Makes (happens.DmaRead (rirb + RESPONSE_BYTES * ((place + length reads.entries) % size)) entry ∷ [])) new newer =
    subst (λ (n : ℕ). Between (Makes (happens.DmaRead (rirb + RESPONSE_BYTES * ((place + n) % size)) entry ∷ [])) new newer) (sym reads.number) (row_one accessed) in
    record {
      entries = reads.entries ++ entry ∷ [];
      number = length-append reads.entries (entry ∷ []) ∙ ap (λ (n : ℕ). n + 1) reads.number;
      whole = All-push (λ (entry : List ℕ). length entry ≡ RESPONSE_BYTES) reads.entries entry reads.whole is;
      made = subst (λ (events : List happens.Event). Between (Makes events) old newer) (sym (reads-push rirb size place reads.entries entry)) (row_both reads.made once);
      events = subst (λ (rs : List Response). after ++ event_in (response_in entry) ≡ before ++ unasked_events_of rs) (sym responses) (event_read (responses_in reads.entries) (response_in entry) before after reads.events);
      answer = subst (λ (rs : List Response). found_with found asked (response_in entry) ≡ answer_among asked rs) (sym responses) (ap (λ (f : Option ℕ). found_with f asked (response_in entry)) reads.answer ∙ answer-push asked (responses_in reads.entries) (response_in entry));
    }

-- the same where the place, the response and what comes of it have names of their own
pub reads_next : (rirb size place count at : ℕ) (asked : Option ℕ) (before after later : List Event) (found next : Option ℕ) (old new newer : Option Telling) (entry : List ℕ) (response : Response)
    → ReadsEntries rirb size place count asked before after found old new → length entry ≡ RESPONSE_BYTES
    → Between (λ old new. Accessed old new (happens.DmaRead (rirb + RESPONSE_BYTES * at) entry)) new newer
    → at ≡ (place + count) % size → response ≡ response_in entry → later ≡ after ++ event_in response → next ≡ found_with found asked response
    → ReadsEntries rirb size place (count + 1) asked before later next old newer
reads_next rirb size place count at asked before after later found next old new newer entry response reads is accessed there means told finds =
    let more = reads_more rirb size place count asked before after found old new newer entry reads is
    (subst (λ (at : ℕ). Between (λ old new. Accessed old new (happens.DmaRead (rirb + RESPONSE_BYTES * at) entry)) new newer) there accessed) in
    let events : later ≡ after ++ event_in (response_in entry) = told ∙ ap (λ (r : Response). after ++ event_in r) means in
    let answer : next ≡ found_with found asked (response_in entry) = finds ∙ ap (λ (r : Response). found_with found asked r) means in
    subst (λ (events : List Event). ReadsEntries rirb size place (count + 1) asked before events next old newer) (sym events)
    (subst (λ (answer : Option ℕ). ReadsEntries rirb size place (count + 1) asked before (after ++ event_in (response_in entry)) answer old newer) (sym answer) more)

one_event : (response : Response) → length (event_in response) ≤ 1
one_event response = by response.unsolicited
  where
    by : (told : Bool) → length (if told then event_of response ∷ [] else []) ≤ 1
    by true = lit≤ tt
    by false = lit≤ tt

-- a response tells at most one event
pub event_short : (first before after : List Event) (response : Response) (count : ℕ) → length before ≤ length first + count → after ≡ before ++ event_in response → length after ≤ length first + (count + 1)
event_short first before after response count short is =
    let one = one_event response in
    let long : length after ≡ length before + length (event_in response) = ap length is ∙ length-append before (event_in response) in
    omega arith

-- a batch, of its parts
pub batch_read : (rirb : ℕ) (rings : RingPlaces) (pointer count read : ℕ) (before after : List Event) (found : Option ℕ) (old middle next new : Option Telling)
    → Between (λ old new. Accessed old new (happens.Read RIRBWP Two pointer)) old middle
    → ReadsEntries rirb (entries_of rings.rirb) (rings.read + 1) count (asked_of rings.outstanding) before after found middle next
    → Between (λ old new. Accessed old new (happens.Write RIRBSTS One 1)) next new
    → before ≡ [] → count ≡ new_entries rings pointer → read ≡ pointer % entries_of rings.rirb
    → ReadsBatch rirb rings found (record rings { read = read }) after old new
batch_read rirb rings pointer count read before after found old middle next new first reads last none counted there = record {
  pointer = pointer;
  entries = reads.entries;
  number = reads.number ∙ counted;
  whole = reads.whole;
  made = row_more first (row_both reads.made (row_one last));
  rings_are = ap (λ (read : ℕ). record rings { read = read }) there;
  events_are = reads.events ∙ ap (λ (events : List Event). events ++ unasked_events_of (responses_in reads.entries)) none;
  found_is = reads.answer;
}

-- the flag is set, and a batch was read
pub new_read : (rirb flag : ℕ) (rings rings' : RingPlaces) (found : Option ℕ) (events : List Event) (old new : Option Telling) → has_bit flag 0 ≡ true
    → ReadsBatch rirb rings found rings' events old new → ReadsNew rirb rings flag found rings' events old new
new_read rirb flag rings rings' found events old new set batch = record {
  pointer = batch.pointer;
  entries = batch.entries;
  number = subst (λ (b : Bool). length batch.entries ≡ (if b then new_entries rings batch.pointer else 0)) (sym set) batch.number;
  whole = batch.whole;
  made = subst (λ (b : Bool). Between (Makes (if b then batch_accesses rirb rings batch.pointer batch.entries else [])) old new) (sym set) batch.made;
  rings_are = subst (λ (b : Bool). rings' ≡ record rings { read = if b then batch.pointer % entries_of rings.rirb else rings.read }) (sym set) batch.rings_are;
  events_are = batch.events_are;
  found_is = batch.found_is;
}

-- it is not, and nothing was read
pub none_read : (rirb flag : ℕ) (rings : RingPlaces) (events : List Event) (told : Option Telling) → has_bit flag 0 ≡ false → events ≡ [] → ReadsNew rirb rings flag None rings events told told
none_read rirb flag rings events told clear none = record {
  pointer = 0;
  entries = [];
  number = subst (λ (b : Bool). 0 ≡ (if b then new_entries rings 0 else 0)) (sym clear) refl;
  whole = All-nil (λ (entry : List ℕ). length entry ≡ RESPONSE_BYTES);
  made = subst (λ (b : Bool). Between (Makes (if b then batch_accesses rirb rings 0 [] else [])) told told) (sym clear) (made_none told);
  rings_are = subst (λ (b : Bool). rings ≡ record rings { read = if b then 0 % entries_of rings.rirb else rings.read }) (sym clear) refl;
  events_are = none;
  found_is = no_answer rings.outstanding;
}
  where
    no_answer : (outstanding : Option Outstanding) → None ≡ answer_among (asked_of outstanding) []
    no_answer outstanding = refl

-- a poll, of its parts
pub polled : (rirb clock flag : ℕ) (rings read : RingPlaces) (found : Option ℕ) (answer : Poll) (left : Option Outstanding) (events : List Event) (old middle new : Option Telling)
    → Between (λ old new. Accessed old new (happens.Read RIRBSTS One flag)) old middle
    → ReadsNew rirb rings flag found read events middle new
    → answer ≡ poll_of read.outstanding found clock → left ≡ still_outstanding read.outstanding found
    → Polls rirb clock rings answer (record read { outstanding = left }) events old new
polled rirb clock flag rings read found answer left events old middle new first reads answers leaves =
    let stands : read.outstanding ≡ rings.outstanding = ap (λ (r : RingPlaces). r.outstanding) reads.rings_are in
    record {
      reads = record { flag = flag; pointer = reads.pointer; entries = reads.entries };
      new_ones = record { number = reads.number; whole = reads.whole };
      made = row_more first reads.made;
      answer_is = answers ∙ ap (λ (o : Option Outstanding). poll_of o found clock) stands ∙ ap (λ (f : Option ℕ). poll_of rings.outstanding f clock) reads.found_is;
      rings_are = ap (λ (r : RingPlaces). record r { outstanding = left }) reads.rings_are ∙ ap (λ (o : Option Outstanding). record rings { read = if has_bit flag 0 then reads.pointer % entries_of rings.rirb else rings.read; outstanding = o })
          (leaves ∙ ap (λ (o : Option Outstanding). still_outstanding o found) stands ∙ ap (λ (f : Option ℕ). still_outstanding rings.outstanding f) reads.found_is);
      events_are = reads.events_are;
    }
