-- What is left of a store after some of its bytes.
use Rattle.std.proofs.Common.{◌≡◌, ◌+◌, ◌||◌, ℕ, suc, Bool, true, false, List, refl, sym, ap, subst, ◌∙◌}
use Rattle.world_streams.specs.Streams.{StreamState}
use Rattle.world_streams.specs.Input.{Emptying, bytes_went, some_fills, some_jams}
use Rattle.world_streams.proofs.Callers.{stays_empty, stays_jammed, remains, none_fills, none_jams, jams_now}
use Rattle.stream_fetch.specs.Fetching.{Fetching, StandsFor}
use Rattle.stream_fetch.specs.declared.fetch.storing.Portion.TheVariants.{Empty, Jammed, Went}
use Rattle.stream_fetch.specs.Storing.{IsPortion}
use Rattle.stream_fetch.proofs.Stores.{went_both, fills_both, jams_both, or_false, or_assoc}

-- a FIFO in this state, with memory
abbrev pub with_memory : List ℕ → StreamState → Emptying
with_memory memory state = record { memory = memory; state = state }

-- of a store of so many bytes from a FIFO on these are left, from the state for which the code stands now
pub record Remains (base last most left : ℕ) (done : Bool) (fetch : Fetching) (memory : List ℕ) (start : Emptying) : Type 0 where
  pub state : StreamState
  pub stands : StandsFor fetch state
  pub went : bytes_went most base last start ≡ bytes_went left base last (with_memory memory state)
  pub filling : some_fills most base last start ≡ (done || some_fills left base last (with_memory memory state))
  pub jamming : some_jams most base last start ≡ some_jams left base last (with_memory memory state)

module _ (base last : ℕ) where
  -- what a store came to
  pub record Emptied (most : ℕ) (done broken : Bool) (fetch : Fetching) (memory : List ℕ) (start : Emptying) : Type 0 where
    pub stands : StandsFor fetch (bytes_went most base last start).state
    pub memory_is : memory ≡ (bytes_went most base last start).memory
    pub filling : done ≡ some_fills most base last start
    pub jamming : broken ≡ some_jams most base last start

  -- where all stays as it is
  ended : (most : ℕ) (done broken : Bool) (fetch : Fetching) (memory now : List ℕ) (start : Emptying) (state : StreamState) → bytes_went most base last start ≡ with_memory memory state
      → StandsFor fetch state → now ≡ memory → done ≡ some_fills most base last start → broken ≡ some_jams most base last start → Emptied most done broken fetch now start
  ended most done broken fetch memory now start state all stands same filling jamming = record {
    stands = subst (λ (held : Emptying). StandsFor fetch held.state) (sym all) stands;
    memory_is = same ∙ ap (λ (held : Emptying). held.memory) (sym all);
    filling = filling;
    jamming = jamming;
  }

  pub emptied_none : (most left : ℕ) (done : Bool) (fetch new : Fetching) (memory now : List ℕ) (start : Emptying) (here : Remains base last most left done fetch memory start)
      → IsPortion base last (with_memory memory here.state) Empty → StandsFor new here.state → now ≡ memory → Emptied most done false new now start
  emptied_none most left done fetch new memory now start here none stands same =
      let held = with_memory memory here.state in
      let stays = stays_empty base last held none in
      ended most done false new memory now start here.state (here.went ∙ remains base last left held stays) stands same
      (sym (here.filling ∙ (ap (λ (more : Bool). done || more) (none_fills base last left held stays) ∙ or_false done)))
      (sym (here.jamming ∙ none_jams base last left held none))

  pub emptied_jammed : (most left : ℕ) (done : Bool) (fetch new : Fetching) (memory now : List ℕ) (start : Emptying) (here : Remains base last most (suc left) done fetch memory start)
      → IsPortion base last (with_memory memory here.state) Jammed → StandsFor new here.state → now ≡ memory → Emptied most done true new now start
  emptied_jammed most left done fetch new memory now start here bad stands same =
      let held = with_memory memory here.state in
      let stays = stays_jammed base last held bad.1 in
      ended most done true new memory now start here.state (here.went ∙ remains base last (suc left) held stays) stands same
      (sym (here.filling ∙ (ap (λ (more : Bool). done || more) (none_fills base last (suc left) held stays) ∙ or_false done)))
      (sym (here.jamming ∙ jams_now base last left held bad.0 bad.1))

  pub went_more : (most left count rest : ℕ) (done ends : Bool) (fetch new : Fetching) (memory now : List ℕ) (start : Emptying) (here : Remains base last most left done fetch memory start) → left ≡ count + rest
      → IsPortion base last (with_memory memory here.state) (Went count ends) → StandsFor new (bytes_went count base last (with_memory memory here.state)).state
      → now ≡ (bytes_went count base last (with_memory memory here.state)).memory
      → Remains base last most rest (done || ends) new now start
  went_more most left count rest done ends fetch new memory now start here parts portion stands same =
      let held = with_memory memory here.state in
      let next = bytes_went count base last held in
      let is : next ≡ with_memory now next.state = ap (λ (memory : List ℕ). with_memory memory next.state) (sym same) in
      record {
        state = next.state;
        stands = stands;
        went = here.went ∙ went_both base last count rest left parts held ∙ ap (bytes_went rest base last) is;
        filling = (
            here.filling
            ∙ ap (λ (more : Bool). done || more) (fills_both base last count rest left parts held)
            ∙ or_assoc done (some_fills count base last held) _
            ∙ ap (λ (ends : Bool). (done || ends) || some_fills rest base last next) portion.0
            ∙ ap (λ (held : Emptying). (done || ends) || some_fills rest base last held) is);
        jamming = (
            here.jamming
            ∙ jams_both base last count rest left parts held
            ∙ ap (λ (jams : Bool). jams || some_jams rest base last next) portion.1
            ∙ ap (some_jams rest base last) is);
      }

  pub emptied_all : (most : ℕ) (done : Bool) (fetch : Fetching) (memory : List ℕ) (start : Emptying) → Remains base last most 0 done fetch memory start → Emptied most done false fetch memory start
  emptied_all most done fetch memory start here =
      ended most done false fetch memory memory start here.state here.went here.stands refl
      (sym (here.filling ∙ or_false done)) (sym here.jamming)

  pub at_first : (most : ℕ) (fetch : Fetching) (memory : List ℕ) (state : StreamState) → StandsFor fetch state → Remains base last most most false fetch memory (with_memory memory state)
  at_first most fetch memory state stands = record { state = state; stands = stands; went = refl; filling = refl; jamming = refl }
