-- What is left of a fetch after some of its bytes.
use Rattle.std.proofs.Common.{◌≡◌, ◌+◌, ◌||◌, ℕ, suc, Bool, true, false, List, refl, sym, ap, subst, ◌∙◌}
use Rattle.world_streams.specs.Streams.{StreamState}
use Rattle.world_streams.specs.Output.{bytes_came, some_completes, some_breaks}
use Rattle.stream_fetch.specs.Fetching.{Fetching, StandsFor}
use Rattle.stream_fetch.specs.declared.fetch.Bytes.TheVariants.{Full, Broken, Came}
use Rattle.stream_fetch.specs.Bytes.{AreBytes}
use Rattle.stream_fetch.proofs.Runs.{came_both, completes_both, breaks_both}
use Rattle.world_streams.proofs.Callers.{cannot_full, cannot_bad, stays, none_completes, none_breaks, breaks_now}

-- of a fetch of so many bytes from a state on these are left, from the state for which the FIFO stands now
pub record Left (fifo base last : ℕ) (memory : List ℕ) (most left : ℕ) (done : Bool) (fetch : Fetching) (start : StreamState) : Type 0 where
  pub state : StreamState
  pub stands : StandsFor fetch state
  pub came : bytes_came most fifo memory base last start ≡ bytes_came left fifo memory base last state
  pub completing : some_completes most fifo memory base last start ≡ (done || some_completes left fifo memory base last state)
  pub breaking : some_breaks most fifo memory base last start ≡ some_breaks left fifo memory base last state

module _ (fifo base last : ℕ) (memory : List ℕ) where
  -- what a fetch came to
  pub record Ended (most : ℕ) (done broken : Bool) (fetch : Fetching) (start : StreamState) : Type 0 where
    pub stands : StandsFor fetch (bytes_came most fifo memory base last start)
    pub completing : done ≡ some_completes most fifo memory base last start
    pub breaking : broken ≡ some_breaks most fifo memory base last start

  or_false : (done : Bool) → (done || false) ≡ done
  or_false true = refl
  or_false false = refl

  pub ended_full : (most left : ℕ) (done : Bool) (fetch new : Fetching) (start : StreamState) (here : Left fifo base last memory most left done fetch start)
      → AreBytes fifo memory base last here.state Full → StandsFor new here.state → Ended most done false new start
  ended_full most left done fetch new start here full stands =
      let none = cannot_full fifo memory base last here.state full in
      record {
        stands = subst (StandsFor new) (sym (stays fifo memory base last left here.state none) ∙ sym here.came) stands;
        completing = sym (here.completing ∙ (ap (λ (more : Bool). done || more) (none_completes fifo memory base last left here.state none) ∙ or_false done));
        breaking = sym (here.breaking ∙ none_breaks fifo memory base last left here.state full);
      }

  pub ended_broken : (most left : ℕ) (done : Bool) (fetch new : Fetching) (start : StreamState) (here : Left fifo base last memory most (suc left) done fetch start)
      → AreBytes fifo memory base last here.state Broken → StandsFor new here.state → Ended most done true new start
  ended_broken most left done fetch new start here bad stands =
      let none = cannot_bad fifo memory base last here.state bad.1 in
      record {
        stands = subst (StandsFor new) (sym (stays fifo memory base last (suc left) here.state none) ∙ sym here.came) stands;
        completing = sym (here.completing ∙ (ap (λ (more : Bool). done || more) (none_completes fifo memory base last (suc left) here.state none) ∙ or_false done));
        breaking = sym (here.breaking ∙ breaks_now fifo memory base last left here.state bad.0 bad.1);
      }

  or_assoc : (a b c : Bool) → (a || (b || c)) ≡ ((a || b) || c)
  or_assoc true b c = refl
  or_assoc false b c = refl

  pub came_more : (most left count rest : ℕ) (done ends : Bool) (fetch new : Fetching) (start : StreamState) (here : Left fifo base last memory most left done fetch start) → left ≡ count + rest
      → AreBytes fifo memory base last here.state (Came count ends) → StandsFor new (bytes_came count fifo memory base last here.state) → Left fifo base last memory most rest (done || ends) new start
  came_more most left count rest done ends fetch new start here parts bytes stands = record {
    state = bytes_came count fifo memory base last here.state;
    stands = stands;
    came = here.came ∙ came_both fifo memory base last count rest left parts here.state;
    completing = (
        here.completing
        ∙ ap (λ (more : Bool). done || more) (completes_both fifo memory base last count rest left parts here.state)
        ∙ or_assoc done (some_completes count fifo memory base last here.state) _
        ∙ ap (λ (ends : Bool). (done || ends) || some_completes rest fifo memory base last (bytes_came count fifo memory base last here.state)) bytes.0);
    breaking = (
        here.breaking
        ∙ breaks_both fifo memory base last count rest left parts here.state
        ∙ ap (λ (broken : Bool). broken || some_breaks rest fifo memory base last (bytes_came count fifo memory base last here.state)) bytes.1);
  }

  pub ended_all : (most : ℕ) (done : Bool) (fetch : Fetching) (start : StreamState) → Left fifo base last memory most 0 done fetch start → Ended most done false fetch start
  ended_all most done fetch start here = record {
    stands = subst (StandsFor fetch) (sym here.came) here.stands;
    completing = sym (here.completing ∙ or_false done);
    breaking = sym here.breaking;
  }

  pub at_first : (most : ℕ) (fetch : Fetching) (start : StreamState) → StandsFor fetch start → Left fifo base last memory most most false fetch start
  at_first most fetch start stands = record { state = start; stands = stands; came = refl; completing = refl; breaking = refl }
