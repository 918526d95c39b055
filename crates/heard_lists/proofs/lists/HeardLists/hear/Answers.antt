use Rattle.std.proofs.Common.{◌≡◌, ◌+◌, ◌-◌, ◌/◌, ℕ, length, map, sym, ap, subst, ◌∙◌, arith}
use Rattle.std.specs.Prelude.{All}
use Rattle.stream_format.specs.Cadence.{block_bytes}
use Rattle.stream_format.specs.Layouts.{layout}
use Rattle.codec_sound.specs.declared.signals.Signal.{Signal}
use Rattle.codec_sound.specs.Signals.{IsAmong}
use Rattle.heard_lists.specs.Listings.{Listing, HasRoom, with_blocks}
use Rattle.heard_lists.specs.Marked.{noted, HaveBlocks}
use Rattle.heard_lists.proofs.Noted.{of-lists, blocks-noted, blocks-heard, blocks-fit, item-room, item-fits}
use Rattle.heard_lists.proofs.lists.HeardLists.hear.Goals as goal

pub hear-requires-clause-room : goal.hear-requires-clause-room
hear-requires-clause-room g c =
    let h = c.self.inside in
    item-fits h.marks.marks h.marks.room (length c.args.bytes.now / block_bytes c.args.format) h.lists
    (subst (HasRoom (length c.args.bytes.now / block_bytes c.args.format)) (sym c.self.view_is) c.requires.room)

pub hear-requires-clause-known : goal.hear-requires-clause-known
hear-requires-clause-known g c =
    let h = c.self.inside in
    of-lists (λ (l : Listing). g.S.Sounds.IsKnown c.args.sounds.now l.codec l.pin) (noted h.marks.marks h.marks.room) h.lists
    (subst (All (λ (l : Listing). g.S.Sounds.IsKnown c.args.sounds.now l.codec l.pin)) (sym c.self.view_is) c.requires.known)

pub hear-requires-clause-pairs : goal.hear-requires-clause-pairs
hear-requires-clause-pairs g c =
    let h = c.self.inside in
    let signal : ℕ → ℕ → Signal = g.S.Sounds.signal_of c.args.sounds.now in
    of-lists (λ (l : Listing). IsAmong c.args.format.channels (signal l.codec l.pin)) (noted h.marks.marks h.marks.room) h.lists
    (subst (All (λ (l : Listing). IsAmong c.args.format.channels (signal l.codec l.pin))) (sym c.self.view_is) c.requires.pairs)

pub overflow_sub-self : goal.overflow_sub-self
overflow_sub-self g c =
    let h = c.self.inside in
    let signal : ℕ → ℕ → Signal = g.S.Sounds.signal_of c.args.sounds.now in
    let fits = blocks-fit signal (layout c.args.format) c.args.bytes.now h.blocks c.count-before.result c.count.result h.lists c.self.invariant c.count-before.ensures
    (subst (All (λ (l : Listing). length l.list ≡ c.count.result)) c.hear.ensures.lists c.count.ensures) (λ none. c.if-len-eq0.false (c.len.ensures ∙ none)) in
    fits.0

pub overflow_add-self : goal.overflow_add-self
overflow_add-self g c =
    let h = c.self.inside in
    let signal : ℕ → ℕ → Signal = g.S.Sounds.signal_of c.args.sounds.now in
    let fits = blocks-fit signal (layout c.args.format) c.args.bytes.now h.blocks c.count-before.result c.count.result h.lists c.self.invariant c.count-before.ensures
    (subst (All (λ (l : Listing). length l.list ≡ c.count.result)) c.hear.ensures.lists c.count.ensures) (λ none. c.if-len-eq0.false (c.len.ensures ∙ none)) in
    let few = fits.1 in
    let word = c.count.type_inv in
    omega (arith, few, word)

pub invariant_of-self : goal.invariant_of-self
invariant_of-self g c =
    let h = c.self.inside in
    let signal : ℕ → ℕ → Signal = g.S.Sounds.signal_of c.args.sounds.now in
    subst (HaveBlocks (h.blocks + (c.count.result - c.count-before.result))) (sym c.hear.ensures.lists)
    (blocks-heard signal (layout c.args.format) c.args.bytes.now h.blocks c.count-before.result c.count.result h.lists c.self.invariant c.count-before.ensures
    (subst (All (λ (l : Listing). length l.list ≡ c.count.result)) c.hear.ensures.lists c.count.ensures))

pub returns-clause-lists : goal.returns-clause-lists
returns-clause-lists g c =
    let h = c.self.inside in
    let signal : ℕ → ℕ → Signal = g.S.Sounds.signal_of c.args.sounds.now in
    ap (map (noted h.marks.marks h.marks.room)) c.hear.ensures.lists
    ∙ (blocks-noted h.marks.marks h.marks.room signal (layout c.args.format) c.args.bytes.now h.lists
    ∙ ap (map (with_blocks signal (layout c.args.format) c.args.bytes.now)) c.self.view_is)

pub returns-clause-room : goal.returns-clause-room
returns-clause-room g c more room =
    let h = c.self.inside in
    item-room h.marks.marks h.marks.room more c.hear.new.self
    (c.hear.ensures.room more (item-fits h.marks.marks h.marks.room (length c.args.bytes.now / block_bytes c.args.format + more) h.lists
    (subst (HasRoom (length c.args.bytes.now / block_bytes c.args.format + more)) (sym c.self.view_is) room)))
