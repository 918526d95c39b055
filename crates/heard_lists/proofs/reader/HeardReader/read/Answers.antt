use Rattle.std.proofs.Common.{◌<◌, ◌+◌, ◌++◌, ◌∷◌, List, length, drop, replicate, sym, ap, ◌∙◌, arith}
use Rattle.std.proofs.lemmas.List.{drop_more}
use Rattle.heard_frames.specs.declared.heard.Heard.{Heard}
use Rattle.heard_frames.specs.declared.heard.Heard.TheVariants.{Hole, Quiet}
use Rattle.heard_lists.specs.Pieces.{pieces_items}
use Rattle.heard_lists.proofs.Taken.{length-zip}
use Rattle.heard_lists.proofs.Reading.{item-left, length-all}
use Rattle.heard_lists.proofs.reader.HeardReader.read.Goals as goal

pub find-start-requires-clause-start : goal.find-start-requires-clause-start
find-start-requires-clause-start c = c.self.invariant.starts

pub item_in-heard-requires-clause-among : goal.item_in-heard-requires-clause-among
item_in-heard-requires-clause-among c = c.self.invariant.among

pub overflow_add-self : goal.overflow_add-self
overflow_add-self c =
    let r = c.self.inside in
    let list : List Heard = pieces_items r.pieces.now r.signals.now r.bytes.now ++ replicate r.holes Hole in
    let within = item-left list c.args.self.now r.next c.self.view_is c.requires in
    let long = length-all r.pieces.now r.signals.now r.bytes.now r.holes (length-zip r.pieces.now r.signals.now c.self.invariant.among) in
    let few = c.self.invariant.few in
    omega (arith, within, long, few)

pub invariant_of-self : goal.invariant_of-self
invariant_of-self c =
    let before = c.find-start.ensures.before in
    record {
      among = c.self.invariant.among;
      whole = c.self.invariant.whole;
      few = c.self.invariant.few;
      starts = c.find-start.ensures.start;
      before = omega (arith, before);
    }

pub returns : goal.returns
returns c =
    let r = c.self.inside in
    let list : List Heard = pieces_items r.pieces.now r.signals.now r.bytes.now ++ replicate r.holes Hole in
    let within : r.next < length list = item-left list c.args.self.now r.next c.self.view_is c.requires in
    let long = length-all r.pieces.now r.signals.now r.bytes.now r.holes (length-zip r.pieces.now r.signals.now c.self.invariant.among) in
    sym c.self.view_is
    ∙ (drop_more list r.next Quiet within
    ∙ ap (λ (h : Heard). h ∷ drop (r.next + 1) list) (sym (c.item_in-heard.ensures r.holes (omega (arith, within, long)))))
