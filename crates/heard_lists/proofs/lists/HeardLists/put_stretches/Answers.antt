use Rattle.std.proofs.Common.{◌≡◌, sym, subst}
use Rattle.std.specs.Prelude.{OnOk}
use Rattle.std.specs.List.{flat_map}
use Rattle.heard_lists.specs.Listings.{Listing}
use Rattle.heard_lists.specs.Stretches.{sound_bytes, stretches_of}
use Rattle.heard_lists.proofs.Noted.{placed}
use Rattle.heard_lists.proofs.lists.HeardLists.put_stretches.Goals as goal

pub returns-clause-stretches : goal.returns-clause-stretches
returns-clause-stretches c listing =
    let h = c.self.inside in
    subst (λ (l : Listing). OnOk c.put_stretches.result (c.put_stretches.new.stretches.items ≡ stretches_of l.list))
    (sym (placed h.marks.marks h.marks.room h.lists c.args.self.now c.args.place listing c.self.view_is c.requires)) (c.put_stretches.ensures.stretches listing)

pub returns-clause-sound : goal.returns-clause-sound
returns-clause-sound c listing =
    let h = c.self.inside in
    subst (λ (l : Listing). OnOk c.put_stretches.result (c.put_stretches.new.sound.items ≡ flat_map (sound_bytes c.args.bits) l.list))
    (sym (placed h.marks.marks h.marks.room h.lists c.args.self.now c.args.place listing c.self.view_is c.requires)) (c.put_stretches.ensures.sound listing)
