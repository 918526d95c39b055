use Rattle.std.proofs.Common.{List, sym, subst}
use Rattle.heard_lists.specs.Listings.{Listing}
use Rattle.hda_world.specs.Tellings.{world_of}
use Rattle.rig.specs.Replays.{AreHeardInAs, AreMarkedInAs}
use Rattle.rig.specs.Rigs.{telling_of}
use Rattle.rig.proofs.Where.{heard_there, marks_there}
use Rattle.rig.proofs.rig.Rig.parts.Goals as goal

pub returns-clause-heard : goal.returns-clause-heard
returns-clause-heard c =
    subst (λ (lists : List Listing). AreHeardInAs c.args.self.recording.kind (world_of (telling_of c.args.self)) lists) (sym c.into_parts.ensures.heard) (heard_there c.args.self.recording.stands)

pub returns-clause-marked : goal.returns-clause-marked
returns-clause-marked c =
    subst (λ (lists : List Listing). AreMarkedInAs c.args.self.recording.kind (world_of (telling_of c.args.self)) lists) (sym c.into_parts.ensures.heard) (marks_there c.args.self.recording.stands)
