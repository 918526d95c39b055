use Rattle.std.proofs.Common.{◌≡◌, ℕ, refl, ap, subst, ◌∙◌, rules}
use Rattle.std.specs.Prelude.{length}
use Rattle.codec_walk.specs.Walks.{walk}
use Rattle.codec_walk.specs.Remaining.{remaining}
use Rattle.driver_agenda.specs.Sound.{WalkGoesOn, TellsOf}
use Rattle.driver_agenda.proofs.Telling.{of_some, place_of}
use Rattle.driver_agenda.proofs.agenda.Agenda.begin_walk.Goals as goal

pub returns-clause-begins : goal.returns-clause-begins
returns-clause-begins c =
    let count : c.len.result ≡ length c.args.self.now.graphs.items = search rules in
    record {
      under_way = c.in_ok-walk.walk;
      is = refl;
      begins = c.in_ok-walk.ensures.begins ∙ ap walk (place_of c.args.self.now.addresses.items c.len.result (length c.args.self.now.graphs.items) c.index-address.result.now c.index-address.ensures count c.requires.left);
      graphs_are = refl;
    }

pub invariant_of-self-2-clause-under_way : goal.invariant_of-self-2-clause-under_way
invariant_of-self-2-clause-under_way c =
    let count : c.len.result ≡ length c.args.self.now.graphs.items = search rules in
    let place = place_of c.args.self.now.addresses.items c.len.result (length c.args.self.now.graphs.items) c.index-address.result.now c.index-address.ensures count c.requires.left in
    of_some (WalkGoesOn c.args.self.now.addresses.items (length c.args.self.now.graphs.items)) c.in_ok-walk.walk (record {
      there = c.requires.left;
      asks = c.in_ok-walk.ensures.asks;
      tells = subst (λ (address : ℕ). TellsOf address (remaining c.in_ok-walk.walk)) place c.in_ok-walk.ensures.tells;
    })
