-- What proofs of the layers above cite.

-- while a walk is followed commands are left
pub use Rattle.driver_agenda.proofs.Following.{walks_on}
-- where the words that were answered lead: an agenda at its beginning, one word more, a fault, and no route
pub use Rattle.driver_agenda.proofs.Answering.{begins_answered, led_answered, faulty_answered, unrouted_answered}
-- at a fault there are no plans; what is left where memory was wanting; and plans without a route
pub use Rattle.driver_agenda.proofs.Answering.{faulty_unplanned, left_answered, no_route_answered}
