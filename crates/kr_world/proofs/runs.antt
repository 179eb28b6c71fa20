-- The laws of whole runs.

-- Every step keeps the facts.
pub mod ActLemmas
-- Each world of a run is sound and has the facts.
pub mod RunLemmas
-- What a run tells its clients is in order.
pub mod InOrderLemmas
-- Every run is lawful.
pub mod LawfulLemmas
-- In every world members hold the history, and one tail runs.
pub mod EveryWorldLemmas
-- Who becomes a member has held the history before.
pub mod JoinerLemmas
-- In no step a client is told of more pairs than a query has.
pub mod BeforesLemmas
