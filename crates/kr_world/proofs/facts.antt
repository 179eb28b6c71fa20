-- What the laws of runs need of every world.

-- The facts stay where one thing changes: the steps done, the marks, the bag, a client, the history.
pub mod FactLemmas
-- The first world has the facts.
pub mod FirstFactLemmas
-- What a step keeps: the facts, a history that grows, and told things that are true and new.
pub mod KeepLemmas
-- What a server does with a packet, with queries that wait, and at a tick keeps the facts.
pub mod ServerLemmas
