-- What a client does keeps the facts, and what it is told is true and new to it.

-- A client of a world that has the facts, at its number, before and after it has gone on.
pub mod ClientLemmas
-- A client's command keeps the facts.
pub mod CallLemmas
-- An open call, tried once more, keeps the facts.
pub mod RetryLemmas
-- A client that hears something, or asks, keeps the facts where it stays true and is told the truth.
pub mod HeardLemmas
-- A query keeps the facts, and what the client remembers is told truly.
pub mod AskLemmas
-- The reply that closes the open command is true and new to its client.
pub mod ClosesLemmas
-- The answers to the open query are true, and current for its client.
pub mod AnsweredLemmas
-- What a client does with any packet keeps the facts.
pub mod HearLemmas
