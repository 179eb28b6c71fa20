-- Packets stay true, and what a server sends or takes into its log is true and in order.

-- What clients began in one more step.
pub mod PastLemmas
-- Each client's entries in a history: their numbers are in order, and which is the last of them.
pub mod EntryLemmas
-- Packets stay true as the run goes on, and replies of entries are true.
pub mod PacketLemmas
-- What a server sends is true.
pub mod FineLemmas
-- A log stays lawful with what it gains, and the queries that wait were asked.
pub mod GainLemmas
