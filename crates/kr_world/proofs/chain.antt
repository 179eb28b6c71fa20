-- How logs stand to each other along the chain, and who stands where in which view.

-- Logs rise up the chain to the joiner, and each member of the current view holds the history.
pub mod ChainLemmas
-- A server that has not stopped: who stands before and after it, and that a tail is the last member of the current view.
pub mod SeatLemmas
-- Who is in the first view, and at which place.
pub mod ViewLemmas
-- The longest of a history and what the servers have acknowledged grows by what is new to it alone.
pub mod LongestLemmas
-- What a server says of itself, and that a joiner has caught up, is true when it is said and stays so.
pub mod SaidLemmas
