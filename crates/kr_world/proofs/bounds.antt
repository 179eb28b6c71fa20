-- That a reaction keeps to the bounds under which a world stays sound, and how the history goes on then.

-- What a log takes of entries that come leaves it a front of the sender's, and is no more than came.
pub mod ReceiveLemmas
-- With what a server gains by a true packet it has no more than the server before it.
pub mod BelowLemmas
-- The bounds: what a server keeps to when it goes on, whatever it does; its need stays with its joiner.
pub mod BoundsLemmas
-- How many entries are acknowledged after a reaction: only the tail acknowledges what is not history yet.
pub mod AgreedLemmas
-- A reaction that has the shape keeps to the bounds.
pub mod WithinLemmas
-- What a server does when it adopts a view, and that this keeps to the bounds.
pub mod AdoptLemmas
-- The history grows, if at all, to what the server that has gone on within bounds has acknowledged.
pub mod ReactionLemmas
