-- What a server may do with a packet, or when its turn comes: each reaction but an adoption has one shape.

-- The shape: what the log gains and why, how far it is acknowledged, which queries wait, and what is sent.
pub mod ShapeLemmas
-- What servers send, and how much of it: replies, an acknowledgement and a window, each as it must be.
pub mod SendLemmas
-- A tick, the work on queries, a query that waits or is referred, and what is ignored have the shape.
pub mod TurnLemmas
-- What a server does with a request has the shape.
pub mod RequestLemmas
-- What a server does with entries has the shape.
pub mod AppendLemmas
-- What a server does with an acknowledgement has the shape.
pub mod AcknowledgeLemmas
-- So what a server does with any packet has the shape, but for a view that it adopts.
pub mod HandlerLemmas
