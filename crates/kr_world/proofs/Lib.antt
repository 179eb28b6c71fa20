-- What every step does, and what none takes back: lists, marks, the bag, and what a step that is not refused begins with.
pub mod steps
-- How logs stand to each other along the chain, and who stands where in which view.
pub mod chain
-- What a server may do with a packet, or when its turn comes: each reaction but an adoption has one shape.
pub mod shapes
-- That a reaction keeps to the bounds under which a world stays sound, and how the history goes on then.
pub mod bounds
-- A stop, a notice, a join and a promotion keep the world sound.
pub mod manager
-- Every step keeps the world sound.
pub mod sound
-- What a client asks, what it is told of that, and what it remembers.
pub mod queries
-- Packets stay true, and what a server sends or takes into its log is true and in order.
pub mod packets
-- What the laws of runs need of every world.
pub mod facts
-- What a client does keeps the facts, and what it is told is true and new to it.
pub mod clients
-- What clients are told is in order, and each has seen what it has heard of.
pub mod seen
-- A line `round` stands for plain steps that a script could give.
pub mod rounds
-- The laws of whole runs.
pub mod runs
