-- What a client asks, what it is told of that, and what it remembers.

-- What a client has open it has asked, after some earlier step or this one, and what was asked stays so.
pub mod QueryLemmas
-- A told part is true, and a path after an entry is there after each later one and never the other way round.
pub mod PartLemmas
-- What a client remembers is true, seen from either event, and so is what is told of it.
pub mod RememberLemmas
-- What a server is sure of is the answer, and what can never change may be remembered.
pub mod SureLemmas
