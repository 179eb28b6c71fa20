-- What clients are told is in order, and each has seen what it has heard of.

-- Lists of what is told: the greatest number that they name, and their order.
pub mod TellingLemmas
-- What a client hears, and has seen by that.
pub mod SeenLemmas
-- What the world is then.
pub mod HearingLemmas
-- What a step tells its clients, and what they have seen then.
pub mod SeenStepLemmas
