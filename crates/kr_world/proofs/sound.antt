-- Every step keeps the world sound.

-- The first world is sound.
pub mod FirstLemmas
-- A client's step keeps the world sound.
pub mod ClientStepLemmas
-- A server that goes on within bounds keeps the world sound: need covers the history, and old tails know.
pub mod ServerStepLemmas
-- Every step keeps the world sound, so every world of a run is sound.
pub mod SoundLemmas
