-- A line `round` stands for plain steps that a script could give.

-- Steps of several events one after the other, and of lines that stand for several.
pub mod RoundLemmas
-- The steps of a round leave as it is how many clients and servers there are, and which have stopped.
pub mod RoundShapeLemmas
-- Each step of a round could stand in a script.
pub mod RoundEventLemmas
-- The lists of a round, by one number more.
pub mod RoundLoopLemmas
-- A line begins one query of a client at the most.
pub mod RoundCountLemmas
-- The steps of a round, read from the world before it, are those read one part after the other.
pub mod StepByStepLemmas
