-- What every step does, and what none takes back: lists, marks, the bag, and what a step that is not refused begins with.

-- Elements of lists that grow at the end, or of which one is written.
pub mod ListFacts
-- Marks: setting one, or putting more behind them, leaves the others as they are, and none is taken back.
pub mod MarkLemmas
-- A step that is not refused finds the server or client that it names, and room in the bag where it may send.
pub mod StepLemmas
-- A sound world stays so when its marks are set, and when true packets go into the bag.
pub mod BagLemmas
-- No step takes a packet or a mark back: what is settled stays settled.
pub mod GrowLemmas
-- Where the bag is full, the steps that may send are refused.
pub mod FullBagLemmas
pub mod SpentLemmas
-- No step begins more than one query of a client.
pub mod CountLemmas
