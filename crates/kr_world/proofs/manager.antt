-- A stop, a notice, a join and a promotion keep the world sound.

-- More views leave servers and packets sound, and the manager tells of the current view truly.
pub mod NextViewLemmas
-- A stop: another member runs, and nothing else changes.
pub mod StopLemmas
-- A notice: the last member of the view without the server that stopped holds the history too.
pub mod NoticeLemmas
-- A join: a server that no view named before changes nothing for those that there were.
pub mod JoinLemmas
-- A promotion: the history stands in the log of the joiner that becomes the last member.
pub mod PromotionLemmas
