-- What contracts see of a state.
use Rattle.std.specs.Prelude.{ℕ, List}
use Rattle.kr_order.specs.declared.history.Entry.{Entry}

-- the history, how many cells its order has, and how many more entries, events and pairs can be added without memory
pub record Standing : Type 0 where
  pub history : List Entry
  pub cells : ℕ
  pub room : ℕ
  pub event_room : ℕ
  pub pair_room : ℕ
