-- The order that a history gives its events.
use Rattle.std.specs.Prelude.{◌≡◌, ℕ, true, false, List}
use Rattle.kr_order.specs.declared.history.Entry.{Entry}
use Rattle.kr_order.specs.Order.{reach}
use Rattle.kr_order.specs.Agreed.{agreed_of}

-- all pairs that the batches of the history have added, the oldest first
abbrev pub pairs_of : List Entry → List (ℕ × ℕ)
pairs_of history = (agreed_of history).pairs

-- a is before b after the history, and b is not before a
pub record IsBefore (history : List Entry) (a b : ℕ) : Type 0 where
  pub before : reach (pairs_of history) a b ≡ true
  pub never_back : reach (pairs_of history) b a ≡ false
