-- The rule of the two copies. A sight is what a reader, or the writer, saw last: a beginning of the log, or nothing yet.
use Rattle.std.specs.Prelude.{◌≡◌, ℕ, List, Option, Some, IfSome}
use mathlib.Core.Option.{some}
use lib.ListN.{get_elem?}
use Rattle.logbook.specs.declared.tokens.Seen.{Seen}
use Rattle.kr_order.specs.Prefix.{IsPrefix}
use Rattle.kr_order.specs.declared.history.Entry.{Entry}
use Rattle.order_board.specs.declared.history.Law.{Law}
use Rattle.order_board.specs.declared.copies.OrderCopy.{OrderCopy}

-- a beginning of the log
abbrev pub Front : Type 0
Front = Seen Entry ℕ Law

-- what was seen is of this log, and a beginning of what the copy stands for
pub record IsSeenIn (copy : OrderCopy) (front : Front) : Type 0 where
  pub copies : front.book ≡ copy.seen.book
  pub list : IsPrefix front.log copy.state.history

abbrev pub Fits : OrderCopy → Option Front → Type 0
Fits copy sight = IfSome sight (IsSeenIn copy)

-- the rule: the published copy stands for the beginning of the log that it names, and that begins with each list that
-- was seen
pub record IsBoard (copy : OrderCopy) (sights : List (Option Front)) : Type 0 where
  pub log : copy.seen.log ≡ copy.state.history
  pub each : (seat : ℕ) (sight : Option Front) → get_elem? sights seat ≡ some sight → Fits copy sight

-- what publishing and entering tell: the copy that is published then is what was seen, and begins with what had been seen
pub record Shows (before : Option Front) (old new : OrderCopy) (after : Option Front) : Type 0 where
  pub sight : after ≡ Some new.seen
  pub log : new.seen.log ≡ new.state.history
  pub fits : Fits new before

-- the copy goes on from another: it is of the same log, and begins with what the other stands for
pub record GoesOn (old new : OrderCopy) : Type 0 where
  pub log : new.seen.log ≡ new.state.history
  pub copies : new.seen.book ≡ old.seen.book
  pub list : IsPrefix old.state.history new.state.history
