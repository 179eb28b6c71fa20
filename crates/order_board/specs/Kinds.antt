-- The kinds of step, each with what it asks. Whatever the others have seen when the step comes, it keeps the rule of the
-- two copies, and tells what Rule.antt says.
use Rattle.std.specs.Prelude.{◌≡◌, ℕ, ◌≤◌, List, [], ◌∷◌, length, Option, None}
use mathlib.Core.List.{IsPrefix as Begins}
use Rattle.crossbeam_utils.specs.Register.{Admits, TurnsAt, Turns, Forks, Merges}
use Rattle.kr_order.specs.Prefix.{IsPrefix}
use Rattle.kr_order.specs.declared.history.Entry.{Entry}
use Rattle.order_board.specs.declared.copies.OrderCopy.{OrderCopy}
use Rattle.order_board.specs.Log.{Adds}
use Rattle.order_board.specs.Rule.{Front, IsBoard, Shows, GoesOn}

-- the first copy, before anyone has seen it
abbrev pub TheFirstCopyKeepsTheRule : Type 0
TheFirstCopyKeepsTheRule = (copy : OrderCopy) → copy.seen.log ≡ copy.state.history → IsBoard copy (None ∷ [])

-- a reader comes that has seen nothing
abbrev pub ReadersMayCome : Type 0
ReadersMayCome = Admits IsBoard None

-- publish: the other copy goes on from the published one
abbrev pub PublishingKeepsTheRule : Type 0
PublishingKeepsTheRule =
    (seat : ℕ) (sight : Option Front) (old new : OrderCopy) → GoesOn old new → TurnsAt IsBoard seat sight old new Shows

-- enter: the published copy is seen
abbrev pub EnteringKeepsTheRule : Type 0
EnteringKeepsTheRule = (seat : ℕ) (sight : Option Front) → Turns IsBoard seat sight (λ copy. copy) Shows

-- tell: what a seat saw is another's too
abbrev pub TellingKeepsTheRule : Type 0
TellingKeepsTheRule = (seat : ℕ) (sight : Option Front) → Forks IsBoard seat sight sight sight

-- learn: a seat comes to know what was told
abbrev pub LearningKeepsTheRule : Type 0
LearningKeepsTheRule =
    (seat : ℕ) (sight : Option Front) (other : ℕ) (told : Option Front) → Merges IsBoard seat sight other told told None

-- the head of the log is exchanged from the length of what was seen to one more: where the log was as long, the entry is
-- added to it
abbrev pub AddingKeepsTheLog : Type 0
AddingKeepsTheLog =
    (seen : List Entry) (entry : Entry) (old : ℕ) → length seen ≡ old → Adds seen entry old

-- notes: beginnings of one log agree
abbrev pub BeginningsAgree : Type 0
BeginningsAgree = (log one other : List Entry) → Begins one log → Begins other log → length one ≤ length other → IsPrefix one other
