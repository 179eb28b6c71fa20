-- How one event stands to another after a history.
use Rattle.std.specs.Prelude.{ℕ, ◌==◌, if◌then◌else◌, List, map}
use Rattle.kr_order.specs.declared.ids.EventId.{EventId}
use Rattle.kr_order.specs.declared.answer.Answer.{Answer}
use Rattle.kr_order.specs.declared.answer.Answer.TheVariants.{Before, After, Same, Concurrent, Unknown, Unsure}
use Rattle.kr_order.specs.declared.history.Entry.{Entry}
use Rattle.kr_order.specs.Order.{reach}
use Rattle.kr_order.specs.Agreed.{Agreed, both_live, agreed_of}

-- the answer to two events of an order
abbrev pub answer_over : List (ℕ × ℕ) → ℕ → ℕ → Answer
answer_over pairs a b =
    if a == b then Same
    else (if reach pairs a b then Before
    else (if reach pairs b a then After
    else Concurrent))

-- the answer to two events, which are unknown where one is not live
abbrev pub answer_from : Agreed → ℕ → ℕ → Answer
answer_from agreed a b = if both_live agreed a b then answer_over agreed.pairs a b else Unknown

-- the answer to two events after the history
abbrev pub answer_to : List Entry → ℕ → ℕ → Answer
answer_to history a b = answer_from (agreed_of history) a b

-- the answers to these pairs after the history
abbrev pub answers_after : List Entry → List (EventId × EventId) → List Answer
answers_after history pairs = map (λ pair. answer_to history pair.0.0 pair.1.0) pairs

-- what a server tells that may not have the newest entries: it is sure of what stays so
abbrev pub partial : Answer → Answer
partial Before = Before
partial After = After
partial Same = Same
partial Concurrent = Unsure
partial Unknown = Unsure
partial Unsure = Unsure
