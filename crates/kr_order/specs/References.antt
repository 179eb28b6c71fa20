-- How many references each event has, and which events are live.
use Rattle.std.specs.Prelude.{ℕ, ◌<◌, List}
use Rattle.kr_order.specs.declared.history.Entry.{Entry}
use Rattle.kr_order.specs.Agreed.{agreed_of}

-- an event's references after the history
abbrev pub count_in : List Entry → ℕ → ℕ
count_in history event = (agreed_of history).count event

-- an event is live while it has a reference
abbrev pub IsLive : List Entry → ℕ → Type 0
IsLive history event = 0 < count_in history event
