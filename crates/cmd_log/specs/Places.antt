-- The places of a log. The entry at index 0 has place 1.
use Rattle.std.specs.Prelude.{ℕ, ◌-◌, ◌==◌, List, slice_get, Option, None, if◌then◌else◌}
use Rattle.kr_order.specs.declared.history.Entry.{Entry}

-- the entry at this place, if the log has one there
abbrev pub entry_at : List Entry → ℕ → Option Entry
entry_at log place = if place == 0 then None else slice_get log (place - 1)
