-- How a clock is made of others.
use Rattle.std.specs.Prelude.{ℕ, ◌-◌, ◌==◌, max, if◌then◌else◌, List, [], slice_index, slice_index_or, Option, None, Some}
use Rattle.clock_import.specs.declared.imported.Clocked.{Clocked}
use Rattle.clock_import.specs.declared.links.Link.{Link}

-- the clock at the index; none where there is none
abbrev pub clock_at : List Clocked → ℕ → List ℕ
clock_at events i = (slice_index_or events i (record { process = 0; clock = [] })).clock

-- the number of the process, from 1, in a clock
abbrev pub part_in : List ℕ → ℕ → ℕ
part_in clock process = slice_index clock (process - 1)

-- that in the clock of an event
abbrev pub part_of : List Clocked → Option ℕ → ℕ → ℕ
part_of events None process = 0
part_of events (Some e) process = part_in (clock_at events e) process

-- the number of the process p in the clock of an event with this link
abbrev pub joined_at : ℕ → Link → List Clocked → ℕ → ℕ
joined_at process link events p =
    let most = max (part_of events link.prior p) (part_of events link.source p) in
    if p == process then max most link.number else most

-- the clock of an event; none where there is no event
abbrev pub clock_of_event : List Clocked → Option ℕ → List ℕ
clock_of_event events None = []
clock_of_event events (Some e) = clock_at events e

-- the number of the process p in the clock of an event of the process with this number among its events, where these are
-- the clocks of the events that lead to it
abbrev pub join_at : ℕ → ℕ → List ℕ → List ℕ → ℕ → ℕ
join_at process number prior source p =
    let most = max (part_in prior p) (part_in source p) in if p == process then max most number else most
