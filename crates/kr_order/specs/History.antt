-- A history is the list of the commands that the service has taken, in one order. The entry at index 0 has place 1.
use Rattle.std.specs.Prelude.{ℕ, List, [], ◌∷◌, ◌==◌, max, if◌then◌else◌, sum_by}
use Rattle.kr_order.specs.declared.ids.ClientId.{ClientId}
use Rattle.kr_order.specs.declared.history.Command.{Command}
use Rattle.kr_order.specs.declared.history.Command.TheVariants.{Create, Assign, Acquire, Release}
use Rattle.kr_order.specs.declared.history.Entry.{Entry}

-- how many events the command makes
abbrev pub births_of : Command → ℕ
births_of Create = 1
births_of (Assign batch) = 0
births_of (Acquire event) = 0
births_of (Release event) = 0

-- how many events the history has made: event k is the one of its k-th create
abbrev pub born_in : List Entry → ℕ
born_in history = sum_by (λ entry. births_of entry.command) history

-- the greatest number of the client's commands among these entries, or 0
abbrev pub highest_seq : ClientId → List Entry → ℕ
highest_seq client [] = 0
highest_seq client (entry ∷ more) =
    max (if entry.client.0 == client.0 then entry.seq else 0) (highest_seq client more)
