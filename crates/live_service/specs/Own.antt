-- The entries of one client in a history.
use Rattle.std.specs.Prelude.{◌≡◌, ◌⊎◌, ◌+◌, ◌==◌, ℕ, List, [], ◌∷◌, length, filter}
use Rattle.kr_order.specs.declared.ids.ClientId.{ClientId}
use Rattle.kr_order.specs.declared.history.Command.{Command}
use Rattle.kr_order.specs.declared.history.Entry.{Entry}

-- a client's command of this number
abbrev pub entry_of : ClientId → ℕ → Command → Entry
entry_of client seq command = record { client = client; seq = seq; command = command }

-- the client's entries, in the order of their places
abbrev pub entries_of : ClientId → List Entry → List Entry
entries_of client history = filter (λ entry. entry.client.0 == client.0) history

-- the client's commands as entries, of which the first has this number
abbrev pub numbered : ClientId → ℕ → List Command → List Entry
numbered client seq [] = []
numbered client seq (command ∷ more) = entry_of client seq command ∷ numbered client (seq + 1) more

-- these entries stand in the list, in their order
abbrev pub AreWithin : List Entry → List Entry → Type 0
AreWithin [] list = Unit {0}
AreWithin (entry ∷ more) [] = ⊥
AreWithin (entry ∷ more) (first ∷ list) = ((entry ≡ first) × AreWithin more list) ⊎ AreWithin (entry ∷ more) list

-- so many commands of the client stand in the list, in their order: at the least those
pub record HasAtLeast (client : ClientId) (made : ℕ) (list : List Entry) : Type 0 where
  pub commands : List Command
  pub many : length commands ≡ made
  pub within : AreWithin (numbered client 1 commands) list

-- the client's entries in the list are so many commands, with numbers 1, 2, 3 and so on
pub record HasJust (client : ClientId) (made : ℕ) (list : List Entry) : Type 0 where
  pub commands : List Command
  pub many : length commands ≡ made
  pub own : entries_of client list ≡ numbered client 1 commands
