-- The entries of a history with their places and replies.
use Rattle.std.specs.Prelude.{ℕ, ◌+◌, List, [], ◌∷◌, ◌++◌, ◌==◌, length, reverse, find, Option, None, Some}
use Rattle.kr_order.specs.declared.ids.ClientId.{ClientId}
use Rattle.kr_order.specs.declared.history.Entry.{Entry}
use Rattle.kr_order.specs.declared.history.DoneEntry.{DoneEntry}
use Rattle.kr_order.specs.Reply.{reply_to}

-- an entry that comes after the history, with its place and its reply
abbrev pub done_after : List Entry → Entry → DoneEntry
done_after history entry =
    record { place = length history + 1; entry = entry; reply = reply_to history entry.command }

-- the entries that come after the history, each with its place and its reply
abbrev pub done_from : List Entry → List Entry → List DoneEntry
done_from history [] = []
done_from history (entry ∷ more) = done_after history entry ∷ done_from (history ++ entry ∷ []) more

-- the entries of the history, each with its place and its reply
abbrev pub done_of : List Entry → List DoneEntry
done_of history = done_from [] history

-- the last of these that is the client's, if it has one
abbrev pub last_of : ClientId → List DoneEntry → Option DoneEntry
last_of client dones = find (λ done. done.entry.client.0 == client.0) (reverse dones)

-- its sequence number, or 0
abbrev pub seq_of : Option DoneEntry → ℕ
seq_of None = 0
seq_of (Some done) = done.entry.seq
