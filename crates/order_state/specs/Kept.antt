-- What a state keeps of each client's last entry, and when an entry is ready to be applied.
use Rattle.std.specs.Prelude.{◌≡◌, ◌≤◌, ◌++◌, ℕ, List, length, nat_eq}
use Rattle.std.specs.Option.{option_map}
use Rattle.std.specs.declared.hash.FoldHasher.{FoldHasher}
use Rattle.std.specs.declared.hash.BuildHasherDefault.{BuildHasherDefault}
use Rattle.std.specs.HashMap.{get, HashMap}
use Rattle.kr_order.specs.declared.history.Entry.{Entry}
use Rattle.kr_order.specs.declared.history.DoneEntry.{DoneEntry}
use Rattle.kr_order.specs.History.{births_of}
use Rattle.kr_order.specs.Agreed.{pairs_after, agreed_of}
use Rattle.kr_order.specs.Pairs.{pairs_of}
use Rattle.kr_order.specs.Reply.{reply_to}
use Rattle.kr_order.specs.Done.{done_after, done_of, last_of}
use Rattle.order_state.specs.declared.kept.Kept.{Kept}
use Rattle.order_state.specs.declared.kept.Prepared.{Prepared}
use Rattle.order_state.specs.Ordered.{Ordered, IsOrderOf}
use Rattle.order_state.specs.Decision.{adds_of}
use Rattle.order_state.specs.Standing.{Standing}

-- what is kept of an entry with its place and its reply
abbrev pub kept_of : DoneEntry → Kept
kept_of done = record { seq = done.entry.seq; place = done.place; reply = done.reply }

-- a state with this standing can apply the prepared entry
pub record IsReady (standing : Standing) (prepared : Prepared) : Type 0 where
  pub reply : prepared.reply ≡ reply_to standing.history prepared.entry.command
  pub kept : prepared.kept ≡ kept_of (done_after standing.history prepared.entry)
  pub adds : pairs_after prepared.entry.command (agreed_of standing.history) ≡
      pairs_of standing.history ++ adds_of prepared.plan
  pub room : 1 ≤ standing.room
  pub event_room : births_of prepared.entry.command ≤ standing.event_room
  pub pair_room : length (adds_of prepared.plan) ≤ standing.pair_room

-- the order is what is held of the history, and the table has what is kept of each client's last entry
pub record IsKeptOf (history : List Entry) (held : Ordered) (table : HashMap ℕ Kept (BuildHasherDefault FoldHasher)) : Type 0 where
  pub order : IsOrderOf history held
  pub found : (client : ℕ) →
      get nat_eq table client ≡ option_map kept_of (last_of (record { 0 = client }) (done_of history))
