-- What a server sends, said of its parts.
use Rattle.std.specs.Prelude.{ℕ, ◌==◌, Bool, false, List, [], ◌∷◌, Option, None, Some, if◌then◌else◌}
use Rattle.std.specs.Option.{option_to_list}
use Rattle.kr_order.specs.declared.ids.ServerId.{ServerId}
use Rattle.kr_order.specs.declared.ids.ClientId.{ClientId}
use Rattle.kr_order.specs.declared.history.Command.{Command}
use Rattle.kr_order.specs.declared.history.Entry.{Entry}
use Rattle.kr_order.specs.declared.history.DoneEntry.{DoneEntry}
use Rattle.kr_order.specs.declared.message.Node.TheVariants.{Client, Server as FromServer}
use Rattle.kr_order.specs.declared.message.Message.TheVariants.{Refer}
use Rattle.kr_order.specs.declared.message.Packet.{Packet}
use Rattle.kr_order.specs.declared.view.View.{View}
use Rattle.kr_protocol.specs.Reaction.{Reaction}
use Rattle.kr_protocol.specs.Server.{Server, reply_packet, sends, window}

-- what is passed on once so many entries were taken
abbrev pub passed_on_by : Server → ℕ → List Packet
passed_on_by server taken = if taken == 0 then [] else window server

-- this is the number of the client's last applied entry, if there is one
abbrev pub has_seq : Option DoneEntry → ℕ → Bool
has_seq None seq = false
has_seq (Some last) seq = last.entry.seq == seq

-- the reply to a client's command of this number, where it is the client's last applied entry
abbrev pub repeated : ServerId → Option DoneEntry → ℕ → Option Packet
repeated id None seq = None
repeated id (Some last) seq = if last.entry.seq == seq then Some (reply_packet id last) else None

-- the client's last applied entry is replied once more, where it has this number
abbrev pub replies_again : Server → ℕ → Option DoneEntry → Reaction Server
replies_again server seq last = sends server (option_to_list (repeated server.id last seq))

-- the entry of a client's command
abbrev pub entry_of : ClientId → ℕ → Command → Entry
entry_of client seq command = record { client = client; seq = seq; command = command }

-- the reply of an applied entry, where the client's last one stands at its place
abbrev pub reply_if_last : ServerId → Option DoneEntry → DoneEntry → Option Packet
reply_if_last id None done = None
reply_if_last id (Some last) done = if last.place == done.place then Some (reply_packet id last) else None

-- a server tells a client which view it has adopted, if it has one
abbrev pub view_packets : ServerId → Option View → ClientId → ℕ → ℕ → List Packet
view_packets id None client q part = []
view_packets id (Some view) client q part =
    record { from = FromServer id; to = Client client; message = Refer q part view } ∷ []

abbrev pub tells_view : Server → ClientId → ℕ → ℕ → Reaction Server
tells_view server client q part = sends server (view_packets server.id server.view client q part)
