-- What a server stands for.
use Rattle.std.specs.Prelude.{Bool, ℕ, List, length, Option}
use Rattle.kr_order.specs.declared.ids.ServerId.{ServerId}
use Rattle.kr_order.specs.declared.answer.Query.{Query}
use Rattle.kr_order.specs.declared.history.Entry.{Entry}
use Rattle.kr_order.specs.declared.view.View.{View}
use Rattle.kr_protocol.specs.Server.{Server}

-- the server of the protocol, and whether a call on it found no memory
pub record ServerStanding : Type 0 where
  pub server : Server
  pub failed : Bool

-- the server with these parts, whose board stands for this history
abbrev pub server_of : ServerId → Option View → List Entry → List Entry → ℕ → ℕ → List Query → Server
server_of id view log history fed need waiting =
    record { id = id; log = log; done = length history; view = view; fed = fed; need = need; waiting = waiting }
