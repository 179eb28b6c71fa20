-- Live input of one client, and of sixteen with a line of each kind, and how they are spelt.
use Rattle.std.specs.Prelude.{ℕ, List, [], ◌∷◌, ◌++◌, codes}
use Rattle.kr_order.specs.declared.ids.ClientId.{ClientId}
use Rattle.kr_order.specs.declared.ids.EventId.{EventId}
use Rattle.kr_order.specs.declared.history.Command.TheVariants.{Create, Assign, Acquire, Release}
use Rattle.script_lang.specs.declared.live.LiveCall.{LiveCall}
use Rattle.script_lang.specs.declared.live.LiveCall.TheVariants.{Command, Query}
use Rattle.script_lang.specs.declared.live.LivePlan.{LivePlan}
use Rattle.script_lang.specs.Line.{line}
use Rattle.script_lang.specs.Rows.{must, asked, pairs_of_batch}

-- a call of this client
abbrev pub by : ℕ → LiveCall → ClientId × LiveCall
by client call = (record { 0 = client }, call)

abbrev pub event : ℕ → EventId
event n = record { 0 = n }

-- two events are made and bound, one of them is let go, and the client asks before and after
abbrev pub one_client : LivePlan
one_client = record {
  clients = 1;
  calls =
      by 1 (Command Create) ∷ by 1 (Command Create) ∷ by 1 (Command (Assign (must 1 2 ∷ [])))
      ∷ by 1 (Query (asked 1 2 ∷ asked 2 1 ∷ [])) ∷ by 1 (Command (Release (event 1))) ∷ by 1 (Query (asked 1 2 ∷ [])) ∷ [];
}

-- its spelling
abbrev pub one_client_spelt : List ℕ
one_client_spelt =
    line (codes "live 1") ++ line (codes "create 1") ++ line (codes "create 1") ++ line (codes "assign 1 1!2")
    ++ line (codes "query 1 1,2 2,1") ++ line (codes "release 1 1") ++ line (codes "query 1 1,2")

-- a call of each kind, by the first and the last of the clients
abbrev pub sixteen_clients : LivePlan
sixteen_clients = record {
  clients = 16;
  calls =
      by 16 (Command (Assign [])) ∷ by 1 (Command (Assign pairs_of_batch))
      ∷ by 16 (Command (Acquire (event 18446744073709551615))) ∷ by 1 (Query (asked 3 3 ∷ [])) ∷ by 16 (Command Create)
      ∷ by 10 (Command (Release (event 1))) ∷ [];
}

-- its spelling
abbrev pub sixteen_clients_spelt : List ℕ
sixteen_clients_spelt =
    line (codes "live 16") ++ line (codes "assign 16") ++ line (codes "assign 1 1!2 3?18446744073709551615")
    ++ line (codes "acquire 16 18446744073709551615") ++ line (codes "query 1 3,3") ++ line (codes "create 16")
    ++ line (codes "release 10 1")
