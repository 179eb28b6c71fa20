-- The packets of the smallest run, a client's first create and the reply to it, and their bytes.
use Rattle.std.specs.Prelude.{ℕ, List, [], ◌∷◌, ◌++◌}
use Rattle.kr_order.specs.declared.history.Command.TheVariants.{Create}
use Rattle.kr_order.specs.declared.history.Reply.TheVariants.{Created}
use Rattle.kr_order.specs.declared.message.Node.TheVariants.{Client, Server}
use Rattle.kr_order.specs.declared.message.Message.TheVariants.{Request, Replied}
use Rattle.kr_order.specs.declared.message.Packet.{Packet}

abbrev pub first_request : Packet
first_request = record { from = Client (record { 0 = 1 }); to = Server (record { 0 = 1 }); message = Request 1 Create }

abbrev pub first_reply : Packet
first_reply =
    record {
      from = Server (record { 0 = 1 });
      to = Client (record { 0 = 1 });
      message = Replied 1 (record { place = 1; reply = Created (record { 0 = 1 }) });
    }

-- 1 in four bytes, and in eight
abbrev pub one_in_4 : List ℕ
one_in_4 = 0 ∷ 0 ∷ 0 ∷ 1 ∷ []

abbrev pub one_in_8 : List ℕ
one_in_8 = 0 ∷ 0 ∷ 0 ∷ 0 ∷ 0 ∷ 0 ∷ 0 ∷ 1 ∷ []

-- version and kind, from 1 to 1, seq 1, a create
abbrev pub first_request_bytes : List ℕ
first_request_bytes = (1 ∷ 1 ∷ []) ++ one_in_4 ++ one_in_4 ++ one_in_8 ++ (1 ∷ [])

-- version and kind, from 1 to 1, seq 1 at place 1, event 1 created
abbrev pub first_reply_bytes : List ℕ
first_reply_bytes = (1 ∷ 6 ∷ []) ++ one_in_4 ++ one_in_4 ++ one_in_8 ++ one_in_8 ++ (1 ∷ []) ++ one_in_8
