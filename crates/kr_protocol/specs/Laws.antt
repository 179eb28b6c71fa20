-- The statements of the laws.
use Rattle.std.specs.Prelude.{◌≡◌}
use Rattle.kr_order.specs.declared.message.Packet.{Packet}
use Rattle.kr_protocol.specs.Server.{Server, server_takes}

abbrev pub RepeatsChangeNothing : Type 0
RepeatsChangeNothing =
    (server : Server) (packet : Packet)
    → (server_takes (server_takes server packet).after packet).after.log ≡ (server_takes server packet).after.log
