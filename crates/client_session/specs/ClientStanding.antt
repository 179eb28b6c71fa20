-- What a client stands for.
use Rattle.std.specs.Prelude.{Bool}
use Rattle.kr_protocol.specs.Client.{Client}

-- the client of the protocol, and whether a call on it found no memory
pub record ClientStanding : Type 0 where
  pub client : Client
  pub failed : Bool
