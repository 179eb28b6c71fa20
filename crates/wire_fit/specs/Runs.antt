-- What holds of the packets of whole runs.
use Rattle.std.specs.Prelude.{◌≡◌, ℕ, ◌^◌, ◌<◌, List, length, slice_get, All, Some, Ok}
use Rattle.kr_order.specs.declared.message.Packet.{Packet}
use Rattle.script_lang.specs.declared.script.Script.{Script}
use Rattle.script_lang.specs.Script.{IsScript}
use Rattle.kr_wire.specs.Valid.{IsPacket}
use Rattle.kr_wire.specs.Spelling.{spelling}
use Rattle.kr_wire.specs.Reading.{packet_in}
use Rattle.kr_world.specs.Run.{Turn, run_of}

-- a packet that has a spelling, of which it is read again
pub record IsReadAgain (packet : Packet) : Type 0 where
  pub fits : IsPacket packet
  pub again : packet_in (spelling packet) ≡ Ok packet

-- so is each packet that is in the bag after a step of the run
abbrev pub KeepsPackets : List Turn → Type 0
KeepsPackets run =
    (i : ℕ) (turn : Turn) → slice_get run i ≡ Some turn → All IsReadAgain turn.outcome.after.bag

-- in the run of each script, of fewer lines than there are numbers of queries
abbrev pub RunsKeepPackets : Type 0
RunsKeepPackets =
    (script : Script) → IsScript script → length script.events < 2 ^ 63 → KeepsPackets (run_of script)
