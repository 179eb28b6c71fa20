-- The words of refusals, as a transcript has them.
use Rattle.std.specs.Prelude.{ℕ, List, codes}
use Rattle.kr_world.specs.declared.refusal.Refusal.{Refusal}
use Rattle.kr_world.specs.declared.refusal.Refusal.TheVariants.{NoSuchClient, NoSuchServer, NoSuchPacket, Stopped}
use Rattle.kr_world.specs.declared.refusal.Refusal.TheVariants.{Busy, NothingOpen, Lost, LastServer, NotStopped}
use Rattle.kr_world.specs.declared.refusal.Refusal.TheVariants.{NotMember, JoinerThere, ServersSpent, BagFull}

abbrev pub refusal_word : Refusal → List ℕ
refusal_word NoSuchClient = codes "NoSuchClient"
refusal_word NoSuchServer = codes "NoSuchServer"
refusal_word NoSuchPacket = codes "NoSuchPacket"
refusal_word Stopped = codes "Stopped"
refusal_word Busy = codes "Busy"
refusal_word NothingOpen = codes "NothingOpen"
refusal_word Lost = codes "Lost"
refusal_word LastServer = codes "LastServer"
refusal_word NotStopped = codes "NotStopped"
refusal_word NotMember = codes "NotMember"
refusal_word JoinerThere = codes "JoinerThere"
refusal_word ServersSpent = codes "ServersSpent"
refusal_word BagFull = codes "BagFull"
