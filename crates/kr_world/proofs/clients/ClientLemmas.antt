-- A client of a world that has the facts.
use Rattle.std.proofs.Common.{◌≡◌, ◌≢◌, ℕ, ◌-◌, ◌≤◌, List, ap, arith}
use Rattle.std.specs.Prelude.{Some, slice_get, slice_set}
use Rattle.std.proofs.lemmas.Option.{slice_get_within}
use Rattle.kr_order.specs.declared.ids.ClientId.{ClientId}
use Rattle.kr_protocol.specs.Client.{Client}
use Rattle.kr_world.specs.World.{World, client_at}
use Rattle.kr_world.specs.Run.{Turn}
use Rattle.kr_world.specs.Facts.{IsTrueClient, AreFacts}
use Rattle.kr_world.proofs.steps.ListFacts.{set_here}
use Rattle.kr_world.proofs.packets.PacketLemmas.{same_client}
use Rattle.kr_world.proofs.facts.FactLemmas.{at_own}

-- a client at its number
pub record IsPresent (past : List Turn) (world : World) (id : ClientId) (client : Client) : Type 0 where
  pub at : client_at world id ≡ Some client
  pub facts : AreFacts past world

pub its_facts : (past : List Turn) (world : World) (id : ClientId) (client : Client) → IsPresent past world id client
    → IsTrueClient past world.history (id.0 - 1) client
its_facts past world id client here = here.facts.clients (id.0 - 1) client here.at

-- where the number is not 0, the client has it
pub own_id : (past : List Turn) (world : World) (id : ClientId) (client : Client) → IsPresent past world id client
    → 1 ≤ id.0 → client.id ≡ id
own_id past world id client here low =
    let number = (its_facts past world id client here).id in
    same_client client.id id (omega arith)

-- and the others do not
pub other_id : (past : List Turn) (world : World) (id : ClientId) → AreFacts past world → 1 ≤ id.0
    → (j : ℕ) (other : Client) → j ≢ id.0 - 1 → slice_get world.clients j ≡ Some other → id.0 ≢ other.id.0
other_id past world id facts low j other different there =
    let number = (facts.clients j other there).id in
    omega arith

-- once it has become another of its number, that one stands there
pub set_own : (past : List Turn) (world : World) (id : ClientId) (client after : Client) → IsPresent past world id client
    → after.id ≡ client.id → slice_get (slice_set world.clients (id.0 - 1) after) (after.id.0 - 1) ≡ Some after
set_own past world id client after here same =
    let i = id.0 - 1 in
    let known = (its_facts past world id client here).id in
    let number = ap (λ (c : ClientId). c.0) same in
    at_own (slice_set world.clients i after) i after (omega arith) (set_here world.clients i after (slice_get_within world.clients i client here.at))
