-- What steps of a round leave so, of a server and of a client.
use Rattle.kr_protocol.specs.Server.{Server}
use Rattle.kr_protocol.specs.Client.{Client}
use Rattle.std.proofs.Common.{suc, zero, ℕ}
use Rattle.kr_order.specs.declared.ids.ClientId.{ClientId}
use Rattle.kr_order.specs.declared.ids.ServerId.{ServerId}
use Rattle.kr_order.specs.declared.view.View.{View}
use Rattle.kr_world.specs.Round.{round_events}
use Rattle.kr_world.specs.Step.{step}
use Rattle.kr_world.specs.World.{World}
use Rattle.kr_calm.proofs.GoLemmas.{ClientGoes, Goes, Has, HasClient, clients_go, servers_go}
use Rattle.kr_calm.proofs.ReachedLemmas.{calm_does, round_are}
use Rattle.kr_calm.proofs.RoomLemmas.{after_rounds, next}
use Rattle.kr_calm.proofs.WayLemmas.{Lasts, Stable, lasts_all, stays_all}

module _ (view : View) (I : World → Type 0) (lasts : Lasts view I) where
  pub has_stable : (id : ServerId) (P : Server → Type 0) → ((old new : Server) → Goes view old new → P old → P new) → Stable view I lasts (λ world. Has world id P)
  has_stable id P grows world event is inv has =
      let calm = lasts.calm world inv in
      let went = servers_go view world event (step world event).after calm (calm_does view world event calm is) id has.server has.at in
      record { server = went.server; at = went.at; holds = grows has.server went.server went.holds has.holds }

  pub client_stable : (id : ClientId) (P : Client → Type 0) → ((old new : Client) → ClientGoes old new → P old → P new) → Stable view I lasts (λ world. HasClient world id P)
  client_stable id P grows world event is inv has =
      let calm = lasts.calm world inv in
      let went = clients_go world event (step world event).after (calm_does view world event calm is) id has.client has.at in
      record { client = went.client; at = went.at; holds = grows has.client went.client went.holds has.holds }

  pub nothing_stable : Stable view I lasts (λ world. Unit {0})
  nothing_stable world event is inv holds = tt

  -- both
  pub both_stable : (A B : World → Type 0) → Stable view I lasts A → Stable view I lasts B → Stable view I lasts (λ world. A world × B world)
  both_stable A B one two world event is inv holds = (one world event is inv holds.0, two world event is inv holds.1)

  -- after a whole round
  pub round_stays : (P : World → Type 0) → Stable view I lasts P → (world : World) → I world → P world → P (next world)
  round_stays P stable world inv holds = stays_all view I lasts P stable world (round_events world) (round_are world (lasts.calm world inv).reached) inv holds

  pub round_lasts : (world : World) → I world → I (next world)
  round_lasts world inv = lasts_all view I lasts world (round_events world) (round_are world (lasts.calm world inv).reached) inv

  pub rounds_last : (n : ℕ) (world : World) → I world → I (after_rounds n world)
  rounds_last zero world inv = inv
  rounds_last (suc n) world inv = rounds_last n (next world) (round_lasts world inv)

  pub rounds_stay : (P : World → Type 0) → Stable view I lasts P → (n : ℕ) (world : World) → I world → P world → P (after_rounds n world)
  rounds_stay P stable zero world inv holds = holds
  rounds_stay P stable (suc n) world inv holds = rounds_stay P stable n (next world) (round_lasts world inv) (round_stays P stable world inv holds)
