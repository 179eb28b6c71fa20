-- Once the first member has all that was begun, its log stays as it is.
use Rattle.kr_protocol.specs.Server.{Server, server_takes, server_works, server_ticks, is_first, is_server}
use Rattle.kr_protocol.specs.Client.{Client, new_client}
use Rattle.kr_order.specs.History.{highest_seq}
use Rattle.std.proofs.Common.{List, [], ap, arith, inl, inr, length, ltb, refl, set, subst, sym, ℕ, ◌++◌, ◌-◌, ◌<◌, ◌∙◌, ◌≡◌, ◌≤◌, ◌⊎◌}
use Rattle.std.specs.Prelude.{Option, Some, slice_get}
use Rattle.std.proofs.lemmas.Bool.{and_parts, cases_eq, cases_lt, false≢true, ltb-true}
use Rattle.std.proofs.lemmas.List.{append-nil}
use Rattle.std.proofs.lemmas.Option.{same_Some, slice_get_within}
use Rattle.kr_order.specs.View.{first_view}
use Rattle.kr_order.specs.declared.history.Command.{Command}
use Rattle.kr_order.specs.declared.history.Entry.{Entry}
use Rattle.kr_order.specs.declared.ids.ClientId.{ClientId}
use Rattle.kr_order.specs.declared.ids.ServerId.{ServerId}
use Rattle.kr_order.specs.declared.message.Packet.{Packet}
use Rattle.kr_order.specs.declared.view.View.{View}
use Rattle.kr_protocol.proofs.TimelineLemmas.{IsListed}
use Rattle.script_lang.specs.declared.script.Event.{Event}
use Rattle.kr_world.proofs.bounds.BelowLemmas.{counted_of}
use Rattle.kr_world.proofs.packets.GainLemmas.{IsTrueCame}
use Rattle.kr_world.proofs.shapes.HandlerLemmas.{IsTaken, adopts_view, has_shape, taken_of}
use Rattle.kr_world.proofs.steps.ListFacts.{set_here, set_other}
use Rattle.kr_world.proofs.shapes.ShapeLemmas.{Gains, gains_command, gains_entries, gains_none}
use Rattle.kr_world.proofs.steps.StepLemmas.{at_index}
use Rattle.kr_world.specs.Facts.{HasBegun, IsTruePacket}
use Rattle.kr_world.specs.Lawful.{begun_by}
use Rattle.kr_world.specs.Step.{step}
use Rattle.kr_world.specs.World.{World, packet_at, server_at}
use Rattle.kr_calm.proofs.DoesLemmas.{Does, does_hear, does_learn, does_mark, does_nothing, does_retry, does_take, does_tell, does_tick, does_work}
use Rattle.kr_calm.proofs.EnteredLemmas.{AllEntered, all_stable, client_is, client_there, client_true}
use Rattle.kr_calm.proofs.GoLemmas.{Has, HasClient, packet_said}
use Rattle.kr_calm.proofs.MemberLemmas.{IsAt, adopts_no_other, member_is, prev_none, raised}
use Rattle.kr_calm.proofs.ReachedLemmas.{IsReached, calm_does}
use Rattle.kr_calm.proofs.ViewedLemmas.{InView, view_lasts}
use Rattle.kr_calm.proofs.WayLemmas.{Lasts}

-- a command that a client began is one of those that it counts
pub begun_within : (world : World) (reached : IsReached world) (id : ClientId) (seq : ℕ) (command : Command) → HasBegun reached.past id seq command → HasClient world id (λ client. seq ≤ client.seq)
begun_within world reached id seq command begun = by_place (cases_lt (length world.clients) id.0)
  where
    low : 1 ≤ id.0
    low = begun.caller_low

    within : seq - 1 < length (begun_by id reached.past)
    within = slice_get_within (begun_by id reached.past) (seq - 1) command begun.begun

    by_client : (some : Client) → id.0 ≤ length world.clients → HasClient world id (λ client. seq ≤ client.seq)
    by_client some le =
        let its = client_there world id some (omega (arith, low)) in
        let known = client_true world reached id its.client its.at in
        let own = client_is world reached id its.client low its.at in
        let count : its.client.seq ≡ length (begun_by id reached.past) = known.seq ∙ ap (λ c. length (begun_by c reached.past)) own in
        record { client = its.client; at = its.at; holds = omega (arith, within, count) }

    by_place : (length world.clients < id.0) ⊎ (id.0 ≤ length world.clients) → HasClient world id (λ client. seq ≤ client.seq)
    by_place (inl beyond) = absurd (omega (arith, within, ap length (reached.none_else id beyond)))
    by_place (inr le) = by_client (new_client (first_view 1) id) le

module _ (view : View) (first : ServerId) (at : IsAt view 0 first) where
  -- it gains nothing by what comes
  gains_no_more : (world : World) (inv : InView view world) (server : Server) (came : Option Packet) (more : List Entry) → AllEntered view first at world → server_at world first ≡ Some server → server.view ≡ Some view
      → IsTrueCame inv.calm.reached.past world.history came → Gains server came more → more ≡ []
  gains_no_more world inv server came more all there adopted known (gains_none any) = refl
  gains_no_more world inv server came more all there adopted known (gains_command client to seq command may) =
      let begun = begun_within world inv.calm.reached client seq command known in
      let low = known.caller_low in
      let entered = all client begun.client low begun.at in
      let same : entered.server ≡ server = same_Some entered.server server (sym entered.at ∙ there) in
      let has : begun.client.seq ≤ highest_seq client server.log = subst (λ (s : Server). begun.client.seq ≤ highest_seq client s.log) same entered.holds in
      let newer = ltb-true (highest_seq client server.log) seq (and_parts (is_first server) (ltb (highest_seq client server.log) seq) may).1 in
      let within = begun.holds in
      absurd (omega arith)
  gains_no_more world inv server came more all there adopted known (gains_entries from to start entries is) =
      let calm = inv.calm in
      let own = member_is view world calm 0 first at server there in
      let none = prev_none view (raised view world calm) calm.alone 0 first at server own adopted refl in
      absurd (false≢true (sym (ap (λ o. is_server o from) none) ∙ is))

  -- so its log stays
  takes_no_more : (world : World) (inv : InView view world) (k : ℕ) (packet : Packet) (server : Server) → AllEntered view first at world → server_at world first ≡ Some server → server.view ≡ Some view → packet_at world k ≡ Some packet
      → IsTaken server packet → (server_takes server packet).after.log ≡ server.log
  takes_no_more world inv k packet server all there adopted sent (adopts_view to other may) =
      let said : IsListed world.manager other = packet_said world k _ inv.calm.reached.sound sent in
      absurd (adopts_no_other view other world server inv.calm adopted said may)
  takes_no_more world inv k packet server all there adopted sent (has_shape p shape) =
      let reached = inv.calm.reached in
      let known = at_index (IsTruePacket reached.past world.history) world.bag (k - 1) packet reached.facts.packets sent in
      let none = gains_no_more world inv server (Some packet) shape.more all there adopted known shape.gains in
      shape.log ∙ ap (λ more. server.log ++ more) none ∙ append-nil server.log

  -- the first member's log is this
  abbrev pub HasLog : List Entry → World → Type 0
  HasLog log world = Has world first (λ server. server.log ≡ log)

  set_log : (log : List Entry) (world after : World) (k : ℕ) (old new : Server) → after.servers ≡ set world.servers k new → slice_get world.servers k ≡ Some old → (k ≡ first.0 - 1 → new.log ≡ old.log)
      → HasLog log world → HasLog log after
  set_log log world after k old new is there same has = elim (cases_eq (first.0 - 1) k) [
    | inl here ↦
        let its : has.server ≡ old = same_Some has.server old (sym has.at ∙ ap (slice_get world.servers) here ∙ there) in
        let now : slice_get (set world.servers k new) (first.0 - 1) ≡ Some new = ap (slice_get (set world.servers k new)) here ∙ set_here world.servers k new (slice_get_within world.servers k old there) in
        record { server = new; at = ap (λ s. slice_get s (first.0 - 1)) is ∙ now; holds = same (sym here) ∙ ap (λ (s : Server). s.log) (sym its) ∙ has.holds }
    | inr other ↦
        record { server = has.server; at = ap (λ s. slice_get s (first.0 - 1)) is ∙ set_other world.servers k new (first.0 - 1) has.server other has.at; holds = has.holds }
  ]

  log_unmoved : (log : List Entry) (world after : World) → after.servers ≡ world.servers → HasLog log world → HasLog log after
  log_unmoved log world after is has = record { server = has.server; at = ap (λ s. slice_get s (first.0 - 1)) is ∙ has.at; holds = has.holds }

  log_does : (log : List Entry) (world : World) (event : Event) (after : World) → InView view world → AllEntered view first at world → Does world event after → HasLog log world → HasLog log after
  log_does log world event after inv all (does_nothing e) has = has
  log_does log world event after inv all (does_learn who client found) has = log_unmoved log world after refl has
  log_does log world event after inv all does_tell has = log_unmoved log world after refl has
  log_does log world event after inv all (does_tick who old seat) has = set_log log world after (who.0 - 1) old (server_ticks old).after refl seat.at (λ same. refl) has
  log_does log world event after inv all (does_retry who to client found) has = log_unmoved log world after refl has
  log_does log world event after inv all (does_work who workers old seat) has = set_log log world after (who.0 - 1) old (server_works old).after refl seat.at (λ same. refl) has
  log_does log world event after inv all (does_mark k) has = log_unmoved log world after refl has
  log_does log world event after inv all (does_hear k packet who client there to found) has = log_unmoved log world after refl has
  log_does log world event after inv all (does_take k packet who old there to seat) has =
      set_log log world after (who.0 - 1) old (server_takes old packet).after refl seat.at
      (λ same.
      let its : server_at world first ≡ Some old = subst (λ j. slice_get world.servers j ≡ Some old) same seat.at in
      let viewed = inv.viewed 0 first at in
      let one : viewed.server ≡ old = same_Some viewed.server old (sym viewed.at ∙ its) in
      let adopted : old.view ≡ Some view = subst (λ (s : Server). s.view ≡ Some view) one viewed.holds in
      takes_no_more world inv k packet old all its adopted there (taken_of old packet (counted_of world who old seat)))
      has

  -- a world in which all is entered, and the first member's log is this
  pub record InLog (log : List Entry) (world : World) : Type 0 where
    pub inv : InView view world
    pub entered : AllEntered view first at world
    pub head : HasLog log world

  pub log_lasts : (log : List Entry) → Lasts view (InLog log)
  log_lasts log = record {
    calm = λ world is. is.inv.calm;
    keeps = λ world event kind is. record {
      inv = (view_lasts view).keeps world event kind is.inv;
      entered = all_stable view first at (InView view) (view_lasts view) world event kind is.inv is.entered;
      head = log_does log world event (step world event).after is.inv is.entered (calm_does view world event is.inv.calm kind) is.head;
    };
  }
