-- From the learning of the first round on each client knows the manager's view, and asks by no other.
use Rattle.kr_order.specs.declared.message.Node.TheVariants.{Manager as ToManager, Client as ToClient, Server as ToServer}
use Rattle.kr_order.specs.declared.message.Node as nodes
use Rattle.kr_protocol.specs.Client.{Client, learns, client_takes, message_to, after_reply, after_answers, answers_from, after_refer, closes, unheard, answered, turns_to, may_answer_all}
use Rattle.std.proofs.Common.{Bool, List, [], ap, arith, cond, eqb, false, inl, inr, length, ltb, refl, set, subst, sym, true, ℕ, ◌&&◌, ◌++◌, ◌-◌, ◌∙◌, ◌∷◌, ◌≡◌, ◌≤◌}
use Rattle.std.specs.Prelude.{All, None, Option, Some, slice_get}
use Rattle.std.proofs.lemmas.Bool.{cases_eq, ltb-true}
use Rattle.std.proofs.lemmas.List.Elements.{All-append}
use Rattle.std.proofs.lemmas.Option.{same_Some, slice_get_within}
use Rattle.kr_order.specs.Numbers.{numbers_to}
use Rattle.kr_order.specs.declared.answer.Teller.{Teller}
use Rattle.kr_order.specs.declared.answer.Told.{Told}
use Rattle.kr_order.specs.declared.history.Command.{Command}
use Rattle.kr_order.specs.declared.history.Placed.{Placed}
use Rattle.kr_order.specs.declared.ids.ClientId.{ClientId}
use Rattle.kr_order.specs.declared.ids.EventId.{EventId}
use Rattle.kr_order.specs.declared.message.Message.{Message}
use Rattle.kr_order.specs.declared.message.Message.TheVariants.{Answered, Refer, Replied}
use Rattle.kr_order.specs.declared.message.Node.{Node}
use Rattle.kr_order.specs.declared.message.Packet.{Packet}
use Rattle.kr_order.specs.declared.view.View.{View}
use Rattle.script_lang.specs.declared.script.Event.{Event}
use Rattle.script_lang.specs.declared.script.Event.TheVariants.{Learn, Tick}
use Rattle.kr_world.proofs.steps.ListFacts.{set_here, set_other}
use Rattle.kr_world.proofs.rounds.RoundLemmas.{after_all-append}
use Rattle.kr_world.proofs.rounds.RoundShapeLemmas.{clients_stay, step_shape}
use Rattle.kr_world.proofs.steps.StepLemmas.{at_index}
use Rattle.kr_world.specs.Round.{after_all, delivery_events, learn_events, learn_of, learnt_retry_events, round_calls, round_events, tick_events, work_events}
use Rattle.kr_world.specs.Step.{client_sends, learn_refusal, learns_view, step, unless}
use Rattle.kr_world.specs.World.{World, client_at, packet_at}
use Rattle.kr_calm.proofs.DoesLemmas.{Does, does_hear, does_learn, does_mark, does_nothing, does_retry, does_take, does_tell, does_tick, does_work}
use Rattle.kr_calm.proofs.EnteredLemmas.{client_there}
use Rattle.kr_calm.proofs.GoLemmas.{HasClient}
use Rattle.kr_calm.proofs.InLemmas.{IsIn, in_left, in_map, in_numbers}
use Rattle.kr_calm.proofs.ReachedLemmas.{InCalm, IsRoundStep, calls_are, calm_does, calm_steps, deliveries_are, works_are}
use Rattle.kr_calm.proofs.ReferLemmas.{IsNoNewer, RefersBack}
use Rattle.kr_calm.proofs.RoomLemmas.{next, room-append}
use Rattle.kr_calm.proofs.StayLemmas.{client_stable}
use Rattle.kr_calm.proofs.ViewedLemmas.{InView, view_lasts}
use Rattle.kr_calm.proofs.WayLemmas.{Lasts, Stable, calm_lasts, happens, stays_all}
use Rattle.kr_calm.specs.Calm.{HaveRoom}
use Rattle.kr_order.specs.declared.answer.Teller.TheVariants as teller

-- the client knows the view
abbrev pub Knows : View → Client → Type 0
Knows view client = client.known ≡ view

known_reply : (client : Client) (call : Option Command) (seq : ℕ) (placed : Placed) → (after_reply client call seq placed).after.known ≡ client.known
known_reply client None seq placed = refl
known_reply client (Some command) seq placed = by_test (eqb seq client.seq)
  where
    by_test : (test : Bool) → (cond test (closes client placed) (unheard client)).after.known ≡ client.known
    by_test true = refl
    by_test false = refl

known_answers : (client : Client) (asking : Option (List (EventId × EventId))) (by : Teller) (q part : ℕ) (told : Told) → (after_answers client asking by q part told).after.known ≡ client.known
known_answers client None by q part told = refl
known_answers client (Some pairs) by q part told = by_test (eqb q client.q && (eqb part client.part && may_answer_all part pairs told.answers))
  where
    by_test : (test : Bool) → (cond test (answered client pairs by told) (unheard client)).after.known ≡ client.known
    by_test true = refl
    by_test false = refl

known_from : (client : Client) (from : nodes.Node) (q part : ℕ) (told : Told) → (answers_from client from q part told).after.known ≡ client.known
known_from client ToManager q part told = refl
known_from client (ToClient other) q part told = refl
known_from client (ToServer server) q part told = known_answers client client.asking (teller.Server server) q part told

-- a reference to no newer view is not taken
pub not_referred : (client : Client) (asking : Option (List (EventId × EventId))) (q part : ℕ) (view : View) → view.number ≤ client.known.number → after_refer client asking q part view ≡ unheard client
not_referred client None q part view old = refl
not_referred client (Some pairs) q part view old =
    let test : ltb client.known.number view.number ≡ false = le-ltb_false client.known.number view.number old in
    let none : (eqb q client.q && (eqb part client.part && ltb client.known.number view.number)) ≡ false = ap (λ b. eqb q client.q && (eqb part client.part && b)) test ∙ neither (eqb q client.q) (eqb part client.part) in
    ap (λ b. cond b (turns_to client view) (unheard client)) none
  where
    neither : (a b : Bool) → (a && (b && false)) ≡ false
    neither true true = refl
    neither true false = refl
    neither false b = refl

    le-ltb_false : (m n : ℕ) → n ≤ m → ltb m n ≡ false
    le-ltb_false m n le = by_test (ltb m n) refl
      where
        by_test : (test : Bool) → ltb m n ≡ test → ltb m n ≡ false
        by_test false is = is
        by_test true is = absurd (omega (arith, ltb-true m n is))

hears_known : (view : View) (client : Client) (packet : Packet) → Knows view client → RefersBack view.number packet → Knows view (client_takes client packet).after
hears_known view client packet knows = by_message packet.message
  where
    by_message : (message : Message) → IsNoNewer view.number message → Knows view (message_to client packet.from message).after
    by_message (Replied seq placed) back = known_reply client client.call seq placed ∙ knows
    by_message (Answered q part told) back = known_from client packet.from q part told ∙ knows
    by_message (Refer q part other) back =
        ap (λ h. h.after.known) (not_referred client client.asking q part other (omega (arith, ap (λ (v : View). v.number) knows))) ∙ knows
    by_message other back = knows

-- what a packet refers to is no newer than the view
pub refers_back : (view : View) (world : World) (k : ℕ) (packet : Packet) → InCalm view world → packet_at world k ≡ Some packet → RefersBack view.number packet
refers_back view world k packet calm there =
    subst (λ n. RefersBack n packet) (ap (λ (v : View). v.number) calm.current) (at_index (RefersBack world.manager.current.number) world.bag (k - 1) packet calm.reached.refers there)

module _ (view : View) where
  abbrev pub KnowsIt : ClientId → World → Type 0
  KnowsIt id world = HasClient world id (Knows view)

  set_known : (id : ClientId) (world after : World) (k : ℕ) (old new : Client) → after.clients ≡ set world.clients k new → slice_get world.clients k ≡ Some old → (Knows view old → Knows view new) → KnowsIt id world → KnowsIt id after
  set_known id world after k old new is there goes has = elim (cases_eq (id.0 - 1) k) [
    | inl same ↦
        let its : has.client ≡ old = same_Some has.client old (sym has.at ∙ ap (slice_get world.clients) same ∙ there) in
        let here : slice_get (set world.clients k new) (id.0 - 1) ≡ Some new = ap (slice_get (set world.clients k new)) same ∙ set_here world.clients k new (slice_get_within world.clients k old there) in
        record { client = new; at = ap (λ s. slice_get s (id.0 - 1)) is ∙ here; holds = goes (subst (Knows view) its has.holds) }
    | inr other ↦
        record { client = has.client; at = ap (λ s. slice_get s (id.0 - 1)) is ∙ set_other world.clients k new (id.0 - 1) has.client other has.at; holds = has.holds }
  ]

  known_unmoved : (id : ClientId) (world after : World) → after.clients ≡ world.clients → KnowsIt id world → KnowsIt id after
  known_unmoved id world after is has = record { client = has.client; at = ap (λ s. slice_get s (id.0 - 1)) is ∙ has.at; holds = has.holds }

  known_does : (id : ClientId) (world : World) (event : Event) (after : World) → InCalm view world → Does world event after → KnowsIt id world → KnowsIt id after
  known_does id world event after calm (does_nothing e) has = has
  known_does id world event after calm (does_learn who client found) has = set_known id world after (who.0 - 1) client (learns client world.manager.current) refl found (λ knows. calm.current) has
  known_does id world event after calm does_tell has = known_unmoved id world after refl has
  known_does id world event after calm (does_tick who server seat) has = known_unmoved id world after refl has
  known_does id world event after calm (does_retry who to client found) has = known_unmoved id world after refl has
  known_does id world event after calm (does_work who workers server seat) has = known_unmoved id world after refl has
  known_does id world event after calm (does_mark k) has = known_unmoved id world after refl has
  known_does id world event after calm (does_hear k packet who client there to found) has =
      set_known id world after (who.0 - 1) client (client_takes client packet).after refl found (λ knows. hears_known view client packet knows (refers_back view world k packet calm there)) has
  known_does id world event after calm (does_take k packet who server there to seat) has = known_unmoved id world after refl has

  pub known_stable : (I : World → Type 0) (lasts : Lasts view I) (id : ClientId) → Stable view I lasts (KnowsIt id)
  known_stable I lasts id world event is inv has = known_does id world event (step world event).after (lasts.calm world inv) (calm_does view world event (lasts.calm world inv) is) has

  -- all do
  abbrev pub AllKnow : World → Type 0
  AllKnow world = (id : ClientId) (client : Client) → 1 ≤ id.0 → client_at world id ≡ Some client → Knows view client

  pub all_know_stable : (I : World → Type 0) (lasts : Lasts view I) → Stable view I lasts AllKnow
  all_know_stable I lasts world event is inv all id client low there =
      let after = (step world event).after in
      let lt = slice_get_within after.clients (id.0 - 1) client there in
      let same = (step_shape world event is.kind).clients in
      let was = client_there world id client (omega arith) in
      let has = known_stable I lasts id world event is inv (record { client = was.client; at = was.at; holds = all id was.client low was.at }) in
      subst (Knows view) (same_Some has.client client (sym has.at ∙ there)) has.holds

  -- learning
  learns_now : (id : ClientId) (world : World) (client : Client) → client_at world id ≡ Some client → InCalm view world → KnowsIt id (step world (Learn id)).after
  learns_now id world client there calm =
      let after : (step world (Learn id)).after ≡ (client_sends world id (record { after = learns client world.manager.current; sent = [] })).after = ap (λ found. (unless world (learn_refusal found) (learns_view world id found)).after) there in
      let has : KnowsIt id (client_sends world id (record { after = learns client world.manager.current; sent = [] })).after = record {
        client = learns client world.manager.current;
        at = set_here world.clients (id.0 - 1) (learns client world.manager.current) (slice_get_within world.clients (id.0 - 1) client there);
        holds = calm.current;
      } in
      subst (KnowsIt id) (sym after) has

  -- after the first steps of a round all know it
  pub calls_known : (world : World) → HaveRoom world (round_calls world) → InCalm view world → AllKnow (after_all world (round_calls world))
  calls_known world room calm id client low there =
      let calls = round_calls world in
      let same = clients_stay world calls in
      let after = after_all world calls in
      let lt = slice_get_within after.clients (id.0 - 1) client there in
      let is : IsIn (Learn id) calls = in_left (Learn id) (learn_events world) (Tick None ∷ (tick_events world ++ learnt_retry_events world)) (in_map learn_of id.0 (numbers_to (length world.clients)) (in_numbers id.0 (length world.clients) low (omega arith))) in
      let was = client_there world id client (omega arith) in
      let has = happens view (InCalm view) (calm_lasts view) (λ w. HasClient w id (λ c. Unit {0})) (KnowsIt id) (client_stable view (InCalm view) (calm_lasts view) id (λ c. Unit {0}) (λ old new goes has. tt)) (known_stable (InCalm view) (calm_lasts view) id) (Learn id)
      (λ now calm is room has. learns_now id now has.client has.at calm) world calls (calls_are world calm.reached) room is calm was in
      subst (Knows view) (same_Some has.client client (sym has.at ∙ there)) has.holds

-- and so after a whole round
pub round_known : (view : View) (world : World) → HaveRoom world (round_events world) → InCalm view world → AllKnow view (next world)
round_known view world room calm =
    let calls = round_calls world in
    let then = after_all world calls in
    let rest = delivery_events then ++ work_events world in
    let rooms = room-append world calls rest room in
    let calm' = calm_steps view world calls (calls_are world calm.reached) calm in
    let are : All IsRoundStep rest = All-append IsRoundStep (delivery_events then) (work_events world) (deliveries_are then calm'.reached) (works_are world calm.reached) in
    let end : AllKnow view (after_all then rest) = stays_all view (InCalm view) (calm_lasts view) (AllKnow view) (all_know_stable view (InCalm view) (calm_lasts view)) then rest are calm' (calls_known view world rooms.0 calm) in
    subst (AllKnow view) (sym (after_all-append world calls rest)) end

-- a world in which all have the view, and all clients know it
pub record InKnown (view : View) (world : World) : Type 0 where
  pub inv : InView view world
  pub knows : AllKnow view world

pub known_lasts : (view : View) → Lasts view (InKnown view)
known_lasts view = record {
  calm = λ world is. is.inv.calm;
  keeps = λ world event kind is. record {
    inv = (view_lasts view).keeps world event kind is.inv;
    knows = all_know_stable view (InView view) (view_lasts view) world event kind is.inv is.knows;
  };
}
