-- What holds of every world of a script's run, and what of those of its rounds where no server joins.
use Rattle.kr_protocol.specs.Client.{Client, new_client}
use Rattle.std.proofs.Common.{List, [], ap, arith, false, length, refl, true, ◌++◌, ◌-◌, ◌<◌, ◌∙◌, ◌∷◌, ◌≡◌, ◌≤◌}
use Rattle.std.specs.Prelude.{All, None, Option, Some}
use Rattle.std.proofs.lemmas.List.Elements.{All-append, All-cons, All-head, All-nil, All-tail}
use Rattle.std.proofs.lemmas.Option.{slice_get_within}
use Rattle.kr_order.specs.View.{first_view, in_chain}
use Rattle.kr_order.specs.declared.history.Command.{Command}
use Rattle.kr_order.specs.declared.ids.ClientId.{ClientId}
use Rattle.kr_order.specs.declared.ids.ServerId.{ServerId}
use Rattle.kr_order.specs.declared.view.View.{View}
use Rattle.script_lang.specs.Event.{IsEvent}
use Rattle.script_lang.specs.Script.{IsScript}
use Rattle.script_lang.specs.declared.script.Event.{Event}
use Rattle.script_lang.specs.declared.script.Event.TheVariants.{Call}
use Rattle.script_lang.specs.declared.script.Script.{Script}
use Rattle.kr_world.proofs.runs.ActLemmas.{step_keeps}
use Rattle.kr_world.proofs.facts.FirstFactLemmas.{first_facts}
use Rattle.kr_world.proofs.facts.KeepLemmas.{turn_of}
use Rattle.kr_world.proofs.packets.PastLemmas.{begun_same, others_begin}
use Rattle.kr_world.proofs.rounds.RoundEventLemmas.{calls_fit, deliveries_fit, works_fit}
use Rattle.kr_world.proofs.rounds.RoundShapeLemmas.{calls_of_round, clients_stay, deliveries_of_round, step_shape, works_of_round}
use Rattle.kr_world.proofs.sound.SoundLemmas.{worlds_sound}
use Rattle.kr_world.proofs.chain.ViewLemmas.{length-made}
use Rattle.kr_world.specs.Facts.{AreFacts}
use Rattle.kr_world.specs.Lawful.{begins_by, begun_by}
use Rattle.kr_world.specs.Round.{IsOfRound, after_all, delivery_events, round_calls, round_events, work_events}
use Rattle.kr_world.specs.Run.{Turn}
use Rattle.kr_world.specs.Sound.{IsSound}
use Rattle.kr_world.specs.Step.{call_refusal, client_calls, step, unless}
use Rattle.kr_order.specs.Marks.{is_marked}
use Rattle.kr_world.specs.World.{World, client_at, first_world, is_stopped}
use Rattle.kr_world.specs.declared.refusal.Refusal.{Refusal}
use Rattle.kr_calm.proofs.DoesLemmas.{Does, does, does_manager}
use Rattle.kr_calm.proofs.HeldLemmas.{IsFedHeld, first_held, step_held}
use Rattle.kr_calm.proofs.ReferLemmas.{AllReferBack, RefersBack, step_refers}

-- a world that steps of a script may lead to
pub record IsReached (world : World) : Type 0 where
  pub past : List Turn
  pub sound : IsSound world
  pub facts : AreFacts past world
  pub few : length world.clients ≤ 16
  -- who is no client began nothing
  pub none_else : (caller : ClientId) → length world.clients < caller.0 → begun_by caller past ≡ []
  pub held : IsFedHeld world.servers
  pub refers : AllReferBack world

-- who is no client begins nothing
call_begins : (world : World) (client caller : ClientId) (command : Command) (found : Option Client) → client_at world client ≡ found → length world.clients < caller.0
    → begins_by caller (Call client command) (unless world (call_refusal world found) (client_calls world client command found)).refused ≡ []
call_begins world client caller command None is past = refl
call_begins world client caller command (Some c) is past = by_refusal (call_refusal world (Some c))
  where
    by_refusal : (refusal : Option Refusal) → begins_by caller (Call client command) (unless world refusal (client_calls world client command (Some c))).refused ≡ []
    by_refusal None = others_begin client caller command (λ same. absurd (omega (arith, slice_get_within world.clients (client.0 - 1) c is)))
    by_refusal (Some why) = refl

event_begins : (world : World) (caller : ClientId) (event : Event) → length world.clients < caller.0 → begins_by caller event (step world event).refused ≡ []
event_begins world caller (Call client command) past = call_begins world client caller command (client_at world client) refl past
event_begins world caller event past = refl

clients_same : (world : World) (event : Event) → length (step world event).after.clients ≡ length world.clients
clients_same world event = clients_stay world (event ∷ [])

-- a step leads to such a world again
pub step_reached : (world : World) (event : Event) → IsEvent event → IsReached world → IsReached (step world event).after
step_reached world event fit is =
    let count = clients_same world event in
    let turn = turn_of world event (step world event) in
    record {
      past = is.past ++ turn ∷ [];
      sound = worlds_sound.later world event is.sound;
      facts = (step_keeps is.past world event fit is.sound is.facts).facts;
      few = omega (arith, is.few);
      none_else = λ caller beyond.
          let before : length world.clients < caller.0 = omega arith in
          begun_same caller is.past turn (event_begins world caller event before) ∙ is.none_else caller before;
      held = step_held world event is.sound is.held;
      refers = step_refers world event is.sound is.refers;
    }

pub steps_reached : (world : World) (events : List Event) → All IsEvent events → IsReached world → IsReached (after_all world events)
steps_reached world [] fit is = is
steps_reached world (event ∷ events) fit is =
    steps_reached (step world event).after events (All-tail IsEvent event events fit) (step_reached world event (All-head IsEvent event events fit) is)

pub first_reached : (script : Script) → IsScript script → IsReached (first_world script.servers script.clients)
first_reached script fit =
    let count : length (first_world script.servers script.clients).clients ≡ script.clients = length-made (λ n. new_client (first_view script.servers) (record { 0 = n })) script.clients in
    record {
      past = [];
      sound = worlds_sound.first script.servers script.clients fit.size.servers_fit.low (omega (arith, fit.size.servers_fit.high));
      facts = first_facts script.servers script.clients;
      few = omega (arith, fit.size.clients_fit.high);
      none_else = λ caller beyond. refl;
      held = first_held script.servers script.clients;
      refers = All-nil (RefersBack 1);
    }

-- a world of a round, by the view that its manager keeps: no server joins, and each member runs
pub record InCalm (view : View) (world : World) : Type 0 where
  pub reached : IsReached world
  pub current : world.manager.current ≡ view
  pub alone : view.joiner ≡ None
  pub runs : (id : ServerId) → in_chain view id ≡ true → is_stopped world id ≡ false

-- a step of a round
pub record IsRoundStep (event : Event) : Type 0 where
  pub kind : IsOfRound event
  pub fit : IsEvent event

pub calm_alone : (view : View) (world : World) → InCalm view world → world.manager.current.joiner ≡ None
calm_alone view world calm = ap (λ (v : View). v.joiner) calm.current ∙ calm.alone

pub calm_does : (view : View) (world : World) (event : Event) → InCalm view world → IsRoundStep event → Does world event (step world event).after
calm_does view world event calm is = does world event is.kind calm.reached.sound (calm_alone view world calm)

pub calm_step : (view : View) (world : World) (event : Event) → IsRoundStep event → InCalm view world → InCalm view (step world event).after
calm_step view world event is calm =
    let after = (step world event).after in
    let same : after.stopped ≡ world.stopped = (step_shape world event is.kind).stopped in
    record {
      reached = step_reached world event is.fit calm.reached;
      current = ap (λ m. m.current) (does_manager world event after (calm_does view world event calm is)) ∙ calm.current;
      alone = calm.alone;
      runs = λ id member. ap (λ marks. is_marked marks id.0) same ∙ calm.runs id member;
    }

pub calm_steps : (view : View) (world : World) (events : List Event) → All IsRoundStep events → InCalm view world → InCalm view (after_all world events)
calm_steps view world [] are calm = calm
calm_steps view world (event ∷ events) are calm =
    calm_steps view (step world event).after events (All-tail IsRoundStep event events are) (calm_step view world event (All-head IsRoundStep event events are) calm)

both : (events : List Event) → All IsOfRound events → All IsEvent events → All IsRoundStep events
both [] kind fit = All-nil IsRoundStep
both (event ∷ events) kind fit =
    All-cons IsRoundStep event events (record { kind = All-head IsOfRound event events kind; fit = All-head IsEvent event events fit }) (both events (All-tail IsOfRound event events kind) (All-tail IsEvent event events fit))

-- the parts of a round
pub calls_are : (world : World) → IsReached world → All IsRoundStep (round_calls world)
calls_are world is = both (round_calls world) (calls_of_round world) (calls_fit world is.sound is.few)

pub deliveries_are : (world : World) → IsReached world → All IsRoundStep (delivery_events world)
deliveries_are world is = both (delivery_events world) (deliveries_of_round world) (deliveries_fit world is.sound)

pub works_are : (world : World) → IsReached world → All IsRoundStep (work_events world)
works_are world is = both (work_events world) (works_of_round world) (works_fit world is.sound)

pub round_are : (world : World) → IsReached world → All IsRoundStep (round_events world)
round_are world is =
    let calls = round_calls world in
    let now = after_all world calls in
    let deliver = delivery_events now in
    let work = work_events world in
    let fit : All IsEvent calls = calls_fit world is.sound is.few in
    All-append IsRoundStep calls (deliver ++ work) (calls_are world is) (All-append IsRoundStep deliver work (deliveries_are now (steps_reached world calls fit is)) (works_are world is))
