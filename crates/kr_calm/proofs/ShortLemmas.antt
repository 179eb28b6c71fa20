-- The first member's log after the second round is longer than the history before it by one entry of each client at the most.
use Rattle.kr_protocol.specs.Server.{Server}
use Rattle.kr_protocol.specs.Client.{new_client}
use Rattle.std.proofs.Common.{List, [], ap, arith, drop, inl, inr, length, refl, subst, suc, sym, take, ℕ, ◌++◌, ◌+◌, ◌-◌, ◌<◌, ◌∙◌, ◌∷◌, ◌≡◌, ◌≤◌, ◌⊎◌}
use Rattle.std.specs.Prelude.{All, Some, slice_get}
use Rattle.std.proofs.lemmas.Bool.{cases_lt}
use Rattle.std.proofs.lemmas.List.{length-append}
use Rattle.std.proofs.lemmas.List.Elements.{All-cons, All-head, All-nil, All-tail}
use Rattle.std.proofs.lemmas.Option.{none-some}
use Rattle.kr_order.proofs.PrefixLemmas.{IsPrefix-refl, IsPrefix-trans}
use Rattle.kr_order.specs.Prefix.{IsPrefix}
use Rattle.kr_order.specs.View.{in_chain}
use Rattle.kr_order.specs.declared.history.Command.{Command}
use Rattle.kr_order.specs.declared.history.Entry.{Entry}
use Rattle.kr_order.specs.declared.ids.ClientId.{ClientId}
use Rattle.kr_order.specs.declared.ids.ServerId.{ServerId}
use Rattle.kr_order.specs.declared.view.View.{View}
use Rattle.script_lang.specs.declared.script.Event.{Event}
use Rattle.kr_world.proofs.chain.ChainLemmas.{member_holds}
use Rattle.kr_world.proofs.packets.EntryLemmas.{IsInOrder, entries_of-append, numbered_at, numbered_count}
use Rattle.kr_world.proofs.steps.ListFacts.{split_at}
use Rattle.kr_world.proofs.rounds.RoundShapeLemmas.{clients_stay}
use Rattle.kr_world.proofs.steps.StepLemmas.{at_index}
use Rattle.kr_world.specs.Facts.{IsLawfulLog}
use Rattle.kr_world.specs.Lawful.{IsNumbered, begun_by, entries_of}
use Rattle.kr_world.specs.Round.{after_all, round_events}
use Rattle.kr_world.specs.Step.{step}
use Rattle.kr_world.specs.World.{World, server_at}
use Rattle.kr_calm.proofs.ChainRoundLemmas.{history_step}
use Rattle.kr_calm.proofs.EnteredLemmas.{HasBegunSo, begun_stable, client_is, client_there, client_true, server_lawful}
use Rattle.kr_calm.proofs.FewLemmas.{few_entries}
use Rattle.kr_calm.proofs.MemberLemmas.{IsAt, at_member, member_is, raised}
use Rattle.kr_calm.proofs.ReachedLemmas.{InCalm, IsReached, IsRoundStep, calm_step, round_are}
use Rattle.kr_calm.proofs.RoomLemmas.{next}
use Rattle.kr_calm.proofs.StayLemmas.{round_lasts, round_stays}
use Rattle.kr_calm.proofs.ViewedLemmas.{InView, view_lasts}

pub all_from : {X : Type 0} (P : X → Type 0) (xs : List X) → ((i : ℕ) (x : X) → slice_get xs i ≡ Some x → P x) → All P xs
all_from P [] each = All-nil P
all_from P (x ∷ xs) each = All-cons P x xs (each 0 x refl) (all_from P xs (λ i y is. each (suc i) y is))

right_of : {X : Type 0} (P : X → Type 0) (xs ys : List X) → All P (xs ++ ys) → All P ys
right_of P [] ys all = all
right_of P (x ∷ xs) ys all = right_of P xs ys (All-tail P x (xs ++ ys) all)

-- the clients of a log are clients
callers_within : (world : World) (reached : IsReached world) (i : ℕ) (server : Server) → slice_get world.servers i ≡ Some server → All (λ entry. (1 ≤ entry.client.0) × (entry.client.0 ≤ length world.clients)) server.log
callers_within world reached i server at =
    all_from (λ (entry : Entry). (1 ≤ entry.client.0) × (entry.client.0 ≤ length world.clients)) server.log (λ j entry is. one j entry is)
  where
    lawful : IsLawfulLog reached.past server.log
    lawful = server_lawful world reached i server at

    one : (j : ℕ) (entry : Entry) → slice_get server.log j ≡ Some entry → (1 ≤ entry.client.0) × (entry.client.0 ≤ length world.clients)
    one j entry is = (at_index (λ (e : Entry). 1 ≤ e.client.0) server.log j entry lawful.callers is, by_place (cases_lt (length world.clients) entry.client.0))
      where
        begun : List Command
        begun = begun_by entry.client reached.past

        order : IsInOrder begun (entries_of entry.client (take j server.log)) entry
        order = numbered_at begun entry.client (take j server.log) entry (drop (j + 1) server.log) refl (subst (λ (l : List Entry). IsNumbered begun (entries_of entry.client l)) (split_at server.log j entry is) (lawful.numbered entry.client))

        by_place : (length world.clients < entry.client.0) ⊎ (entry.client.0 ≤ length world.clients) → entry.client.0 ≤ length world.clients
        by_place (inr le) = le
        by_place (inl beyond) =
            absurd (none-some entry.command (ap (λ b. slice_get b (length (entries_of entry.client (take j server.log)))) (sym (reached.none_else entry.client beyond)) ∙ order.command))

-- the history over several steps
pub history_grows : (view : View) (world : World) (events : List Event) → All IsRoundStep events → InCalm view world → IsPrefix world.history (after_all world events).history
history_grows view world [] are calm = IsPrefix-refl world.history
history_grows view world (event ∷ events) are calm =
    let after = (step world event).after in
    let one = All-head IsRoundStep event events are in
    IsPrefix-trans world.history after.history (after_all after events).history (history_step world event one.fit calm.reached) (history_grows view after events (All-tail IsRoundStep event events are) (calm_step view world event one calm))

module _ (view : View) (first : ServerId) (at : IsAt view 0 first) (world : World) (inv : InView view world) where
  now : InView view (next world)
  now = round_lasts view (InView view) (view_lasts view) world inv

  -- each client's entries
  client_few : (server : Server) → server_at (next world) first ≡ Some server → (more : List Entry) → server.log ≡ world.history ++ more → (m : ℕ) → 1 ≤ m → m ≤ length world.clients → length (entries_of (record { 0 = m }) more) ≤ 1
  client_few server there more is m low high =
      let id : ClientId = record { 0 = m } in
      let was = client_there world id (new_client view id) (omega arith) in
      let begun = round_stays view (InView view) (view_lasts view) (HasBegunSo view first at id was.client.seq) (begun_stable view first at id low was.client.seq (InView view) (view_lasts view)) world inv (record { client = was.client; at = was.at; holds = refl }) in
      let before = inv.calm.reached in
      let then = now.calm.reached in
      let own = client_is world before id was.client low was.at in
      let own' = client_is (next world) then id begun.client low begun.at in
      let count : was.client.seq ≡ length (begun_by id before.past) = (client_true world before id was.client was.at).seq ∙ ap (λ c. length (begun_by c before.past)) own in
      let count' : begun.client.seq ≡ length (begun_by id then.past) = (client_true (next world) then id begun.client begun.at).seq ∙ ap (λ c. length (begun_by c then.past)) own' in
      let same = begun.holds in
      let opened = before.facts.in_step.one_open id in
      let within = numbered_count (begun_by id then.past) (entries_of id server.log) ((server_lawful (next world) then (first.0 - 1) server there).numbered id) in
      let parts : entries_of id server.log ≡ entries_of id world.history ++ entries_of id more = ap (entries_of id) is ∙ entries_of-append id world.history more in
      omega (arith, ap length parts, length-append (entries_of id world.history) (entries_of id more))

  pub log_short : (server : Server) → server_at (next world) first ≡ Some server → length server.log ≤ length world.history + 16
  log_short server there =
      let calm = now.calm in
      let own = member_is view (next world) calm 0 first at server there in
      let member = ap (λ v. in_chain v server.id) calm.current ∙ ap (in_chain view) own ∙ at_member view (raised view (next world) calm) 0 first at in
      let holds : IsPrefix (next world).history server.log = member_holds (next world) calm.reached.sound (first.0 - 1) server there member in
      let grown = history_grows view world (round_events world) (round_are world inv.calm.reached) inv.calm in
      let front = IsPrefix-trans world.history (next world).history server.log grown holds in
      let n = length world.clients in
      let same : length (next world).clients ≡ n = clients_stay world (round_events world) in
      let Small : Entry → Type 0 = λ entry. (1 ≤ entry.client.0) × (entry.client.0 ≤ n) in
      let all : All Small server.log = subst (λ k. All (λ (entry : Entry). (1 ≤ entry.client.0) × (entry.client.0 ≤ k)) server.log) same (callers_within (next world) calm.reached (first.0 - 1) server there) in
      let rest : All Small front.more = right_of Small world.history front.more (subst (All Small) front.is all) in
      let few = inv.calm.reached.few in
      let short = few_entries n front.more rest (client_few server there front.more front.is) in
      omega (arith, ap length front.is, length-append world.history front.more)
