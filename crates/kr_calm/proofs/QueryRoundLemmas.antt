-- A part of a query that is open is answered within two rounds.
use Rattle.kr_order.specs.declared.message.Node.TheVariants.{Manager as ToManager, Client as ToClient, Server as ToServer}
use Rattle.kr_order.specs.declared.answer.Query.{Query}
use Rattle.kr_order.specs.Answer.{answers_after}
use Rattle.kr_protocol.specs.Server.{Server, server_takes, server_works, server_ticks, acknowledged, told_by, is_at_tail, is_for_tail, work_packet, worked_in, answer_packet, refer_packet}
use Rattle.kr_protocol.specs.Client.{Client, client_takes, after_answers, answered, unheard, may_answer_all, remaining, retries, tried_again, asked_again, is_busy, last, server_or_none, learns, head}
use Rattle.kr_order.specs.View.{last_member}
use Rattle.kr_calm.proofs.ClearLemmas.{IsCleared, IsStill, WaitsNone, calls_still, has_unmoved, none_steps, set_has, settled_all, still_spares}
use Rattle.std.proofs.Common.{Bool, List, [], ap, arith, cond, drop, eqb, false, get_or, inl, inr, length, map, not, refl, set, subst, suc, sym, take, true, zero, ℕ, ◌&&◌, ◌++◌, ◌+◌, ◌-◌, ◌<◌, ◌||◌, ◌∙◌, ◌∷◌, ◌≡◌, ◌≢◌, ◌≤◌, ◌⊎◌}
use Rattle.std.specs.Prelude.{All, None, Option, Some, filter, is_some, slice_get, sum_by}
use Rattle.std.proofs.lemmas.Bool.{cases_eq, cases_lt, eq-eqb, false≢true}
use Rattle.std.proofs.lemmas.List.{drop_all, length-append, length-take, take_all}
use Rattle.std.proofs.lemmas.List.Elements.{All-head, All-tail, filter-append}
use Rattle.std.proofs.lemmas.List.Sums.{sum_by-append, sum_by-cons}
use Rattle.std.proofs.lemmas.Option.{none-some, same_Some, slice_get-get_or, slice_get_within}
use Rattle.kr_order.specs.Numbers.{numbers_to}
use Rattle.kr_order.specs.declared.answer.Teller.{Teller}
use Rattle.kr_order.specs.declared.answer.Told.{Told}
use Rattle.kr_order.specs.declared.ids.ClientId.{ClientId}
use Rattle.kr_order.specs.declared.ids.EventId.{EventId}
use Rattle.kr_order.specs.declared.ids.ServerId.{ServerId}
use Rattle.kr_order.specs.declared.message.Message.TheVariants.{Ack, Answered, Ask}
use Rattle.kr_order.specs.declared.message.Packet.{Packet}
use Rattle.kr_order.specs.declared.view.View.{View}
use Rattle.script_lang.specs.declared.script.Event.{Event}
use Rattle.script_lang.specs.declared.script.Event.TheVariants.{Deliver, Retry, Work}
use Rattle.kr_world.proofs.steps.GrowLemmas.{step_grows}
use Rattle.kr_world.proofs.steps.ListFacts.{set_here, set_other, take_with}
use Rattle.kr_world.proofs.queries.QueryLemmas.{asked_is_open}
use Rattle.kr_world.proofs.rounds.RoundLemmas.{after_all-append}
use Rattle.kr_world.proofs.steps.StepLemmas.{at_index}
use Rattle.kr_world.specs.Facts.{AreAnswers, IsTruePacket}
use Rattle.kr_world.specs.Round.{AreSettled, after_all, aim, delivery_events, is_under_way, may_take, round_calls, round_events, work_events}
use Rattle.kr_world.specs.Step.{deliver_refusal, refusal_of, server_reacts, step}
use Rattle.kr_order.specs.Marks.{is_marked}
use Rattle.kr_world.specs.World.{World, client_at, has_stopped, longest, packet_at, server_at, with_packets}
use Rattle.kr_world.specs.declared.refusal.Refusal.TheVariants.{BagFull}
use Rattle.kr_calm.proofs.AskLemmas.{asked_since, asked_steps, asks_in, asks_more, calls_tries, is_ask, one_if}
use Rattle.kr_calm.proofs.ChainRoundLemmas.{work_in}
use Rattle.kr_calm.proofs.DoesLemmas.{Does, does_hear, does_learn, does_mark, does_nothing, does_retry, does_take, does_tell, does_tick, does_work}
use Rattle.kr_calm.proofs.EnteredLemmas.{client_is, client_true, retry_in}
use Rattle.kr_calm.proofs.GoLemmas.{ClientGoes, Has, HasClient, QueryGoes, hears_goes, query_ends, query_stays, query_turns}
use Rattle.kr_calm.proofs.InLemmas.{IsIn, filtered, in_filter, in_left, in_map, in_numbers, in_right}
use Rattle.kr_calm.proofs.KnownLemmas.{InKnown, known_lasts}
use Rattle.kr_calm.proofs.MemberLemmas.{IsAt, at_runs, member_is, member_so, member_there, raised, tail_so}
use Rattle.kr_calm.proofs.ReachedLemmas.{InCalm, IsReached, IsRoundStep, calls_are, calm_does, deliveries_are, works_are}
use Rattle.kr_calm.proofs.RoomLemmas.{next, room-append}
use Rattle.kr_calm.proofs.StayLemmas.{client_stable, round_lasts}
use Rattle.kr_calm.proofs.TakeLemmas.{deliver_none, has_heard, has_taken, reacts_send, retries_now, works_now}
use Rattle.kr_calm.proofs.WaitLemmas.{WaitsAfter, tail_waits, takes_waits, waits_one, waits_same}
use Rattle.kr_calm.proofs.WayLemmas.{Comes, IsBrought, IsComing, IsUnderWay, Lasts, Stable, comes_stable, does_leave, happens, happens_mild, lasts_all, round_arrives, sent_under_way, stays_all, still_under_way}
use Rattle.kr_calm.specs.Calm.{HaveRoom}
use Rattle.kr_order.specs.declared.answer.Teller.TheVariants as teller
use Rattle.kr_calm.proofs.GivenLemmas.{IsSure, and_both, told_may, none_unsure, tail_sure}

-- which of the packets asks
abbrev asks_found : Option Packet → Bool
asks_found None = false
asks_found (Some packet) = is_ask packet

abbrev ask_at : List Packet → ℕ → Bool
ask_at bag k = asks_found (slice_get bag (k - 1))

abbrev count_asks : List Packet → List ℕ → ℕ
count_asks bag ks = sum_by (λ k. one_if (ask_at bag k)) ks

-- of those behind the first n no more are asked for than ask
asked_behind : (bag : List Packet) (t : ℕ → Bool) (n : ℕ) → ((k : ℕ) → 1 ≤ k → k ≤ n → t k ≡ false) → (m : ℕ) → m ≤ length bag → count_asks bag (filter t (numbers_to m)) ≤ asks_in (drop n (take m bag))
asked_behind bag t n none zero le = omega arith
asked_behind bag t n none (suc m) le = by_place (cases_lt m n) (asked_behind bag t n none m (omega arith))
  where
    some : Packet
    some = record { from = ToManager; to = ToManager; message = Ack 0 0 }

    x : Packet
    x = get_or bag m some

    at_m : slice_get bag m ≡ Some x
    at_m = slice_get-get_or bag m some (omega arith)

    longer : take (suc m) bag ≡ take m bag ++ x ∷ []
    longer = let same : suc m ≡ m + 1 = omega arith in ap (λ k. take k bag) same ∙ take_with bag m x at_m

    parts : count_asks bag (filter t (numbers_to (suc m))) ≡ count_asks bag (filter t (numbers_to m)) + count_asks bag (cond (t (m + 1)) ((m + 1) ∷ []) [])
    parts = ap (count_asks bag) (filter-append t (numbers_to m) ((m + 1) ∷ [])) ∙ sum_by-append (λ k. one_if (ask_at bag k)) (filter t (numbers_to m)) (cond (t (m + 1)) ((m + 1) ∷ []) [])

    one : (test : Bool) → count_asks bag (cond test ((m + 1) ∷ []) []) ≤ one_if (is_ask x)
    one true =
        let same : m + 1 - 1 ≡ m = omega arith in
        let its : ask_at bag (m + 1) ≡ is_ask x = ap (λ i. asks_found (slice_get bag i)) same ∙ ap asks_found at_m in
        omega (arith, sum_by-cons (λ k. one_if (ask_at bag k)) (m + 1) [], ap one_if its)
    one false = omega arith

    by_place : (m < n) ⊎ (n ≤ m) → count_asks bag (filter t (numbers_to m)) ≤ asks_in (drop n (take m bag)) → count_asks bag (filter t (numbers_to (suc m))) ≤ asks_in (drop n (take (suc m) bag))
    by_place (inl lt) known =
        let fails : count_asks bag (cond (t (m + 1)) ((m + 1) ∷ []) []) ≡ 0 = ap (λ b. count_asks bag (cond b ((m + 1) ∷ []) [])) (none (m + 1) (omega arith) (omega arith)) in
        let empty : asks_in (drop n (take m bag)) ≡ 0 = ap asks_in (drop_all n (take m bag) (omega (arith, length-take m bag))) in
        omega (arith, parts, fails, empty)
    by_place (inr le') known =
        let more : asks_in (drop n (take (suc m) bag)) ≡ asks_in (drop n (take m bag)) + asks_in (x ∷ []) = ap (λ l. asks_in (drop n l)) longer ∙ asks_more n (take m bag) (x ∷ []) (omega (arith, length-take m bag)) in
        let last : asks_in (x ∷ []) ≡ one_if (is_ask x) = omega (arith, sum_by-cons (λ p. one_if (is_ask p)) x []) in
        omega (arith, parts, one (t (m + 1)), more, last)

module _ (view : View) (i : ℕ) (tail : ServerId) (at : IsAt view i tail) (ends : length view.chain ≡ i + 1) where
  -- no more wait at the tail than this, with what is to come
  abbrev WaitsFew : ℕ → World → Type 0
  WaitsFew r world = Has world tail (λ server. length server.waiting + r ≤ 32)

  few_took : (old : Server) (packet : Packet) (e r : ℕ) → one_if (is_ask packet) ≤ e → WaitsAfter old (server_takes old packet).after packet.message → length old.waiting + (e + r) ≤ 32 → length (server_takes old packet).after.waiting + r ≤ 32
  few_took old packet e r le (waits_same same) few = omega (arith, ap length same)
  few_took old packet e r le (waits_one query more asks) few = omega (arith, ap length more, length-append old.waiting (query ∷ []), ap one_if asks)

  few_does : (world : World) (event : Event) (after : World) (e r : ℕ) → ((k : ℕ) (packet : Packet) → event ≡ Deliver k → packet_at world k ≡ Some packet → one_if (is_ask packet) ≤ e) → Does world event after → WaitsFew (e + r) world → WaitsFew r after
  few_does world event after e r le (does_nothing ev) has = let few = has.holds in record { server = has.server; at = has.at; holds = omega arith }
  few_does world event after e r le (does_learn who client found) has = let few = has.holds in record { server = has.server; at = has.at; holds = omega arith }
  few_does world event after e r le does_tell has = let few = has.holds in record { server = has.server; at = has.at; holds = omega arith }
  few_does world event after e r le (does_tick who old seat) has =
      let few = has.holds in
      set_has tail (λ server. length server.waiting + r ≤ 32) world after (who.0 - 1) old (server_ticks old).after refl seat.at (λ is. is) (record { server = has.server; at = has.at; holds = omega arith })
  few_does world event after e r le (does_retry who to client found) has = let few = has.holds in record { server = has.server; at = has.at; holds = omega arith }
  few_does world event after e r le (does_work who workers old seat) has =
      let few = has.holds in
      set_has tail (λ server. length server.waiting + r ≤ 32) world after (who.0 - 1) old (server_works old).after refl seat.at (λ is. omega arith) (record { server = has.server; at = has.at; holds = omega arith })
  few_does world event after e r le (does_mark k) has = let few = has.holds in record { server = has.server; at = has.at; holds = omega arith }
  few_does world event after e r le (does_hear k packet who client there to found) has = let few = has.holds in record { server = has.server; at = has.at; holds = omega arith }
  few_does world event after e r le (does_take k packet who old there to seat) has = elim (cases_eq (tail.0 - 1) (who.0 - 1)) [
    | inl same ↦
        let its : has.server ≡ old = same_Some has.server old (sym has.at ∙ ap (slice_get world.servers) same ∙ seat.at) in
        let new = (server_takes old packet).after in
        let here : slice_get (set world.servers (who.0 - 1) new) (tail.0 - 1) ≡ Some new = ap (slice_get (set world.servers (who.0 - 1) new)) same ∙ set_here world.servers (who.0 - 1) new (slice_get_within world.servers (who.0 - 1) old seat.at) in
        let few : length old.waiting + (e + r) ≤ 32 = subst (λ (s : Server). length s.waiting + (e + r) ≤ 32) its has.holds in
        record { server = new; at = here; holds = few_took old packet e r (le k packet refl there) (takes_waits old packet) few }
    | inr other ↦
        let few = has.holds in
        record { server = has.server; at = set_other world.servers (who.0 - 1) (server_takes old packet).after (tail.0 - 1) has.server other has.at; holds = omega arith }
  ]

  module _ (id : ClientId) (low : 1 ≤ id.0) (q p : ℕ) where
    -- the client is past this part of its query: none is open, or the second is, after the first
    abbrev pub IsPast : Client → Type 0
    IsPast client = (client.asking ≡ None) ⊎ ((p ≡ 1) × (client.part ≡ 2))

    -- it is at it or past it
    abbrev pub IsSoFar : Client → Type 0
    IsSoFar client = (client.q ≡ q) × ((client.part ≡ p) ⊎ IsPast client)

    abbrev pub Past : World → Type 0
    Past world = HasClient world id (λ client. (client.q ≡ q) × IsPast client)

    abbrev pub SoFar : World → Type 0
    SoFar world = HasClient world id IsSoFar

    past_goes : (old new : Client) → ClientGoes old new → (old.q ≡ q) × IsPast old → (new.q ≡ q) × IsPast new
    past_goes old new goes both = (goes.q ∙ both.0, by_query goes.query both.1)
      where
        by_query : QueryGoes old new → IsPast old → IsPast new
        by_query (query_stays part asking) (inl none) = inl (asking ∙ none)
        by_query (query_stays part asking) (inr second) = inr (second.0, part ∙ second.1)
        by_query (query_ends none) any = inl none
        by_query (query_turns pairs asking one two) (inl none) = absurd (none-some pairs (sym none ∙ asking))
        by_query (query_turns pairs asking one two) (inr second) = inr (second.0, two)

    far_goes : (old new : Client) → ClientGoes old new → IsSoFar old → IsSoFar new
    far_goes old new goes both = (goes.q ∙ both.0, by_case both.1)
      where
        by_query : QueryGoes old new → old.part ≡ p → (new.part ≡ p) ⊎ IsPast new
        by_query (query_stays part asking) here = inl (part ∙ here)
        by_query (query_ends none) here = inr (inl none)
        by_query (query_turns pairs asking one two) here = inr (inr (sym here ∙ one, two))

        by_case : (old.part ≡ p) ⊎ IsPast old → (new.part ≡ p) ⊎ IsPast new
        by_case (inl here) = by_query goes.query here
        by_case (inr past) = inr (past_goes old new goes (both.0, past)).1

    pub past_stable : (I : World → Type 0) (lasts : Lasts view I) → Stable view I lasts Past
    past_stable I lasts = client_stable view I lasts id (λ client. (client.q ≡ q) × IsPast client) past_goes

    far_stable : (I : World → Type 0) (lasts : Lasts view I) → Stable view I lasts SoFar
    far_stable I lasts = client_stable view I lasts id IsSoFar far_goes

    -- its answers
    pub record Answering (packet : Packet) (world : World) : Type 0 where
      pub from : ServerId
      pub told : Told
      pub is : packet ≡ record { from = ToServer from; to = ToClient id; message = Answered q p told }
      pub sure : All IsSure told.answers
      pub far : SoFar world

    answers_take : (world : World) (inv : InKnown view world) (k : ℕ) (packet : Packet) (good : Answering packet world) → packet_at world k ≡ Some packet → (client_takes good.far.client packet).after.q ≡ q → IsPast (client_takes good.far.client packet).after
    answers_take world inv k packet good there same = subst (λ m. IsPast (client_takes client m).after) (sym good.is) (by_asking client.asking refl)
      where
        client : Client
        client = good.far.client

        told : Told
        told = good.told

        reached : IsReached world
        reached = inv.inv.calm.reached

        by : Teller
        by = teller.Server good.from

        said : IsTruePacket reached.past world.history packet
        said = at_index (IsTruePacket reached.past world.history) world.bag (k - 1) packet reached.facts.packets there

        its : AreAnswers reached.past world.history id q p told
        its = subst (IsTruePacket reached.past world.history) good.is said

        by_part : (pairs : List (EventId × EventId)) → client.asking ≡ Some pairs → (test : Bool) → (eqb q client.q && (eqb p client.part && may_answer_all p pairs told.answers)) ≡ test → (client.part ≡ p) ⊎ IsPast client
            → IsPast (cond test (answered client pairs by told) (unheard client)).after
        by_part pairs asked true holds any = inl (ap remaining (none_unsure pairs told.answers good.sure))
        by_part pairs asked false fails (inr past) = past
        by_part pairs asked false fails (inl here) =
            let own = client_is world reached id client low good.far.at in
            let known = client_true world reached id client good.far.at in
            let q_is = good.far.holds.0 in
            let its' : AreAnswers reached.past world.history client.id client.q client.part told = subst (λ c. AreAnswers reached.past world.history c client.q client.part told) (sym own) (subst (λ m. AreAnswers reached.past world.history id m client.part told) (sym q_is) (subst (λ m. AreAnswers reached.past world.history id q m told) (sym here) its)) in
            let same = (asked_is_open reached.past client its'.pairs pairs its'.seen known.queries asked its'.asked).0 in
            let given : told.answers ≡ told_by its'.tail (answers_after (take told.entry world.history) pairs) = its'.answers ∙ ap (λ ps. told_by its'.tail (answers_after (take told.entry world.history) ps)) same in
            let may = told_may p its'.tail (take told.entry world.history) pairs told.answers given good.sure in
            let all : (eqb q client.q && (eqb p client.part && may_answer_all p pairs told.answers)) ≡ true =
            and_both (eqb q client.q) (eqb p client.part && may_answer_all p pairs told.answers) (eq-eqb q client.q (sym q_is)) (and_both (eqb p client.part) (may_answer_all p pairs told.answers) (eq-eqb p client.part (sym here)) may) in
            absurd (false≢true (sym fails ∙ all))

        by_asking : (asking : Option (List (EventId × EventId))) → client.asking ≡ asking → IsPast (after_answers client asking by q p told).after
        by_asking None none = inl none
        by_asking (Some pairs) asked = by_part pairs asked (eqb q client.q && (eqb p client.part && may_answer_all p pairs told.answers)) refl good.far.holds.1

    answers_bring : (world : World) (k : ℕ) (packet : Packet) → InKnown view world → Answering packet world → packet_at world k ≡ Some packet → IsRoundStep (Deliver k) → deliver_refusal world k (Some packet) ≡ None → Past (step world (Deliver k)).after
    answers_bring world k packet inv good there is none =
        let client = good.far.client in
        let q_is : (client_takes client packet).after.q ≡ q = (hears_goes client packet).q ∙ good.far.holds.0 in
        has_heard world k packet id client (λ c. (c.q ≡ q) × IsPast c) there none (ap (λ (m : Packet). m.to) good.is) good.far.at (q_is, answers_take world inv k packet good there q_is)

    pub past_brought : IsBrought view (InKnown view) (known_lasts view) Past Answering
    past_brought = record {
      stable = past_stable (InKnown view) (known_lasts view);
      stays = λ packet world event is inv good. record { from = good.from; told = good.told; is = good.is; sure = good.sure; far = far_stable (InKnown view) (known_lasts view) world event is inv good.far };
      brings = answers_bring;
    }

    -- it is past the part, or answers are on their way that it will take
    abbrev pub Comes_past : World → Type 0
    Comes_past = Comes view (InKnown view) (known_lasts view) Past Answering

    abbrev query_of : List (EventId × EventId) → Query
    query_of pairs = record { client = id; q = q; part = p; pairs = pairs }

    -- or the query waits at the tail
    abbrev IsWaiting : World → Type 0
    IsWaiting world = Has world tail (λ server. (pairs : List (EventId × EventId)) × IsIn (query_of pairs) server.waiting)

    abbrev WaitsOrComes : World → Type 0
    WaitsOrComes world = (IsWaiting world × SoFar world) ⊎ Comes_past world

    -- what waits is answered when the tail works
    work_answers : (world : World) (inv : InKnown view world) (server : Server) → server_at world tail ≡ Some server → (pairs : List (EventId × EventId)) → IsIn (query_of pairs) server.waiting → SoFar (server_reacts world tail (server_works server)).after
        → (k : ℕ) × IsComing Answering (server_reacts world tail (server_works server)).after k
    work_answers world inv server there pairs waits far =
        let calm = inv.inv.calm in
        let viewed = inv.inv.viewed i tail at in
        let adopted : server.view ≡ Some view = subst (λ (s : Server). s.view ≡ Some view) (same_Some viewed.server server (sym viewed.at ∙ there)) viewed.holds in
        let own = member_is view world calm i tail at server there in
        let tails = tail_so view (raised view world calm) calm.alone i tail at server own adopted ends in
        let query = query_of pairs in
        let told : Told = record { entry = server.done; answers = told_by (is_at_tail server) (answers_after (acknowledged server) pairs) } in
        let given : told_by (is_at_tail server) (answers_after (acknowledged server) pairs) ≡ answers_after (acknowledged server) pairs = ap (λ b. told_by b (answers_after (acknowledged server) pairs)) tails in
        let packet : Packet = answer_packet server query in
        let other : is_for_tail server query ≡ false = ap (λ b. eqb p 2 && not b) tails ∙ never (eqb p 2) in
        let works : work_packet server query ≡ packet = ap (worked_in server query) adopted ∙ ap (λ b. cond b (refer_packet server view query) packet) other in
        let sent : IsIn packet (server_works server).sent = subst (λ m. IsIn m (server_works server).sent) works (in_map (work_packet server) query server.waiting waits) in
        let way = reacts_send world tail (server_works server).after (server_works server).sent packet calm.reached.sound refl sent in
        (way.k, record { packet = packet; good = record { from = server.id; told = told; is = refl; sure = subst (All IsSure) (sym given) (tail_sure (acknowledged server) pairs); far = far }; under = way.under })
      where
        never : (b : Bool) → b && false ≡ false
        never true = refl
        never false = refl

    waits_set : (world after : World) (k : ℕ) (old new : Server) → after.servers ≡ set world.servers k new → slice_get world.servers k ≡ Some old → ((query : Query) → IsIn query old.waiting → IsIn query new.waiting) → IsWaiting world → IsWaiting after
    waits_set world after k old new is there grows has =
        set_has tail (λ server. (pairs : List (EventId × EventId)) × IsIn (query_of pairs) server.waiting) world after k old new is there (λ both. (both.0, grows (query_of both.0) both.1)) has

    waits_unmoved : (world after : World) → after.servers ≡ world.servers → IsWaiting world → IsWaiting after
    waits_unmoved world after is has = has_unmoved tail (λ server. (pairs : List (EventId × EventId)) × IsIn (query_of pairs) server.waiting) world after is has

    took : (old : Server) (packet : Packet) (query : Query) → WaitsAfter old (server_takes old packet).after packet.message → IsIn query old.waiting → IsIn query (server_takes old packet).after.waiting
    took old packet query (waits_same same) is = subst (IsIn query) (sym same) is
    took old packet query (waits_one other more asks) is = subst (IsIn query) (sym more) (in_left query old.waiting (other ∷ []) is)

    waits_does : (world : World) (event : Event) (after : World) → InKnown view world → Does world event after → IsWaiting world → SoFar after → (IsWaiting after × SoFar after) ⊎ Comes_past after
    waits_does world event after inv (does_nothing e) has far = inl (has, far)
    waits_does world event after inv (does_learn who client found) has far = inl (waits_unmoved world after refl has, far)
    waits_does world event after inv does_tell has far = inl (waits_unmoved world after refl has, far)
    waits_does world event after inv (does_tick who old seat) has far = inl (waits_set world after (who.0 - 1) old (server_ticks old).after refl seat.at (λ query is. is) has, far)
    waits_does world event after inv (does_retry who to client found) has far = inl (waits_unmoved world after refl has, far)
    waits_does world event after inv (does_mark k) has far = inl (waits_unmoved world after refl has, far)
    waits_does world event after inv (does_hear k packet who client there to found) has far = inl (waits_unmoved world after refl has, far)
    waits_does world event after inv (does_take k packet who old there to seat) has far =
        inl (waits_set world after (who.0 - 1) old (server_takes old packet).after refl seat.at (λ query is. took old packet query (takes_waits old packet) is) has, far)
    waits_does world event after inv (does_work who workers old seat) has far = elim (cases_eq (who.0 - 1) (tail.0 - 1)) [
      | inl same ↦
          let there : server_at world tail ≡ Some old = subst (λ n. slice_get world.servers n ≡ Some old) same seat.at in
          let its : has.server ≡ old = same_Some has.server old (sym has.at ∙ there) in
          let waits = subst (λ (s : Server). (pairs : List (EventId × EventId)) × IsIn (query_of pairs) s.waiting) its has.holds in
          let alike : (server_reacts world who (server_works old)).after ≡ (server_reacts world tail (server_works old)).after = ap (λ n. (let servers = set world.servers n (server_works old).after in with_packets (record world { servers = servers; history = longest world.history servers }) (server_works old).sent)) same in
          inr (inr (subst (λ w. (k : ℕ) × IsComing Answering w k) (sym alike) (work_answers world inv old there waits.0 waits.1 (subst SoFar alike far))))
      | inr other ↦
          let kept : IsWaiting after = record { server = has.server; at = set_other world.servers (who.0 - 1) (server_works old).after (tail.0 - 1) has.server (λ e. other (sym e)) has.at; holds = has.holds } in
          inl (kept, far)
    ]

    waits_stable : Stable view (InKnown view) (known_lasts view) WaitsOrComes
    waits_stable world event is inv (inl both) =
        let calm = inv.inv.calm in
        waits_does world event (step world event).after inv (calm_does view world event calm is) both.0 (far_stable (InKnown view) (known_lasts view) world event is inv both.1)
    waits_stable world event is inv (inr comes) =
        inr (comes_stable view (InKnown view) (known_lasts view) Past Answering past_brought world event is inv comes)

    -- its question
    record Asking (packet : Packet) : Type 0 where
      pairs : List (EventId × EventId)
      is : packet ≡ record { from = ToClient id; to = ToServer tail; message = Ask q p pairs }

    -- the tail takes it, and it waits
    asks_wait : (world : World) (k : ℕ) (packet : Packet) → InKnown view world → Asking packet → SoFar world → packet_at world k ≡ Some packet → IsRoundStep (Deliver k) → deliver_refusal world k (Some packet) ≡ None
        → (r : ℕ) → WaitsFew r world → WaitsOrComes (step world (Deliver k)).after
    asks_wait world k packet inv good far there is none r few =
        let calm = inv.inv.calm in
        let viewed = inv.inv.viewed i tail at in
        let server = few.server in
        let adopted : server.view ≡ Some view = subst (λ (s : Server). s.view ≡ Some view) (same_Some viewed.server server (sym viewed.at ∙ few.at)) viewed.holds in
        let own = member_is view world calm i tail at server few.at in
        let member = member_so view (raised view world calm) calm.alone i tail at server own adopted in
        let tails = tail_so view (raised view world calm) calm.alone i tail at server own adopted ends in
        let within = few.holds in
        let query = query_of good.pairs in
        let waits = tail_waits server view query adopted member tails (omega arith) in
        let now : IsIn query (server_takes server packet).after.waiting = subst (λ m. IsIn query (server_takes server m).after.waiting) (sym good.is) (subst (IsIn query) (sym waits) (in_right query server.waiting (query ∷ []) (inl refl))) in
        inl (
          has_taken world k packet tail server (λ s. (pairs : List (EventId × EventId)) × IsIn (query_of pairs) s.waiting) there none (ap (λ (m : Packet). m.to) good.is) few.at (good.pairs, now),
          far_stable (InKnown view) (known_lasts view) world (Deliver k) is inv far,
        )

    module _ (bag : List Packet) (k0 : ℕ) (asked : Packet) (good : Asking asked) where
      -- through the deliveries until it comes
      walk : (ks : List ℕ) (world : World) → InKnown view world → All IsRoundStep (map Deliver ks) → HaveRoom world (map Deliver ks) → ((k : ℕ) (packet : Packet) → slice_get bag (k - 1) ≡ Some packet → packet_at world k ≡ Some packet)
          → ((k : ℕ) → IsIn k ks → (packet : Packet) × (slice_get bag (k - 1) ≡ Some packet)) → WaitsFew (count_asks bag ks) world → IsIn k0 ks → SoFar world → IsUnderWay world asked k0 → WaitsOrComes (after_all world (map Deliver ks))
      walk [] world inv are room same known few is far under = absurd is
      walk (k ∷ ks) world inv are room same known few is far under = by_place (walk ks after) (cases_eq k k0) is
        where
          after : World
          after = (step world (Deliver k)).after

          one : IsRoundStep (Deliver k)
          one = All-head IsRoundStep (Deliver k) (map Deliver ks) are

          rest_are : All IsRoundStep (map Deliver ks)
          rest_are = All-tail IsRoundStep (Deliver k) (map Deliver ks) are

          inv' : InKnown view (step world (Deliver k)).after
          inv' = (known_lasts view).keeps world (Deliver k) one inv

          by_place : (InKnown view (step world (Deliver k)).after → All IsRoundStep (map Deliver ks) → HaveRoom (step world (Deliver k)).after (map Deliver ks) → ((j : ℕ) (packet : Packet) → slice_get bag (j - 1) ≡ Some packet → packet_at (step world (Deliver k)).after j ≡ Some packet)
              → ((j : ℕ) → IsIn j ks → (packet : Packet) × (slice_get bag (j - 1) ≡ Some packet)) → WaitsFew (count_asks bag ks) (step world (Deliver k)).after → IsIn k0 ks → SoFar (step world (Deliver k)).after → IsUnderWay (step world (Deliver k)).after asked k0 → WaitsOrComes (after_all (step world (Deliver k)).after (map Deliver ks)))
              → (k ≡ k0) ⊎ (k ≢ k0) → (k ≡ k0) ⊎ IsIn k0 ks → WaitsOrComes (after_all (step world (Deliver k)).after (map Deliver ks))
          by_place rest (inl here) any =
              let there : packet_at world k ≡ Some asked = subst (λ n. packet_at world n ≡ Some asked) (sym here) under.there in
              let under' : IsUnderWay world asked k = subst (IsUnderWay world asked) (sym here) under in
              let none = deliver_none world asked k under' room.0 in
              let now = asks_wait world k asked inv good far there one none (count_asks bag (k ∷ ks)) few in
              stays_all view (InKnown view) (known_lasts view) WaitsOrComes waits_stable (step world (Deliver k)).after (map Deliver ks) rest_are inv' now
          by_place rest (inr other) (inl here) = absurd (other here)
          by_place rest (inr other) (inr later) =
              let low = one.fit.low in
              let low' = under.low in
              let does_so = calm_does view world (Deliver k) inv.inv.calm one in
              let sum : count_asks bag (k ∷ ks) ≡ one_if (ask_at bag k) + count_asks bag ks = sum_by-cons (λ j. one_if (ask_at bag j)) k ks in
              let few' : WaitsFew (one_if (ask_at bag k) + count_asks bag ks) world = subst (λ n. WaitsFew n world) sum few in
              rest inv' rest_are room.1
              (λ j packet found. (step_grows world (Deliver k)).packets j packet (same j packet found))
              (λ j found. known j (inr found))
              (few_does world (Deliver k) (step world (Deliver k)).after (one_if (ask_at bag k)) (count_asks bag ks) (λ j packet event there. asks_as j packet event there) does_so few')
              later
              (far_stable (InKnown view) (known_lasts view) world (Deliver k) one inv far)
              (still_under_way world (step world (Deliver k)).after asked k0 (does_leave world (Deliver k) (step world (Deliver k)).after k0 does_so (λ e. other (omega arith))) under)
            where
              asks_as : (j : ℕ) (packet : Packet) → Deliver k ≡ Deliver j → packet_at world j ≡ Some packet → one_if (is_ask packet) ≤ one_if (ask_at bag k)
              asks_as j packet event there =
                  let number : k ≡ j = cc in
                  let its = known k (inl refl) in
                  let one_packet : its.0 ≡ packet = same_Some its.0 packet (sym (same k its.0 its.1) ∙ subst (λ n. packet_at world n ≡ Some packet) (sym number) there) in
                  let alike : ask_at bag k ≡ is_ask packet = ap asks_found its.1 ∙ ap is_ask one_packet in
                  omega (arith, ap one_if alike)

    -- the client is past it, or asks the tail, and that is on its way
    record AsksTail (world : World) : Type 0 where
      k : ℕ
      packet : Packet
      good : Asking packet
      under : IsUnderWay world packet k
      far : SoFar world

    abbrev PastOrAsks : World → Type 0
    PastOrAsks world = Past world ⊎ AsksTail world

    asks_mild : (world : World) (event : Event) → IsRoundStep event → IsStill event → InKnown view world → PastOrAsks world → PastOrAsks (step world event).after
    asks_mild world event is still inv (inl past) = inl (past_stable (InKnown view) (known_lasts view) world event is inv past)
    asks_mild world event is still inv (inr asks) =
        let after = (step world event).after in
        inr (record {
          k = asks.k;
          packet = asks.packet;
          good = asks.good;
          under = still_under_way world after asks.packet asks.k (does_leave world event after asks.k (calm_does view world event inv.inv.calm is) (still_spares event asks.k still)) asks.under;
          far = far_stable (InKnown view) (known_lasts view) world event is inv asks.far;
        })

    -- it has a query open at this part, or is past it
    data IsOpenAt (world : World) : Type 0 where
      open_past : Past world → IsOpenAt world
      open_at : (client : Client) (pairs : List (EventId × EventId)) → client_at world id ≡ Some client → client.q ≡ q → client.part ≡ p → client.asking ≡ Some pairs → client.call ≡ None → IsOpenAt world

    opened_at : (world : World) → InKnown view world → SoFar world → IsOpenAt world
    opened_at world inv far = by_part far.holds.1
      where
        client : Client
        client = far.client

        by_asking : client.part ≡ p → (asking : Option (List (EventId × EventId))) → client.asking ≡ asking → IsOpenAt world
        by_asking here None none = open_past (record { client = client; at = far.at; holds = (far.holds.0, inl none) })
        by_asking here (Some pairs) asked =
            let known = client_true world inv.inv.calm.reached id client far.at in
            open_at client pairs far.at far.holds.0 here asked (known.queries.alone pairs asked)

        by_part : (client.part ≡ p) ⊎ IsPast client → IsOpenAt world
        by_part (inr past) = open_past (record { client = client; at = far.at; holds = (far.holds.0, past) })
        by_part (inl here) = by_asking here client.asking refl

    busy_asking : (client : Client) (pairs : List (EventId × EventId)) → client.asking ≡ Some pairs → is_busy client ≡ true
    busy_asking client pairs asked = ap (λ a. is_some client.call || is_some a) asked ∙ any (is_some client.call)
      where
        any : (b : Bool) → b || true ≡ true
        any true = refl
        any false = refl

    asked_sends : (world : World) → InKnown view world → IsRoundStep (Retry id tail) → IsStill (Retry id tail) → refusal_of world (Retry id tail) ≢ Some BagFull → SoFar world → PastOrAsks (step world (Retry id tail)).after
    asked_sends world inv is still room far = by_case (opened_at world inv far)
      where
        by_case : IsOpenAt world → PastOrAsks (step world (Retry id tail)).after
        by_case (open_past past) = inl (past_stable (InKnown view) (known_lasts view) world (Retry id tail) is inv past)
        by_case (open_at client pairs there q_is p_is asked none) =
            let calm = inv.inv.calm in
            let own = client_is world calm.reached id client low there in
            let packet : Packet = record { from = ToClient id; to = ToServer tail; message = Ask q p pairs } in
            let sent : retries client tail ≡ packet ∷ [] =
            ap (tried_again client tail) none ∙ ap (asked_again client tail) asked
            ∙ ap (λ c. record { from = ToClient c; to = ToServer tail; message = Ask client.q client.part pairs } ∷ []) own
            ∙ ap (λ m. record { from = ToClient id; to = ToServer tail; message = Ask m client.part pairs } ∷ []) q_is
            ∙ ap (λ m. record { from = ToClient id; to = ToServer tail; message = Ask q m pairs } ∷ []) p_is in
            let sound = calm.reached.sound in
            let its = member_there view world calm i tail at in
            let after = retries_now world id tail client its.server there its.at (at_runs view world calm i tail at) (busy_asking client pairs asked) room in
            let way = sent_under_way world world (retries client tail) packet refl sound.delivered sound.lost (at_runs view world calm i tail at) (subst (IsIn packet) (sym sent) (inl refl)) in
            let far' = far_stable (InKnown view) (known_lasts view) world (Retry id tail) is inv far in
            inr (record { k = way.k; packet = packet; good = record { pairs = pairs; is = refl }; under = subst (λ w. IsUnderWay w packet way.k) (sym after) way.under; far = far' })

    -- by the deliveries of the round
    calls_ask : (world : World) → HaveRoom world (round_calls world) → InKnown view world → SoFar world → PastOrAsks (after_all world (round_calls world))
    calls_ask world room inv far = by_case (opened_at world inv far)
      where
        calls : List Event
        calls = round_calls world

        calm : InCalm view world
        calm = inv.inv.calm

        by_case : IsOpenAt world → PastOrAsks (after_all world (round_calls world))
        by_case (open_past past) = inl (stays_all view (InKnown view) (known_lasts view) Past (past_stable (InKnown view) (known_lasts view)) world (round_calls world) (calls_are world calm.reached) inv past)
        by_case (open_at client pairs there q_is p_is asked none) =
            let ends_at : last_member view ≡ Some tail = ap (slice_get view.chain) (omega arith) ∙ at in
            let aims : aim (learns client world.manager.current) ≡ tail = ap (λ v. aim (learns client v)) calm.current ∙ ap (λ call. cond (is_some call) (head (learns client view)) (last (learns client view))) none ∙ ap server_or_none ends_at in
            let is = retry_in world id client tail there low aims (busy_asking client pairs asked) (at_runs view world calm i tail at) in
            happens_mild view (InKnown view) (known_lasts view) IsStill SoFar PastOrAsks (far_stable (InKnown view) (known_lasts view)) asks_mild (Retry id tail) asked_sends world (round_calls world) (calls_are world calm.reached) (calls_still world) room is inv far

    -- no more queries are under way than may wait
    walk_deliveries : (world : World) → HaveRoom world (delivery_events world) → InKnown view world → (n : ℕ) → AreSettled world n → asks_in (drop n world.bag) ≤ 32 → WaitsNone view tail world → AsksTail world → WaitsOrComes (after_all world (delivery_events world))
    walk_deliveries world room inv n settled few none asks =
        let ks = filter (is_under_way world) (numbers_to (length world.bag)) in
        let under = asks.under in
        let low' = under.low in
        let within = slice_get_within world.bag (asks.k - 1) asks.packet under.there in
        let way : is_under_way world asks.k ≡ true = by_marks (is_marked world.delivered asks.k) (is_marked world.lost asks.k) (packet_at world asks.k) under.delivered under.lost under.there under.runs in
        let is : IsIn asks.k ks = in_filter (is_under_way world) asks.k (numbers_to (length world.bag)) way (in_numbers asks.k (length world.bag) low' (omega arith)) in
        let all = ap (λ l. asks_in (drop n l)) (take_all (length world.bag) world.bag (omega arith)) in
        let count : count_asks world.bag ks ≤ 32 = omega (arith, asked_behind world.bag (is_under_way world) n settled.none (length world.bag) (omega arith), all) in
        let begin : WaitsFew (count_asks world.bag ks) world = record { server = none.server; at = none.at; holds = omega (arith, count, ap length none.holds) } in
        walk world.bag asks.k asks.packet asks.good ks world inv (deliveries_are world inv.inv.calm.reached) room (λ k packet found. found) known begin is asks.far under
      where
        by_marks : (d l : Bool) (found : Option Packet) → d ≡ false → l ≡ false → found ≡ Some asks.packet → has_stopped world asks.packet.to ≡ false → not d && (not l && may_take world found) ≡ true
        by_marks d l found delivered lost there runs =
            ap (λ b. not b && (not l && may_take world found)) delivered ∙ ap (λ b. not b && may_take world found) lost ∙ ap (may_take world) there ∙ ap not runs

        found_of : (k : ℕ) (found : Option Packet) → packet_at world k ≡ found → is_under_way world k ≡ true → (packet : Packet) × (slice_get world.bag (k - 1) ≡ Some packet)
        found_of k (Some packet) is under = (packet, is)
        found_of k None is under =
            let never : is_under_way world k ≡ false = ap (λ found. not (is_marked world.delivered k) && (not (is_marked world.lost k) && may_take world found)) is ∙ neither (not (is_marked world.delivered k)) (not (is_marked world.lost k)) in
            absurd (false≢true (sym never ∙ under))
          where
            neither : (a b : Bool) → a && (b && false) ≡ false
            neither true true = refl
            neither true false = refl
            neither false b = refl

        known : (k : ℕ) → IsIn k (filter (is_under_way world) (numbers_to (length world.bag))) → (packet : Packet) × (slice_get world.bag (k - 1) ≡ Some packet)
        known k is = found_of k (packet_at world k) refl (filtered (is_under_way world) k (numbers_to (length world.bag)) is)

    -- the tail's work answers it
    works_bring : (world : World) → InKnown view world → IsRoundStep (Work tail 1) → refusal_of world (Work tail 1) ≢ Some BagFull → WaitsOrComes world → Comes_past (step world (Work tail 1)).after
    works_bring world inv is room (inr comes) = comes_stable view (InKnown view) (known_lasts view) Past Answering past_brought world (Work tail 1) is inv comes
    works_bring world inv is room (inl both) =
        let server = both.0.server in
        let now = works_now world tail 1 server both.0.at (at_runs view world inv.inv.calm i tail at) room in
        let far = subst SoFar now (far_stable (InKnown view) (known_lasts view) world (Work tail 1) is inv both.1) in
        inr (subst (λ w. (k : ℕ) × IsComing Answering w k) (sym now) (work_answers world inv server both.0.at both.0.holds.0 both.0.holds.1 far))

    round_query : (world : World) → HaveRoom world (round_events world) → InKnown view world → IsCleared view tail i at world → SoFar world → Comes_past (next world)
    round_query world room inv cleared far =
        let calls = round_calls world in
        let then = after_all world calls in
        let deliver = delivery_events then in
        let work = work_events world in
        let calm = inv.inv.calm in
        let rooms = room-append world calls (deliver ++ work) room in
        let rooms' = room-append then deliver work rooms.1 in
        let are = calls_are world calm.reached in
        let inv' = lasts_all view (InKnown view) (known_lasts view) world calls are inv in
        let n = cleared.n in
        let within = cleared.settled.within in
        let settled = settled_all view world calls n cleared.settled in
        let most = calm.reached.few in
        let few : asked_since n then ≤ 32 = omega (arith, asked_steps view n world calls are calm inv.knows within, cleared.few, calls_tries world) in
        let none = none_steps view tail world calls are (calls_still world) calm cleared.none in
        let asks = calls_ask world rooms.0 inv far in
        let delivered = after_all then deliver in
        let deliver_are = deliveries_are then inv'.inv.calm.reached in
        let inv'' = lasts_all view (InKnown view) (known_lasts view) then deliver deliver_are inv' in
        let came : WaitsOrComes delivered = by_case then rooms'.0 inv' n settled (omega arith) none asks in
        let end : Comes_past (after_all delivered work) = happens view (InKnown view) (known_lasts view) WaitsOrComes Comes_past waits_stable (comes_stable view (InKnown view) (known_lasts view) Past Answering past_brought) (Work tail 1) works_bring delivered work (works_are world calm.reached) rooms'.1 (work_in view world calm i tail at) inv'' came in
        subst Comes_past (sym (after_all-append world calls (deliver ++ work) ∙ after_all-append then deliver work)) end
      where
        by_case : (then : World) → HaveRoom then (delivery_events then) → InKnown view then → (n : ℕ) → AreSettled then n → asks_in (drop n then.bag) ≤ 32 → WaitsNone view tail then → PastOrAsks then → WaitsOrComes (after_all then (delivery_events then))
        by_case then room inv n settled few none (inl past) =
            inr (inl (stays_all view (InKnown view) (known_lasts view) Past (past_stable (InKnown view) (known_lasts view)) then (delivery_events then) (deliveries_are then inv.inv.calm.reached) inv past))
        by_case then room inv n settled few none (inr asks) = walk_deliveries then room inv n settled few none asks

    -- after two rounds the client is past it
    pub rounds_query : (world : World) → HaveRoom world (round_events world) → HaveRoom (next world) (round_events (next world)) → InKnown view world → IsCleared view tail i at world → SoFar world → Past (next (next world))
    rounds_query world room room' inv cleared far =
        let inv' = round_lasts view (InKnown view) (known_lasts view) world inv in
        round_arrives view (InKnown view) (known_lasts view) Past Answering past_brought (next world) room' inv' (round_query world room inv cleared far)
