-- From a calm world on, so many rounds leave every call answered.
use Rattle.kr_calm.proofs.RoomLemmas.{next, RoomFor, after_rounds, room_behind, room_fewer, rounds_behind}
use Rattle.kr_calm.proofs.ClearLemmas.{round_clears}
use Rattle.kr_protocol.specs.Server.{Server, acknowledged, prev}
use Rattle.kr_protocol.specs.Client.{Client, is_busy}
use Rattle.std.proofs.Common.{List, ap, arith, false, get_or, inl, inr, length, refl, subst, suc, sym, zero, ℕ, ◌+◌, ◌-◌, ◌||◌, ◌∙◌, ◌≡◌, ◌≤◌, ◌⊎◌}
use Rattle.std.specs.Prelude.{All, None, Some, is_some, slice_get}
use Rattle.std.proofs.lemmas.List.{length-take-le}
use Rattle.std.proofs.lemmas.Option.{same_Some, slice_get-get_or, slice_get_within}
use Rattle.kr_order.proofs.PrefixLemmas.{IsPrefix-length}
use Rattle.kr_order.specs.declared.history.Entry.{Entry}
use Rattle.kr_order.specs.declared.ids.ClientId.{ClientId}
use Rattle.kr_order.specs.declared.ids.ServerId.{ServerId}
use Rattle.kr_order.specs.declared.view.View.{View}
use Rattle.kr_world.proofs.rounds.RoundShapeLemmas.{clients_stay}
use Rattle.kr_world.specs.Round.{round_events}
use Rattle.kr_world.specs.World.{World, client_at, server_at}
use Rattle.kr_calm.proofs.ChainRoundLemmas.{IsFed, fed_stable, many_stable, member_has, round_ack, round_append, round_fed}
use Rattle.kr_calm.proofs.EnteredLemmas.{client_there, second_round}
use Rattle.kr_calm.proofs.GoLemmas.{Has, HasClient}
use Rattle.kr_calm.proofs.HeadLemmas.{InLog, log_lasts}
use Rattle.kr_calm.proofs.KnownLemmas.{InKnown, known_lasts, round_known}
use Rattle.kr_calm.proofs.LiveLemmas.{live_place}
use Rattle.kr_calm.proofs.MemberLemmas.{IsAt, member_is, member_there, prev_there, raised, tail_so}
use Rattle.kr_calm.proofs.QueryRoundLemmas.{Past, SoFar, past_stable, rounds_query}
use Rattle.kr_calm.proofs.ReachedLemmas.{InCalm}
use Rattle.kr_calm.proofs.ReplyLemmas.{idle_stable, rounds_reply}
use Rattle.kr_calm.proofs.ShortLemmas.{all_from, log_short}
use Rattle.kr_calm.proofs.StayLemmas.{client_stable, has_stable, round_lasts, rounds_last, rounds_stay}
use Rattle.kr_calm.proofs.ViewedLemmas.{InView, first_round, view_lasts}
use Rattle.kr_calm.proofs.WayLemmas.{Lasts, Stable, calm_lasts}
use Rattle.kr_calm.specs.Calm.{HaveRoom, IsAnswered, enough}

-- one round more
after_next : (i : ℕ) (world : World) → after_rounds (suc i) world ≡ next (after_rounds i world)
after_next zero world = refl
after_next (suc i) world = after_next i (next world)

room_next : (i : ℕ) (world : World) → RoomFor (suc i) world → HaveRoom (after_rounds i world) (round_events (after_rounds i world))
room_next zero world room = room.0
room_next (suc i) world room = room_next i (next world) room.1

-- what holds after some rounds holds after more
later_stays : (view : View) (I : World → Type 0) (lasts : Lasts view I) (P : World → Type 0) → Stable view I lasts P → (i n : ℕ) → i ≤ n → (world : World) → I world → P (after_rounds i world) → P (after_rounds n world)
later_stays view I lasts P stable i n le world inv holds =
    let same : n ≡ i + (n - i) = omega arith in
    let parts : after_rounds n world ≡ after_rounds (n - i) (after_rounds i world) = ap (λ k. after_rounds k world) same ∙ rounds_behind i (n - i) world in
    subst P (sym parts) (rounds_stay view I lasts P stable (n - i) (after_rounds i world) (rounds_last view I lasts i world inv) holds)

module _ (view : View) (N : ℕ) (size : length view.chain ≡ N + 1) where
  module _ (h m : ℕ) (near : m ≤ h + 16) (world : World) (inv : InView view world)
      (fed : (i : ℕ) (id later : ServerId) (at : IsAt view i id) (at' : IsAt view (suc i) later) → IsFed view i id later at at' h world)
      (first : (id : ServerId) → IsAt view 0 id → Has world id (λ server. m ≤ length server.log)) where
    -- entries come down the chain
    rises : (i : ℕ) (id : ServerId) → IsAt view i id → RoomFor i world → Has (after_rounds i world) id (λ server. m ≤ length server.log)
    rises zero id at room = first id at
    rises (suc i) id at room =
        let before = get_or view.chain i id in
        let within = slice_get_within view.chain (suc i) id at in
        let at_before : IsAt view i before = slice_get-get_or view.chain i id (omega arith) in
        let known = rises i before at_before (room_fewer i (suc i) world (omega arith) room) in
        let now = after_rounds i world in
        let inv' = rounds_last view (InView view) (view_lasts view) i world inv in
        let fed' = rounds_stay view (InView view) (view_lasts view) (IsFed view i before id at_before at h) (fed_stable view i before id at_before at (InView view) (view_lasts view) h) i world inv (fed i before id at_before at) in
        let come = round_append view i before id at_before at m h near now (room_next i world room) inv' fed' known in
        subst (λ w. Has w id (λ server. m ≤ length server.log)) (sym (after_next i world)) come

    -- and what is acknowledged comes up
    falls : (k : ℕ) → k ≤ N → (id : ServerId) → IsAt view (N - k) id → RoomFor (N + k) world → Has (after_rounds (N + k) world) id (λ server. m ≤ server.done)
    falls zero le id at room =
        let none : N - 0 ≡ N = omega arith in
        let none' : N + 0 ≡ N = omega arith in
        let at' : IsAt view N id = subst (λ i. IsAt view i id) none at in
        let many : Has (after_rounds N world) id (λ server. m ≤ length server.log) = rises N id at' (subst (λ i. RoomFor i world) none' room) in
        let now = after_rounds N world in
        let inv' : InView view now = rounds_last view (InView view) (view_lasts view) N world inv in
        let calm = inv'.calm in
        let viewed = inv'.viewed N id at' in
        let server = many.server in
        let adopted : server.view ≡ Some view = subst (λ (s : Server). s.view ≡ Some view) (same_Some viewed.server server (sym viewed.at ∙ many.at)) viewed.holds in
        let own = member_is view now calm N id at' server many.at in
        let tails = tail_so view (raised view now calm) calm.alone N id at' server own adopted size in
        let full = (calm.reached.sound.servers (id.0 - 1) server many.at).full tails in
        let le' = many.holds in
        let done : Has now id (λ s. m ≤ s.done) = record { server = server; at = many.at; holds = omega arith } in
        subst (λ i. Has (after_rounds i world) id (λ s. m ≤ s.done)) (sym none') done
    falls (suc k) le id at room =
        let i = N - suc k in
        let later = get_or view.chain (suc i) id in
        let at_later : IsAt view (suc i) later = slice_get-get_or view.chain (suc i) id (omega (arith, size)) in
        let step : N - k ≡ suc i = omega arith in
        let more : N + suc k ≡ suc (N + k) = omega arith in
        let room' : RoomFor (suc (N + k)) world = subst (λ n. RoomFor n world) more room in
        let known = falls k (omega arith) later (subst (λ n. IsAt view n later) (sym step) at_later) (room_fewer (N + k) (suc (N + k)) world (omega arith) room') in
        let now = after_rounds (N + k) world in
        let inv' : InView view now = rounds_last view (InView view) (view_lasts view) (N + k) world inv in
        let many = later_stays view (InView view) (view_lasts view) (λ w. Has w id (λ server. m ≤ length server.log)) (many_stable view i id later at at_later (InView view) (view_lasts view) id m) i (N + k) (omega arith) world inv
        (rises i id at (room_fewer i (N + suc k) world (omega arith) room)) in
        let come = round_ack view i id later at at_later m now (room_next (N + k) world room') inv' many known in
        let there = subst (λ w. Has w id (λ server. m ≤ server.done)) (sym (after_next (N + k) world)) come in
        subst (λ n. Has (after_rounds n world) id (λ server. m ≤ server.done)) (sym more) there

  -- no member's log is longer than the first one's
  logs_under : (world : World) → InView view world → (m : ℕ) → ((id : ServerId) → IsAt view 0 id → (server : Server) → server_at world id ≡ Some server → length server.log ≤ m)
      → (j : ℕ) (id : ServerId) → IsAt view j id → (server : Server) → server_at world id ≡ Some server → length server.log ≤ m
  logs_under world inv m heads zero id at server there = heads id at server there
  logs_under world inv m heads (suc j) id at server there =
      let before = get_or view.chain j id in
      let within = slice_get_within view.chain (suc j) id at in
      let at_before : IsAt view j before = slice_get-get_or view.chain j id (omega arith) in
      let calm = inv.calm in
      let its = member_there view world calm j before at_before in
      let known = logs_under world inv m heads j before at_before its.server its.at in
      let viewed = inv.viewed (suc j) id at in
      let adopted : server.view ≡ Some view = subst (λ (s : Server). s.view ≡ Some view) (same_Some viewed.server server (sym viewed.at ∙ there)) viewed.holds in
      let own = member_is view world calm (suc j) id at server there in
      let stands : prev server ≡ Some its.server.id = prev_there view (raised view world calm) calm.alone (suc j) id at server own adopted j refl ∙ at_before ∙ ap (λ s. Some s) (sym its.its) in
      let front = (calm.reached.sound.servers (id.0 - 1) server there).below (before.0 - 1) its.server its.at stands in
      omega (arith, known, IsPrefix-length server.log its.server.log front)

  module _ (world : World) (calm : InCalm view world) (k : ℕ) (enough_so : enough (N + 1) ≤ k) (room : RoomFor k world) where
    abbrev first : ServerId
    first = get_or view.chain 0 (record { 0 = 0 })

    abbrev tail : ServerId
    tail = get_or view.chain N (record { 0 = 0 })

    at_first : IsAt view 0 first
    at_first = slice_get-get_or view.chain 0 (record { 0 = 0 }) (omega (arith, size))

    at_tail : IsAt view N tail
    at_tail = slice_get-get_or view.chain N (record { 0 = 0 }) (omega (arith, size))

    room_at : (i : ℕ) → suc i ≤ k → HaveRoom (after_rounds i world) (round_events (after_rounds i world))
    room_at i le = room_next i world (room_fewer (suc i) k world le room)

    room0 : HaveRoom world (round_events world)
    room0 = room_at 0 (omega (arith, enough_so))

    room1 : HaveRoom (next world) (round_events (next world))
    room1 = room_at 1 (omega (arith, enough_so))

    room2 : HaveRoom (next (next world)) (round_events (next (next world)))
    room2 = room_at 2 (omega (arith, enough_so))

    room3 : HaveRoom (next (next (next world))) (round_events (next (next (next world))))
    room3 = room_at 3 (omega (arith, enough_so))

    room4 : HaveRoom (next (next (next (next world)))) (round_events (next (next (next (next world)))))
    room4 = room_at 4 (omega (arith, enough_so))

    inv1 : InView view (next world)
    inv1 = first_round view world room0 calm

    known1 : InKnown view (next world)
    known1 = record { inv = inv1; knows = round_known view world room0 calm }

    inv2 : InView view (next (next world))
    inv2 = round_lasts view (InView view) (view_lasts view) (next world) inv1

    -- the first member's log from the second round on
    abbrev log : List Entry
    log = (inv2.viewed 0 first at_first).server.log

    in_log : InLog view first at_first log (next (next world))
    in_log = record {
      inv = inv2;
      entered = second_round view first at_first (next world) room1 inv1;
      head = record { server = (inv2.viewed 0 first at_first).server; at = (inv2.viewed 0 first at_first).at; holds = refl };
    }

    short : length log ≤ length (next world).history + 16
    short = log_short view first at_first (next world) inv1 (inv2.viewed 0 first at_first).server (inv2.viewed 0 first at_first).at

    fed_so : (i : ℕ) (id later : ServerId) (at : IsAt view i id) (at' : IsAt view (suc i) later) → IsFed view i id later at at' (length (next world).history) (next (next world))
    fed_so i id later at at' = round_fed view i id later at at' (length (next world).history) (next world) room1 inv1 (omega arith)

    heads_many : (id : ServerId) → IsAt view 0 id → Has (next (next world)) id (λ server. length log ≤ length server.log)
    heads_many id at =
        let same : first ≡ id = same_Some first id (sym at_first ∙ at) in
        subst (λ s. Has (next (next world)) s (λ server. length log ≤ length server.log)) same (record { server = in_log.head.server; at = in_log.head.at; holds = omega (arith, ap length in_log.head.holds) })

    abbrev second : World
    second = next (next world)

    behind : RoomFor (k - 2) (next (next world))
    behind = let same : k ≡ 2 + (k - 2) = omega (arith, enough_so) in room_behind 2 (k - 2) world (subst (λ n. RoomFor n world) same room)

    end_is : after_rounds k world ≡ after_rounds (k - 2) (next (next world))
    end_is = let same : k ≡ 2 + (k - 2) = omega (arith, enough_so) in ap (λ n. after_rounds n world) same ∙ rounds_behind 2 (k - 2) world

    to_end : (I : World → Type 0) (lasts : Lasts view I) (P : World → Type 0) → Stable view I lasts P → (i : ℕ) → i ≤ k - 2 → I (next (next world)) → P (after_rounds i (next (next world))) → P (after_rounds k world)
    to_end I lasts P stable i le inv holds = subst P (sym end_is) (later_stays view I lasts P stable i (k - 2) le (next (next world)) inv holds)

    -- the world in which the first member has applied all
    abbrev applied : World
    applied = after_rounds (N + N) (next (next world))

    in_applied : InLog view first at_first log (after_rounds (N + N) (next (next world)))
    in_applied = rounds_last view (InLog view first at_first log) (log_lasts view first at_first log) (N + N) (next (next world)) in_log

    done_at : (j : ℕ) → j ≤ N → (id : ServerId) → IsAt view (N - j) id → Has (after_rounds (N + j) (next (next world))) id (λ server. length log ≤ server.done)
    done_at j le id at =
        falls (length (next world).history) (length log) short (next (next world)) inv2 fed_so heads_many j le id at (room_fewer (N + j) (k - 2) (next (next world)) (omega (arith, enough_so)) behind)

    first_done : Has (after_rounds (N + N) (next (next world))) first (λ server. length log ≤ server.done)
    first_done = let none : 0 ≡ N - N = omega arith in done_at N (omega arith) first (subst (λ n. IsAt view n first) none at_first)

    room_applied : HaveRoom (after_rounds (N + N) (next (next world))) (round_events (after_rounds (N + N) (next (next world))))
    room_applied = room_next (N + N) (next (next world)) (room_fewer (suc (N + N)) (k - 2) (next (next world)) (omega (arith, enough_so)) behind)

    room_applied' : HaveRoom (next (after_rounds (N + N) (next (next world)))) (round_events (next (after_rounds (N + N) (next (next world)))))
    room_applied' =
        subst (λ w. HaveRoom w (round_events w)) (after_next (N + N) (next (next world)))
        (room_next (suc (N + N)) (next (next world)) (room_fewer (suc (suc (N + N))) (k - 2) (next (next world)) (omega (arith, enough_so)) behind))

    -- as many clients throughout
    clients_rounds : (n : ℕ) (w : World) → length (after_rounds n w).clients ≡ length w.clients
    clients_rounds zero w = refl
    clients_rounds (suc n) w = clients_rounds n (next w) ∙ clients_stay w (round_events w)

    module _ (id : ClientId) (low : 1 ≤ id.0) (client : Client) (there : client_at (after_rounds k world) id ≡ Some client) where
      -- no command is open
      no_command : client.call ≡ None
      no_command =
          let lt = slice_get_within (after_rounds k world).clients (id.0 - 1) client there in
          let was = client_there (next (next world)) id client (omega (arith, clients_rounds k world, clients_rounds 2 world)) in
          let n = was.client.seq in
          let counts : HasClient (after_rounds (N + N) (next (next world))) id (λ c. c.seq ≡ n) =
          rounds_stay view (InLog view first at_first log) (log_lasts view first at_first log) (λ w. HasClient w id (λ c. c.seq ≡ n)) (client_stable view (InLog view first at_first log) (log_lasts view first at_first log) id (λ c. c.seq ≡ n) (λ old new goes is. goes.seq ∙ is)) (N + N) (next (next world)) in_log
          (record { client = was.client; at = was.at; holds = refl }) in
          let idle = rounds_reply view first at_first log id low n (after_rounds (N + N) (next (next world))) room_applied room_applied' in_applied counts first_done in
          let same : after_rounds (suc (suc (N + N))) (next (next world)) ≡ next (next (after_rounds (N + N) (next (next world)))) = after_next (suc (N + N)) (next (next world)) ∙ ap next (after_next (N + N) (next (next world))) in
          let idle' = subst (λ w. HasClient w id (λ c. (c.seq ≡ n) × (c.call ≡ None))) (sym same) idle in
          let at_end = to_end (InCalm view) (calm_lasts view) (λ w. HasClient w id (λ c. (c.seq ≡ n) × (c.call ≡ None))) (idle_stable view first at_first log id low n (InCalm view) (calm_lasts view)) (suc (suc (N + N))) (omega (arith, enough_so)) inv2.calm idle' in
          ap (λ (c : Client). c.call) (same_Some client at_end.client (sym there ∙ at_end.at)) ∙ at_end.holds.1

      -- no query is open
      no_query : client.asking ≡ None
      no_query =
          let lt = slice_get_within (after_rounds k world).clients (id.0 - 1) client there in
          let was = client_there (next world) id client (omega (arith, clients_rounds k world, clients_rounds 1 world)) in
          let q = was.client.q in
          let p = was.client.part in
          let far1 : SoFar view N tail at_tail size id low q p (next world) = record { client = was.client; at = was.at; holds = (refl, inl refl) } in
          let cleared1 = round_clears view tail N at_tail world room0 calm in
          let past3 = rounds_query view N tail at_tail size id low q p (next world) room1 room2 known1 cleared1 far1 in
          let known3 : InKnown view (next (next (next world))) = round_lasts view (InKnown view) (known_lasts view) (next (next world)) (round_lasts view (InKnown view) (known_lasts view) (next world) known1) in
          let cleared3 = round_clears view tail N at_tail (next (next world)) room2 inv2.calm in
          let far3 : SoFar view N tail at_tail size id low q 2 (next (next (next world))) = record { client = past3.client; at = past3.at; holds = (past3.holds.0, next_part p past3.client past3.holds.1) } in
          let past5 = rounds_query view N tail at_tail size id low q 2 (next (next (next world))) room3 room4 known3 cleared3 far3 in
          let at_end = later_stays view (InCalm view) (calm_lasts view) (Past view N tail at_tail size id low q 2) (past_stable view N tail at_tail size id low q 2 (InCalm view) (calm_lasts view)) 5 k (omega (arith, enough_so)) world calm past5 in
          ap (λ (c : Client). c.asking) (same_Some client at_end.client (sym there ∙ at_end.at)) ∙ closed at_end.client at_end.holds.1
        where
          next_part : (p : ℕ) (c : Client) → (c.asking ≡ None) ⊎ ((p ≡ 1) × (c.part ≡ 2)) → (c.part ≡ 2) ⊎ ((c.asking ≡ None) ⊎ ((◌≡◌ {A = ℕ} 2 1) × (c.part ≡ 2)))
          next_part p c (inl none) = inr (inl none)
          next_part p c (inr second) = inl second.1

          closed : (c : Client) → (c.asking ≡ None) ⊎ ((◌≡◌ {A = ℕ} 2 1) × (c.part ≡ 2)) → c.asking ≡ None
          closed c (inl none) = none
          closed c (inr second) = absurd (omega (arith, second.0))

      idle_now : is_busy client ≡ false
      idle_now = ap (λ call. is_some call || is_some client.asking) no_command ∙ ap (λ a. is_some a) no_query

    all_idle : All (λ client. is_busy client ≡ false) (after_rounds k world).clients
    all_idle = all_from (λ (client : Client). is_busy client ≡ false) (after_rounds k world).clients (λ i client is.
        let id : ClientId = record { 0 = i + 1 } in
        let same : i ≡ i + 1 - 1 = omega arith in
        idle_now id (omega arith) client (subst (λ n. slice_get (after_rounds k world).clients n ≡ Some client) same is))

    -- and all is applied
    in_end : InLog view first at_first log (after_rounds k world)
    in_end = subst (InLog view first at_first log) (sym end_is) (rounds_last view (InLog view first at_first log) (log_lasts view first at_first log) (k - 2) (next (next world)) in_log)

    head_log : (id : ServerId) → IsAt view 0 id → (server : Server) → server_at (after_rounds k world) id ≡ Some server → length server.log ≤ length log
    head_log id at server there =
        let same : first ≡ id = same_Some first id (sym at_first ∙ at) in
        let has = in_end.head in
        let its : has.server ≡ server = same_Some has.server server (sym has.at ∙ ap (λ s. server_at (after_rounds k world) s) same ∙ there) in
        omega (arith, ap length has.holds, ap (λ (s : Server). length s.log) its)

    member_done : (j : ℕ) (id : ServerId) → IsAt view j id → (server : Server) → server_at (after_rounds k world) id ≡ Some server → server.done ≡ length log
    member_done j id at server there =
        let within = slice_get_within view.chain j id at in
        let i = N - j in
        let place : j ≡ N - i = omega (arith, size) in
        let done = done_at i (omega arith) id (subst (λ n. IsAt view n id) place at) in
        let at_end = to_end (InView view) (view_lasts view) (λ w. Has w id (λ s. length log ≤ s.done)) (has_stable view (InView view) (view_lasts view) id (λ s. length log ≤ s.done) (λ old new goes le. let more = goes.done in omega arith)) (N + i) (omega (arith, enough_so)) inv2 done in
        let its : at_end.server ≡ server = same_Some at_end.server server (sym at_end.at ∙ there) in
        let low = at_end.holds in
        let high = logs_under (after_rounds k world) in_end.inv (length log) head_log j id at server there in
        let own = (in_end.inv.calm.reached.sound.servers (id.0 - 1) server there).done in
        omega (arith, ap (λ (s : Server). s.done) its)

    history_is : length (after_rounds k world).history ≡ length log
    history_is =
        let calm' = in_end.inv.calm in
        let its = member_there view (after_rounds k world) calm' 0 first at_first in
        let server = its.server in
        let done = member_done 0 first at_first server its.at in
        let sound = calm'.reached.sound.servers (first.0 - 1) server its.at in
        let agreed = IsPrefix-length (acknowledged server) (after_rounds k world).history sound.agreed in
        let most = head_log first at_first server its.at in
        let within = sound.done in
        let long = length-take-le server.done server.log within in
        omega (arith, member_has view (after_rounds k world) calm' 0 first at_first server its.at)

    pub rounds_answer : IsAnswered (after_rounds k world)
    rounds_answer = record {
      idle = all_idle;
      done = λ i server at runs.
          let calm' = in_end.inv.calm in
          let place = live_place view (after_rounds k world) calm' i server at runs in
          let number = (calm'.reached.sound.servers i server at).id in
          let same : i ≡ server.id.0 - 1 = omega arith in
          member_done place.0 server.id place.1 server (subst (λ n. slice_get (after_rounds k world).servers n ≡ Some server) same at) ∙ sym history_is;
    }
