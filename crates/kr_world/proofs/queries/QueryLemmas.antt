-- What a client asks, and what it asked before.
use Rattle.std.proofs.Common.{◌≡◌, ◌≢◌, ℕ, ◌<◌, ◌≤◌, List, [], ◌∷◌, ◌++◌, refl, sym, ◌∙◌, subst, arith}
use Rattle.std.specs.Prelude.{Option, None, Some}
use Rattle.std.proofs.lemmas.List.Elements.{All-push, All-weaker, All-contains, Contains-append_left, Contains-push}
use Rattle.std.proofs.lemmas.Option.{none-some, same_Some}
use Rattle.kr_order.specs.declared.ids.ClientId.{ClientId}
use Rattle.kr_order.specs.declared.ids.EventId.{EventId}
use Rattle.kr_protocol.specs.Client.{Client}
use Rattle.kr_world.specs.World.{client_at}
use Rattle.kr_world.specs.Run.{Turn}
use Rattle.kr_world.specs.Facts.{HasAsked, IsNoLater, WasNoLater, AreTrueQueries}

-- how a client's queries go on
pub data Moves (client after : Client) : Type 0 where
  -- what is open stays open
  stays :
      after.q ≡ client.q
      → after.part ≡ client.part
      → after.asking ≡ client.asking
      → after.seen ≡ client.seen
      → Moves client after
  -- none is open then
  ends : after.q ≡ client.q → after.asking ≡ None → Moves client after
  -- a later part of the open one is
  goes_further :
      (remaining : List (EventId × EventId))
      → after.q ≡ client.q
      → client.asking ≡ Some remaining
      → client.part < after.part
      → Moves client after
  -- the next one is begun
  asks_next : client.q < after.q → Moves client after

-- what was no later stays so
moves_on : (before client after : Client) (pairs : List (EventId × EventId)) → Moves client after → IsNoLater before client pairs → IsNoLater before after pairs
moves_on before client after pairs (stays q part asking seen) known =
    let q_before = known.q in
    record {
      q = omega arith;
      part = λ remaining is same. let le = known.part remaining (sym asking ∙ is) (same ∙ q) in omega arith;
      same = λ remaining is same same_part.
          let both = known.same remaining (sym asking ∙ is) (same ∙ q) (same_part ∙ part) in (both.0, both.1 ∙ sym seen);
    }
moves_on before client after pairs (ends q none) known =
    let q_before = known.q in
    record {
      q = omega arith;
      part = λ remaining is same. absurd (none-some remaining (sym none ∙ is));
      same = λ remaining is same same_part. absurd (none-some remaining (sym none ∙ is));
    }
moves_on before client after pairs (goes_further left q asking more) known =
    let q_before = known.q in
    record {
      q = omega arith;
      part = λ remaining is same. let le = known.part left asking (same ∙ q) in omega arith;
      same = λ remaining is same same_part. let le = known.part left asking (same ∙ q) in absurd (omega arith);
    }
moves_on before client after pairs (asks_next more) known =
    let q_before = known.q in
    record {
      q = omega arith;
      part = λ remaining is same. absurd (omega arith);
      same = λ remaining is same same_part. absurd (omega arith);
    }

was_before : (client after : Client) (turn : Turn) → after.id ≡ client.id → Moves client after → WasNoLater client turn → WasNoLater after turn
was_before client after turn id moves known =
    record {
      was = λ before pairs at asking. moves_on before client after pairs moves (known.was before pairs (subst (λ c. client_at turn.outcome.after c ≡ Some before) id at) asking);
    }

-- what a client has open is no later than itself
itself : (client : Client) (pairs : List (EventId × EventId)) → client.asking ≡ Some pairs → IsNoLater client client pairs
itself client pairs asking =
    record {
      q = omega arith;
      part = λ remaining is same. omega arith;
      same = λ remaining is same same_part. (same_Some pairs remaining (sym asking ∙ is), refl);
    }

is_now : (client : Client) (turn : Turn) → client_at turn.outcome.after client.id ≡ Some client → WasNoLater client turn
is_now client turn at =
    record {
      was = λ before pairs there asking.
          let same = same_Some client before (sym at ∙ there) in
          subst (λ c. IsNoLater c client pairs) same (itself client pairs (subst (λ (c : Client). c.asking ≡ Some pairs) (sym same) asking));
    }

-- what a client has open after a step it has asked
asked_now : (past : List Turn) (turn : Turn) (client : Client) (pairs : List (EventId × EventId)) → 1 ≤ client.id.0
    → client_at turn.outcome.after client.id ≡ Some client → client.asking ≡ Some pairs
    → HasAsked (past ++ turn ∷ []) client.id client.q client.part pairs client.seen
asked_now past turn client pairs low at asking =
    record {
      caller_low = low;
      turn = turn;
      among = Contains-push past turn;
      client = client;
      at = at;
      q_is = refl;
      part_is = refl;
      asking = asking;
      seen_is = refl;
    }

-- a client's queries after a step
pub queries_move : (past : List Turn) (turn : Turn) (client after : Client) → after.id ≡ client.id → 1 ≤ after.id.0
    → Moves client after → client_at turn.outcome.after after.id ≡ Some after
    → ((pairs : List (EventId × EventId)) → after.asking ≡ Some pairs → after.call ≡ None)
    → AreTrueQueries past client → AreTrueQueries (past ++ turn ∷ []) after
queries_move past turn client after id low moves at alone known =
    record {
      alone = alone;
      asked = λ pairs asking. asked_now past turn after pairs low at asking;
      last = All-push (WasNoLater after) past turn (All-weaker (WasNoLater client) (WasNoLater after) (λ t was. was_before client after t id moves was) past known.last) (is_now after turn at);
    }

-- what was asked stays so
pub asked_later : (past more : List Turn) (caller : ClientId) (q part : ℕ) (pairs : List (EventId × EventId)) (seen : ℕ)
    → HasAsked past caller q part pairs seen → HasAsked (past ++ more) caller q part pairs seen
asked_later past more caller q part pairs seen known =
    record {
      caller_low = known.caller_low;
      turn = known.turn;
      among = Contains-append_left past more known.turn known.among;
      client = known.client;
      at = known.at;
      q_is = known.q_is;
      part_is = known.part_is;
      asking = known.asking;
      seen_is = known.seen_is;
    }

-- what was asked as the part that is open is what is open
pub asked_is_open : (past : List Turn) (client : Client) (pairs remaining : List (EventId × EventId)) (seen : ℕ)
    → AreTrueQueries past client → client.asking ≡ Some remaining
    → HasAsked past client.id client.q client.part pairs seen
    → (pairs ≡ remaining) × (client.seen ≡ seen)
asked_is_open past client pairs remaining seen known asking asked =
    let was = All-contains (WasNoLater client) past asked.turn known.last asked.among in
    let no_later = was.was asked.client pairs asked.at asked.asking in
    let both = no_later.same remaining asking asked.q_is asked.part_is in
    (both.0, sym both.1 ∙ asked.seen_is)

-- a client with an open command has no query open
pub no_asking : (past : List Turn) (client : Client) → AreTrueQueries past client → client.call ≢ None → client.asking ≡ None
no_asking past client known busy = by_asking client.asking refl
  where
    by_asking : (asking : Option (List (EventId × EventId))) → client.asking ≡ asking → client.asking ≡ None
    by_asking None is = is
    by_asking (Some pairs) is = absurd (busy (known.alone pairs is))
