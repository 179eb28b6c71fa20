-- A client's call keeps the facts.
use Rattle.std.proofs.Common.{◌≡◌, ◌+◌, ◌-◌, ◌≤◌, List, [], ◌∷◌, ◌++◌, length, refl, sym, ap, ◌∙◌, subst, arith, inl, inr}
use Rattle.std.specs.Prelude.{None, Some, slice_get, slice_set}
use Rattle.std.proofs.lemmas.Bool.{cases_eq}
use Rattle.std.proofs.lemmas.List.{length_push}
use Rattle.std.proofs.lemmas.List.Elements.{All-nil, All-cons}
use Rattle.std.proofs.lemmas.Option.{none-some, same_Some}
use Rattle.kr_order.specs.declared.ids.ClientId.{ClientId}
use Rattle.kr_order.specs.declared.history.Command.{Command}
use Rattle.kr_order.proofs.PrefixLemmas.{IsPrefix-refl}
use Rattle.kr_protocol.specs.Client.{Client, begins}
use Rattle.script_lang.specs.declared.script.Event.TheVariants.{Call}
use Rattle.kr_world.specs.World.{World}
use Rattle.kr_world.specs.Step.{client_sends}
use Rattle.kr_world.specs.Run.{Turn}
use Rattle.kr_world.specs.Lawful.{begun_by, entries_of}
use Rattle.kr_world.specs.Facts.{HasBegun, IsTruePacket, IsTrueClient, AreFacts}
use Rattle.kr_protocol.proofs.ListLemmas.{slice_get_at}
use Rattle.kr_world.proofs.packets.PastLemmas.{begun_by-push, begun_same, others_begin, caller_begins}
use Rattle.kr_world.proofs.packets.PacketLemmas.{same_client}
use Rattle.kr_world.proofs.facts.FactLemmas.{one_facts, sent_facts}
use Rattle.kr_world.proofs.queries.QueryLemmas.{stays, queries_move}
use Rattle.kr_world.proofs.facts.KeepLemmas.{turn_of, Keeps, tells_nothing}
use Rattle.kr_world.proofs.clients.ClientLemmas.{IsPresent, its_facts, own_id, other_id, set_own}

-- a client that may begin a command
pub record MayCall (past : List Turn) (world : World) (caller : ClientId) (client : Client) : Type 0 where
  pub low : 1 ≤ caller.0
  pub here : IsPresent past world caller client
  pub no_command : client.call ≡ None
  pub no_query : client.asking ≡ None

-- the turn in which it does
abbrev call_turn : World → ClientId → Command → Client → Turn
call_turn world caller command client = turn_of world (Call caller command) (client_sends world caller (begins client command))

-- it has begun one command more
begun_own : (past : List Turn) (world : World) (caller : ClientId) (command : Command) (client : Client)
    → MayCall past world caller client
    → begun_by client.id (past ++ call_turn world caller command client ∷ []) ≡ begun_by client.id past ++ command ∷ []
begun_own past world caller command client may =
    let turn = call_turn world caller command client in
    let same : caller.0 ≡ client.id.0 = ap (λ (c : ClientId). c.0) (sym (own_id past world caller client may.here may.low)) in
    begun_by-push client.id past turn ∙ ap (λ b. begun_by client.id past ++ b) (caller_begins caller client.id command same)

-- it is the one that is requested
newly_begun : (past : List Turn) (world : World) (caller : ClientId) (command : Command) (client : Client)
    → MayCall past world caller client
    → HasBegun (past ++ call_turn world caller command client ∷ []) client.id (client.seq + 1) command
newly_begun past world caller command client may =
    let known = its_facts past world caller client may.here in
    let id = known.id in
    let seq = known.seq in
    let begun = begun_by client.id past in
    let last : slice_get (begun ++ command ∷ []) (client.seq + 1 - 1) ≡ Some command = slice_get_at begun command [] (client.seq + 1 - 1) (omega arith) in
    record {
      caller_low = omega arith;
      seq_low = omega arith;
      begun = ap (λ b. slice_get b (client.seq + 1 - 1)) (begun_own past world caller command client may) ∙ last;
    }

-- the client with its open call
caller_later : (past : List Turn) (world : World) (caller : ClientId) (command : Command) (client : Client)
    → MayCall past world caller client
    → IsTrueClient (past ++ call_turn world caller command client ∷ []) world.history (caller.0 - 1) (begins client command).after
caller_later past world caller command client may =
    let turn = call_turn world caller command client in
    let later = past ++ turn ∷ [] in
    let known = its_facts past world caller client may.here in
    let seq = known.seq in
    let old = known.old in
    let begun = newly_begun past world caller command client may in
    let after = (begins client command).after in
    let id = known.id in
    let at = set_own past world caller client after may.here refl in
    record {
      id = known.id;
      seq = omega (arith, ap length (begun_own past world caller command client may), length_push (begun_by client.id past) command);
      command = λ other is. subst (HasBegun later client.id (client.seq + 1)) (same_Some command other is) begun;
      idle = λ none. absurd (none-some command (sym none));
      within = known.within;
      old = omega arith;
      queries = queries_move past turn client after refl (omega arith) (stays refl refl refl refl) at (λ pairs is. absurd (none-some pairs (sym may.no_query ∙ is))) known.queries;
      cache = known.cache;
    }

-- of what each client has begun at most the last is not in the history
still_one_open : (past : List Turn) (world : World) (caller : ClientId) (command : Command) (client : Client)
    → MayCall past world caller client → (other : ClientId)
    → length (begun_by other (past ++ call_turn world caller command client ∷ [])) ≤ length (entries_of other world.history) + 1
still_one_open past world caller command client may other =
    let turn = call_turn world caller command client in
    let later = past ++ turn ∷ [] in
    let known = its_facts past world caller client may.here in
    let seq = known.seq in
    elim (cases_eq caller.0 other.0) [
      | inl same ↦
          let its : client.id ≡ other = own_id past world caller client may.here may.low ∙ same_client caller other same in
          let all : length (entries_of client.id world.history) ≡ client.seq = known.idle may.no_command in
          let begun = ap length (begun_own past world caller command client may) in
          let own : length (begun_by client.id later) ≤ length (entries_of client.id world.history) + 1 = omega (arith, length_push (begun_by client.id past) command) in
          subst (λ c. length (begun_by c later) ≤ length (entries_of c world.history) + 1) its own
      | inr different ↦
          let open_before = may.here.facts.in_step.one_open other in
          omega (arith, ap length (begun_same other past turn (others_begin caller other command different)))
    ]

called_facts : (past : List Turn) (world : World) (caller : ClientId) (command : Command) (client : Client)
    → MayCall past world caller client
    → AreFacts (past ++ call_turn world caller command client ∷ []) (record world { clients = slice_set world.clients (caller.0 - 1) (begins client command).after })
called_facts past world caller command client may =
    let turn = call_turn world caller command client in
    let facts = may.here.facts in
    one_facts past turn world (caller.0 - 1) (begins client command).after refl (still_one_open past world caller command client may) (λ j other different there. others_begin caller other.id command (other_id past world caller facts may.low j other different there)) (caller_later past world caller command client may) facts

pub call_keeps : (past : List Turn) (world : World) (caller : ClientId) (command : Command) (client : Client)
    → MayCall past world caller client → Keeps past (call_turn world caller command client)
call_keeps past world caller command client may =
    let later = past ++ call_turn world caller command client ∷ [] in
    let calling = record world { clients = slice_set world.clients (caller.0 - 1) (begins client command).after } in
    let Truly = IsTruePacket later world.history in
    let said = All-cons Truly _ [] (newly_begun past world caller command client may) (All-nil Truly) in
    record {
      facts = sent_facts later calling (begins client command).sent said (called_facts past world caller command client may);
      tells = tells_nothing world (client_sends world caller (begins client command)) refl refl (IsPrefix-refl world.history);
    }
