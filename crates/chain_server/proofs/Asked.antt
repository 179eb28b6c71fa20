-- What a client is told that asks: a server without a view takes no notice.
use Rattle.std.proofs.Common.{◌≡◌, ℕ, Bool, true, false, not, ◌||◌, cond, List, [], ◌∷◌, refl, sym, ap, ◌∙◌}
use Rattle.std.proofs.lemmas.Bool.{false≢true}
use Rattle.std.specs.Prelude.{Option, None, Some}
use Rattle.kr_order.specs.declared.ids.ClientId.{ClientId}
use Rattle.kr_order.specs.declared.ids.EventId.{EventId}
use Rattle.kr_order.specs.declared.answer.Query.{Query}
use Rattle.kr_order.specs.declared.view.View.{View}
use Rattle.kr_order.specs.View.{in_chain}
use Rattle.kr_protocol.specs.Server.{Server, sends, viewed, is_member, is_at_tail, is_for_tail, is_for_tail_alone, refer_packet, waits, asked_in, after_ask}
use Rattle.chain_server.specs.Parts.{tells_view, view_packets}
use Rattle.chain_server.specs.Calls.{query_of}

-- a server that does not take the query tells its view, if it has one
refers_in : (server : Server) (query : Query) (view : Option View) → (not (is_member server) || is_for_tail server query) ≡ true → sends server (view_packets server.id view query.client query.q query.part) ≡ asked_in server query view
refers_in server query None other = refl
refers_in server query (Some view) other = by_test (not (is_member server) || is_for_tail server query) other
  where
    by_test : (test : Bool) → test ≡ true → sends server (view_packets server.id (Some view) query.client query.q query.part) ≡ cond test (sends server (refer_packet server view query ∷ [])) (waits server query)
    by_test true _ = refl
    by_test false is = absurd (false≢true is)

-- the server is no member
pub stranger_refers : (server : Server) (client : ClientId) (q part : ℕ) (pairs : List (EventId × EventId)) → is_member server ≡ false → after_ask server (query_of client q part pairs) ≡ tells_view server client q part
stranger_refers server client q part pairs stranger =
    sym (refers_in server (query_of client q part pairs) server.view (either (is_member server) (is_for_tail server (query_of client q part pairs)) stranger))
  where
    either : (member other : Bool) → member ≡ false → (not member || other) ≡ true
    either false other _ = refl
    either true other is = absurd (false≢true (sym is))

-- only the tail answers
pub other_refers : (server : Server) (client : ClientId) (q part : ℕ) (pairs : List (EventId × EventId)) → is_for_tail_alone (is_at_tail server) part ≡ true → after_ask server (query_of client q part pairs) ≡ tells_view server client q part
other_refers server client q part pairs alone =
    sym (refers_in server (query_of client q part pairs) server.view (either (is_member server) (is_for_tail server (query_of client q part pairs)) alone))
  where
    either : (member other : Bool) → other ≡ true → (not member || other) ≡ true
    either true true _ = refl
    either false true _ = refl
    either member false is = absurd (false≢true is)

-- a member that may answer
waits_in : (server : Server) (query : Query) (view : Option View) → server.view ≡ view → is_member server ≡ true → is_for_tail server query ≡ false → waits server query ≡ asked_in server query view
waits_in server query None is member alone = absurd (false≢true (sym (ap (λ v. viewed false in_chain v server.id) is) ∙ member))
waits_in server query (Some view) is member alone = by_test (is_member server) (is_for_tail server query) member alone
  where
    by_test : (member other : Bool) → member ≡ true → other ≡ false → waits server query ≡ cond (not member || other) (sends server (refer_packet server view query ∷ [])) (waits server query)
    by_test true false _ _ = refl
    by_test true true _ is = absurd (false≢true (sym is))
    by_test false other is _ = absurd (false≢true is)

pub member_waits : (server : Server) (client : ClientId) (q part : ℕ) (pairs : List (EventId × EventId)) → is_member server ≡ true → is_for_tail_alone (is_at_tail server) part ≡ false → after_ask server (query_of client q part pairs) ≡ waits server (query_of client q part pairs)
member_waits server client q part pairs member alone = sym (waits_in server (query_of client q part pairs) server.view refl member alone)
