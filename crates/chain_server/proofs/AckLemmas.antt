-- What the next server says is news to the server afterwards where it was news before.
use Rattle.std.proofs.Common.{◌≡◌, ℕ, ◌<◌, ◌⊎◌, Bool, true, false, cond, ltb, List, [], length, min, refl, ap, sym, ◌∙◌, subst}
use Rattle.std.specs.Prelude.{Result, Ok, Err, OnErr}
use Rattle.kr_order.specs.declared.ids.NoMemory.{NoMemory as OutOfMemory}
use Rattle.kr_order.specs.declared.ids.ServerId.{ServerId}
use Rattle.kr_protocol.specs.Reaction.{Reaction}
use Rattle.kr_protocol.specs.Server.{Server, follows, sends, ack, advances, feeds, acknowledges, acknowledges_and_feeds}
use Rattle.chain_server.specs.declared.effects.Effects.{Effects}
use Rattle.chain_server.specs.ServerStanding.{ServerStanding}
use Rattle.chain_server.specs.Calls.{Heeds, IsFedMore, has_caught_up}

-- what the next server has does not depend on how many entries are acknowledged
fed_as_before : (server : Server) (upto len : ℕ) → IsFedMore (acknowledges server upto).after len → IsFedMore server len
fed_as_before server upto len = by_test (ltb server.done upto)
  where
    by_test : (test : Bool) → IsFedMore (cond test (follows (advances server upto) (λ after. sends after (ack after))) (sends server [])).after len → IsFedMore server len
    by_test true news = news
    by_test false news = news

pub fed_before : (old middle : ServerStanding) (upto len : ℕ) (effects : Effects) → Heeds old (acknowledges old.server upto) effects middle → IsFedMore middle.server len → IsFedMore old.server len
fed_before old middle upto len effects heeds news =
    fed_as_before old.server upto len (subst (λ (s : ServerStanding). IsFedMore s.server len) heeds.after news)

-- nor whether a joiner has what it has to have
caught_up_as_before : (server : Server) (from : ServerId) (done len : ℕ) → has_caught_up (acknowledges_and_feeds server done len).after from len ≡ has_caught_up server from len
caught_up_as_before server from done len = by_test (ltb server.done (min done (length server.log)))
  where
    feeding : Server → Reaction Server
    feeding after = feeds after (min len (length after.log))

    by_test : (test : Bool) → has_caught_up (follows (cond test (follows (advances server (min done (length server.log))) (λ after. sends after (ack after))) (sends server [])) feeding).after from len ≡ has_caught_up server from len
    by_test true = refl
    by_test false = refl

pub caught_up_before : (old middle : ServerStanding) (from : ServerId) (done len : ℕ) (effects : Effects) → Heeds old (acknowledges_and_feeds old.server done len) effects middle → has_caught_up middle.server from len ≡ true → has_caught_up old.server from len ≡ true
caught_up_before old middle from done len effects heeds has =
    sym (caught_up_as_before old.server from done len) ∙ sym (ap (λ (s : ServerStanding). has_caught_up s.server from len) heeds.after) ∙ has
