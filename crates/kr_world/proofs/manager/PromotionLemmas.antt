-- A joiner that has caught up becomes the last member: the world stays sound.
use Rattle.std.proofs.Common.{◌≡◌, ◌⊎◌, ℕ, ◌-◌, ◌<◌, ◌≤◌, Bool, true, false, cond, ◌||◌, eqb, [], ◌∷◌, ◌++◌, length, refl, sym, ap, ◌∙◌, subst, arith, inl, inr}
use Rattle.std.specs.Prelude.{Option, None, Some, slice_get}
use Rattle.std.proofs.lemmas.Bool.{cases_lt, eq-eqb, eqb-true, false≢true, and_parts}
use Rattle.std.proofs.lemmas.List.{length-append}
use Rattle.std.proofs.lemmas.Option.{none-some, same_Some}
use Rattle.kr_order.specs.declared.ids.ServerId.{ServerId}
use Rattle.kr_order.specs.declared.view.View.{View}
use Rattle.kr_order.specs.Prefix.{IsPrefix}
use Rattle.kr_order.specs.View.{in_chain, is_joiner, last_member, names}
use Rattle.kr_order.proofs.PrefixLemmas.{shorter_front}
use Rattle.kr_protocol.specs.Manager.{Manager, are_last_and_joiner, may_promote, promotes, views_of}
use Rattle.kr_protocol.specs.Evolves.{is_promoted, goes_on, IsRising}
use Rattle.kr_protocol.specs.Server.{Server, behind, view_number}
use Rattle.kr_protocol.proofs.ListLemmas.{slice_get_at}
use Rattle.kr_protocol.proofs.NameLemmas.{in_chain-member, member-push, joiner_named, same_server}
use Rattle.kr_protocol.proofs.TimelineLemmas.{IsAt, is_before, is_last, at_of, IsListed, made_by, counting, listed_current, rises, is_no_newer}
use Rattle.kr_protocol.proofs.NeighbourLemmas.{member_is_named, IsLast, last_is}
use Rattle.kr_protocol.proofs.NextLemmas.{joins_between}
use Rattle.kr_world.specs.World.{World, is_stopped}
use Rattle.kr_world.specs.Step.{bag_limit, quiet, manager_tells, joined_at_manager, joins}
use Rattle.kr_world.specs.Sound.{IsSound, HasJoined, OldTailsKnow}
use Rattle.kr_world.proofs.chain.ChainLemmas.{IsChain, chain_of, own_old, descends, was_beside}
use Rattle.kr_world.proofs.chain.SeatLemmas.{sender_is}
use Rattle.kr_world.proofs.manager.NextViewLemmas.{told_sound, more_views, more_packets}

-- who may promote is the last member, and whom the joiner
pub record MayPromote (view : View) (from joiner : ServerId) : Type 0 where
  pub last : last_member view ≡ Some from
  pub joins : view.joiner ≡ Some joiner

pub may_promote_so : (view : View) (from joiner : ServerId) → may_promote view from joiner ≡ true → MayPromote view from joiner
may_promote_so view from joiner is = by_both (last_member view) view.joiner refl refl is
  where
    by_both : (last its : Option ServerId) → last_member view ≡ last → view.joiner ≡ its → are_last_and_joiner last its from joiner ≡ true → MayPromote view from joiner
    by_both None its ends joins is = absurd (false≢true is)
    by_both (Some last) None ends joins is = absurd (false≢true is)
    by_both (Some last) (Some other) ends joins is =
        let tests = and_parts (eqb last.0 from.0) (eqb other.0 joiner.0) is in
        record {
          last = ends ∙ ap (λ d. Some d) (same_server last from (eqb-true last.0 from.0 tests.0));
          joins = joins ∙ ap (λ d. Some d) (same_server other joiner (eqb-true other.0 joiner.0 tests.1));
        }

-- the joiner is a member from now on, and the manager has not told of it
abbrev pub with_member : World → ServerId → World
with_member world joiner = record world { manager = promotes world.manager joiner }

module _ (world : World) (sound : IsSound world) (from joiner : ServerId) (said : HasJoined (views_of world.manager) world.servers from joiner) (may : MayPromote world.manager.current from joiner) where
  abbrev after : Manager
  after = promotes world.manager joiner

  chain_before : IsChain (is_stopped world) world.manager world.servers
  chain_before = chain_of world sound

  newest_before : IsListed world.manager world.manager.current
  newest_before = listed_current (is_stopped world) world.manager sound.evolves

  made_before : ℕ
  made_before = made_by (is_stopped world) world.manager sound.evolves world.manager.current

  rising_before : IsRising world.manager.current made_before
  unfolding made_before
  rising_before = rises (is_stopped world) world.manager sound.evolves world.manager.current newest_before

  joiner_is_named : names world.manager.current joiner ≡ true
  joiner_is_named = joiner_named world.manager.current joiner (ap (λ j. is_joiner j joiner) may.joins ∙ eq-eqb joiner.0 joiner.0 refl)

  self : said.sender.id ≡ from
  self = sender_is world from said.sender sound said.there said.from_low

  ends : IsLast world.manager.current from
  ends = last_is world.manager.current made_before rising_before from may.last

  -- the last member stands beside the joiner by its own view, so the joiner has all that is history
  beside_it : behind said.sender ≡ Some joiner
  beside_it =
      was_beside (is_stopped world) world.manager world.servers chain_before said.sender world.manager.current joiner said.beside (sound.servers (from.0 - 1) said.sender said.there).own_view newest_before
      (own_old (is_stopped world) world.manager world.servers chain_before (from.0 - 1) said.sender said.there) may.joins (may.last ∙ ap (λ d. Some d) (sym self))

  -- the history stands in the joiner's log
  joiner_holds : (other : Server) → slice_get world.servers (joiner.0 - 1) ≡ Some other → IsPrefix world.history other.log
  joiner_holds other there =
      let covers = sound.need_covers joiner from said.sender may.joins may.last said.there beside_it in
      let enough = said.covered other there beside_it in
      let holds = sound.last_holds from said.sender may.last said.there in
      let number = (sound.servers (joiner.0 - 1) other there).id in
      let low = (rising_before.most joiner joiner_is_named).0 in
      let its : other.id ≡ joiner = same_server other.id joiner (omega arith) in
      let less = rising_before.joiner from joiner ends.member may.joins in
      let below = descends (is_stopped world) world.manager world.servers chain_before (from.0 - 1) (joiner.0 - 1) said.sender other said.there there
      (ap (names world.manager.current) self ∙ member_is_named world.manager.current from ends.member) (ap (names world.manager.current) its ∙ joiner_is_named)
      (omega (arith, ap (λ (d : ServerId). d.0) self, ap (λ (d : ServerId). d.0) its)) in
      shorter_front world.history other.log said.sender.log holds below (omega arith)

  last_then : last_member after.current ≡ Some joiner
  last_then =
      let more = length-append world.manager.current.chain (joiner ∷ []) in
      slice_get_at world.manager.current.chain joiner [] (length (world.manager.current.chain ++ joiner ∷ []) - 1) (omega arith)

  old_tails_promoted : OldTailsKnow (with_member world joiner)
  old_tails_promoted k view tail server at alone last there = by_place (at_of (views_of world.manager) after.current k view at)
    where
      Knows : Type 0
      Knows = (last_member after.current ≡ Some tail) ⊎ ((is_stopped world tail ≡ true) ⊎ (view.number < view_number server.view))

      -- the last member so far went by a view with the joiner, newer than any by which it was the tail
      by_number : IsListed world.manager view → tail ≡ from → (view.number < view_number server.view) ⊎ (view_number server.view ≤ view.number) → Knows
      by_number listed_view same (inl newer) = inr (inr newer)
      by_number listed_view same (inr older) =
          let there' : slice_get world.servers (from.0 - 1) ≡ Some server = ap (λ (d : ServerId). slice_get world.servers (d.0 - 1)) (sym same) ∙ there in
          let its : said.sender ≡ server = same_Some said.sender server (sym said.there ∙ there') in
          let no_newer = said.beside.no_newer in
          let le = (is_no_newer (is_stopped world) world.manager sound.evolves view listed_view).1 in
          let joins = joins_between (is_stopped world) world.manager sound.evolves said.beside.heard view world.manager.current joiner said.beside.listed listed_view newest_before
          (omega (arith, ap (λ (s : Server). view_number s.view) its)) le said.beside.joins may.joins in
          absurd (none-some joiner (sym alone ∙ joins))

      by_case : IsListed world.manager view → (last_member world.manager.current ≡ Some tail) ⊎ ((is_stopped world tail ≡ true) ⊎ (view.number < view_number server.view)) → Knows
      by_case listed_view (inl is) = by_number listed_view (same_Some tail from (sym is ∙ may.last)) (cases_lt view.number (view_number server.view))
      by_case listed_view (inr rest) = inr rest

      by_place : IsAt (views_of world.manager) after.current k view → Knows
      by_place (is_last at_end same) = inl (ap last_member same ∙ last)
      by_place (is_before lt there') =
          let number = (counting (is_stopped world) world.manager sound.evolves).numbers k view there' in
          by_case (subst (λ n. slice_get (views_of world.manager) n ≡ Some view) (omega arith) there') (sound.old_tails k view tail server there' alone last there)

  pub with_member_sound : IsSound (with_member world joiner)
  with_member_sound =
      record {
        evolves = goes_on world.manager after.current world.manager.made sound.evolves (is_promoted joiner may.joins);
        made = sound.made;
        few = sound.few;
        served = record { member = sound.served.member; in_it = stays_member; runs = sound.served.runs };
        servers = more_views world (after.current ∷ []) sound;
        last_holds = λ last server is there. joiner_holds server (ap (λ (d : ServerId). slice_get world.servers (d.0 - 1)) (same_Some joiner last (sym last_then ∙ is)) ∙ there);
        old_tails = old_tails_promoted;
        need_covers = λ other last server is ends there stands. absurd (none-some other is);
        packets = more_packets world (after.current ∷ []) sound;
        calls = sound.calls;
        bag = sound.bag;
        stopped = sound.stopped;
        lost = sound.lost;
        delivered = sound.delivered;
      }
    where
      stays_member : in_chain after.current sound.served.member ≡ true
      stays_member =
          in_chain-member after.current sound.served.member ∙ member-push world.manager.current.chain joiner sound.served.member ∙ ap (λ b. b || eqb joiner.0 sound.served.member.0) (sym (in_chain-member world.manager.current sound.served.member) ∙ sound.served.in_it)

-- what the manager is told of a joiner keeps the world sound
pub joined_sound : (world : World) (from joiner : ServerId) → length world.bag < bag_limit → HasJoined (views_of world.manager) world.servers from joiner
    → IsSound world → IsSound (joined_at_manager world from joiner).after
joined_sound world from joiner room said sound = by_test (may_promote world.manager.current from joiner) refl
  where
    by_test : (test : Bool) → may_promote world.manager.current from joiner ≡ test → IsSound (cond test (manager_tells world (promotes world.manager joiner)) (quiet world)).after
    by_test false is = sound
    by_test true is = told_sound (with_member world joiner) room (with_member_sound world sound from joiner said (may_promote_so world.manager.current from joiner is))
