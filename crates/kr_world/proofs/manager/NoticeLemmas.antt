-- The manager hears that a server has stopped, and makes the view without it: the world stays sound.
use Rattle.std.proofs.Common.{◌≡◌, ◌≢◌, ◌⊎◌, ℕ, ◌-◌, ◌<◌, ◌≤◌, Bool, true, false, cond, not, eqb, List, [], ◌∷◌, length, refl, sym, ap, ◌∙◌, arith, inl, inr}
use Rattle.std.specs.Prelude.{Option, None, Some}
use Rattle.std.proofs.lemmas.Bool.{cases_eq, eq-eqb, false≢true}
use Rattle.std.proofs.lemmas.Option.{none-some, same_Some}
use Rattle.kr_order.specs.declared.ids.ServerId.{ServerId}
use Rattle.kr_order.specs.declared.view.View.{View}
use Rattle.kr_order.specs.View.{in_chain, is_joiner, last_member, names}
use Rattle.kr_protocol.specs.Manager.{Manager, joiner_but, without, removes, views_of}
use Rattle.kr_protocol.specs.Evolves.{Evolves, is_without, goes_on, IsRising}
use Rattle.kr_protocol.specs.Server.{Server, view_number}
use Rattle.kr_protocol.proofs.NameLemmas.{member, in_chain-member, member-but, joiner_named, same_server}
use Rattle.kr_protocol.proofs.TimelineLemmas.{IsAt, is_before, is_last, at_of, IsListed, made_by, listed_current, rises, is_no_newer, named_before}
use Rattle.kr_protocol.proofs.NeighbourLemmas.{member_is_named, IsLast, last_is, has_last, is_the_last, under_joiner}
use Rattle.kr_world.specs.World.{World, server_at, is_stopped}
use Rattle.kr_world.specs.Step.{bag_limit, if_full, notice_refusal, notices}
use Rattle.kr_world.specs.declared.refusal.Refusal.TheVariants.{NotStopped, NotMember}
use Rattle.kr_world.specs.Sound.{IsSound, LastHolds, OldTailsKnow, NeedCovers}
use Rattle.kr_world.proofs.steps.StepLemmas.{passed, has_room}
use Rattle.kr_world.proofs.chain.ChainLemmas.{IsChain, chain_of, beside_now, member_holds}
use Rattle.kr_world.proofs.chain.SeatLemmas.{mark_of}
use Rattle.kr_world.proofs.manager.NextViewLemmas.{among_others, told_sound, more_views, more_packets}

-- a notice that is not refused is of a server that has stopped and that the view names, and there is room in the bag
pub record MayNotice (world : World) (id : ServerId) (server : Server) : Type 0 where
  pub stopped : is_stopped world id ≡ true
  pub named : names world.manager.current server.id ≡ true
  pub room : length world.bag < bag_limit

pub may_notice : (world : World) (id : ServerId) (server : Server) → notice_refusal world id (Some server) ≡ None → MayNotice world id server
may_notice world id server none =
    let rest = cond (not (names world.manager.current server.id)) (Some NotMember) (if_full world) in
    let first = passed NotStopped (not (is_stopped world id)) rest none in
    let second = passed NotMember (not (names world.manager.current server.id)) (if_full world) first.1 in
    record { stopped = not_not (is_stopped world id) first.0; named = not_not (names world.manager.current server.id) second.0; room = has_room world second.1 }
  where
    not_not : (test : Bool) → not test ≡ false → test ≡ true
    not_not true is = refl
    not_not false is = absurd (false≢true (sym is))

-- the manager has heard of a server that has stopped, and has not told of the view without it
abbrev pub removed : World → ServerId → World
removed world gone = record world { manager = removes world.manager gone }

-- who joins then joined before
joined_before : (joiner : Option ServerId) (gone id : ServerId) → joiner_but joiner gone ≡ Some id → joiner ≡ Some id
joined_before None gone id is = absurd (none-some id is)
joined_before (Some joiner) gone id is = by_test (eqb joiner.0 gone.0) is
  where
    by_test : (test : Bool) → cond test None (Some joiner) ≡ Some id → Some joiner ≡ Some id
    by_test true none = absurd (none-some id none)
    by_test false same = same

-- who is a member then was one
was_member : (view : View) (gone id : ServerId) → in_chain (without view gone) id ≡ true → (gone.0 ≢ id.0) × (in_chain view id ≡ true)
was_member view gone id is =
    let both = among_others view.chain gone id (sym (in_chain-member (without view gone) id) ∙ is) in
    (both.0, in_chain-member view id ∙ both.1)

still_member : (view : View) (gone id : ServerId) → gone.0 ≢ id.0 → in_chain view id ≡ true → in_chain (without view gone) id ≡ true
still_member view gone id other is =
    in_chain-member (without view gone) id ∙ member-but view.chain gone id other ∙ sym (in_chain-member view id) ∙ is

some_left : (chain : List ServerId) (id : ServerId) → member chain id ≡ true → 1 ≤ length chain
some_left [] id is = absurd (false≢true is)
some_left (one ∷ more) id is = omega arith

module _ (world : World) (gone : ServerId) (sound : IsSound world) (stops : is_stopped world gone ≡ true) (named : names world.manager.current gone ≡ true) where
  abbrev now : Manager
  now = removes world.manager gone

  other_left : gone.0 ≢ sound.served.member.0
  other_left same = false≢true (sym sound.served.runs ∙ ap (is_stopped world) (sym (same_server gone sound.served.member same)) ∙ stops)

  left_member : in_chain now.current sound.served.member ≡ true
  left_member = still_member world.manager.current gone sound.served.member other_left sound.served.in_it

  evolved : Evolves (is_stopped world) now
  evolved =
      let some = some_left now.current.chain sound.served.member (sym (in_chain-member now.current sound.served.member) ∙ left_member) in
      goes_on world.manager now.current world.manager.made sound.evolves (is_without gone stops named some)

  listed : IsListed now now.current
  listed = listed_current (is_stopped world) now evolved

  abbrev made_then : ℕ
  made_then = made_by (is_stopped world) world.manager sound.evolves world.manager.current

  rising_then : IsRising world.manager.current made_then
  rising_then = rises (is_stopped world) world.manager sound.evolves world.manager.current (listed_current (is_stopped world) world.manager sound.evolves)

  rising_now : IsRising now.current (made_by (is_stopped world) now evolved now.current)
  rising_now = rises (is_stopped world) now evolved now.current listed

  -- who was the last member is so still, but for the one that has gone
  last_stays : (tail : ServerId) → gone.0 ≢ tail.0 → last_member world.manager.current ≡ Some tail → last_member now.current ≡ Some tail
  last_stays tail other is =
      let last = last_is world.manager.current made_then rising_then tail is in
      is_the_last now.current (made_by (is_stopped world) now evolved now.current) rising_now tail (record {
        member = still_member world.manager.current gone tail other last.member;
        greatest = λ id in_it. last.greatest id (was_member world.manager.current gone id in_it).1;
      })

  old_tails_still : OldTailsKnow (removed world gone)
  old_tails_still k view tail server at none last there = by_place (at_of (views_of world.manager) now.current k view at)
    where
      Knows : Type 0
      Knows = (last_member now.current ≡ Some tail) ⊎ ((is_stopped world tail ≡ true) ⊎ (view.number < view_number server.view))

      by_last : (gone.0 ≡ tail.0) ⊎ (gone.0 ≢ tail.0) → last_member world.manager.current ≡ Some tail → Knows
      by_last (inl same) is = inr (inl (ap (is_stopped world) (sym (same_server gone tail same)) ∙ stops))
      by_last (inr other) is = inl (last_stays tail other is)

      by_case : (last_member world.manager.current ≡ Some tail) ⊎ ((is_stopped world tail ≡ true) ⊎ (view.number < view_number server.view)) → Knows
      by_case (inl is) = by_last (cases_eq gone.0 tail.0) is
      by_case (inr rest) = inr rest

      by_place : IsAt (views_of world.manager) now.current k view → Knows
      by_place (is_before lt there') = by_case (sound.old_tails k view tail server there' none last there)
      by_place (is_last at_end same) = inl (ap last_member same ∙ last)

  -- the history stands in the log of each that was a member, so of the last one
  last_holds_still : LastHolds now.current world.servers world.history
  last_holds_still last server is there =
      let its = last_is now.current (made_by (is_stopped world) now evolved now.current) rising_now last is in
      let was = was_member world.manager.current gone last its.member in
      let number = (sound.servers (last.0 - 1) server there).id in
      let low = (rising_then.most last (member_is_named world.manager.current last was.1)).0 in
      member_holds world sound (last.0 - 1) server there (ap (in_chain world.manager.current) (same_server server.id last (omega arith)) ∙ was.1)

  -- who becomes the last member saw no joiner behind it: whoever joins now joined when the one that has gone was behind it
  need_covers_still : NeedCovers (removed world gone)
  need_covers_still joiner last server is ends there stands = by_last (cases_eq before.0.0 last.0)
    where
      chain : IsChain (is_stopped world) world.manager world.servers
      chain = chain_of world sound

      before : (id : ServerId) × (last_member world.manager.current ≡ Some id)
      before = has_last world.manager.current made_then rising_then

      joins : world.manager.current.joiner ≡ Some joiner
      joins = joined_before world.manager.current.joiner gone joiner is

      its : IsLast now.current last
      its = last_is now.current (made_by (is_stopped world) now evolved now.current) rising_now last ends

      was : (gone.0 ≢ last.0) × (in_chain world.manager.current last ≡ true)
      was = was_member world.manager.current gone last its.member

      first : IsLast world.manager.current before.0
      first = last_is world.manager.current made_then rising_then before.0 before.1

      newest : IsListed world.manager world.manager.current
      newest = listed_current (is_stopped world) world.manager sound.evolves

      by_last : (before.0.0 ≡ last.0) ⊎ (before.0.0 ≢ last.0) → length world.history ≤ server.need
      by_last (inl same) = sound.need_covers joiner last server joins (before.1 ∙ ap (λ d. Some d) (same_server before.0 last same)) there stands
      by_last (inr other) = by_gone (cases_eq gone.0 before.0.0)
        where
          by_gone : (gone.0 ≡ before.0.0) ⊎ (gone.0 ≢ before.0.0) → length world.history ≤ server.need
          by_gone (inr differ) = absurd (other (ap (λ (d : ServerId). d.0) (same_Some before.0 last (sym (last_stays before.0 differ before.1) ∙ ends))))
          by_gone (inl same) =
              let number = (sound.servers (last.0 - 1) server there).id in
              let low = (rising_then.most last (member_is_named world.manager.current last was.1)).0 in
              let self = same_server server.id last (omega arith) in
              let beside = beside_now (is_stopped world) world.manager world.servers chain server joiner (sound.servers (last.0 - 1) server there).own_view stands in
              let view = beside.was.heard in
              let listed_view = beside.was.listed in
              let rising = rises (is_stopped world) world.manager sound.evolves view listed_view in
              let le = (is_no_newer (is_stopped world) world.manager sound.evolves view listed_view).1 in
              let member = first.member in
              let gone_in : in_chain world.manager.current gone ≡ true = ap (in_chain world.manager.current) (same_server gone before.0 same) ∙ member in
              let under = rising_then.joiner gone joiner gone_in joins in
              let named_joiner : names view joiner ≡ true = joiner_named view joiner (ap (λ j. is_joiner j joiner) beside.was.joins ∙ eq-eqb joiner.0 joiner.0 refl) in
              let named_gone = named_before (is_stopped world) world.manager sound.evolves view world.manager.current gone joiner listed_view newest le named_joiner (member_is_named world.manager.current gone gone_in) (omega arith) in
              let in_view = under_joiner view (made_by (is_stopped world) world.manager sound.evolves view) rising joiner gone beside.was.joins named_gone under in
              let ends_view = last_is view (made_by (is_stopped world) world.manager sound.evolves view) rising server.id beside.was.last in
              let most = ends_view.greatest gone in_view in
              let less = first.greatest last was.1 in
              let apart = was.0 in
              absurd (apart (omega (arith, ap (λ (d : ServerId). d.0) self)))

  pub removed_sound : IsSound (removed world gone)
  removed_sound =
      record {
        evolves = evolved;
        made = sound.made;
        few = sound.few;
        served = record { member = sound.served.member; in_it = left_member; runs = sound.served.runs };
        servers = more_views world (now.current ∷ []) sound;
        last_holds = last_holds_still;
        old_tails = old_tails_still;
        need_covers = need_covers_still;
        packets = more_packets world (now.current ∷ []) sound;
        calls = sound.calls;
        bag = sound.bag;
        stopped = sound.stopped;
        lost = sound.lost;
        delivered = sound.delivered;
      }

pub notice_sound : (world : World) (id : ServerId) (found : Option Server) → server_at world id ≡ found → notice_refusal world id found ≡ None
    → IsSound world → IsSound (notices world found).after
notice_sound world id None at none sound = sound
notice_sound world id (Some server) at none sound =
    let may = may_notice world id server none in
    let stops = mark_of world id server at sound ∙ may.stopped in
    told_sound (removed world server.id) may.room (removed_sound world server.id sound stops may.named)
