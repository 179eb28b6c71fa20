-- How the history goes on when a server has gone on within bounds.
use Rattle.std.proofs.Common.{suc, ◌≡◌, ◌⊎◌, ℕ, ◌+◌, ◌-◌, ◌<◌, ◌≤◌, Bool, true, false, List, [], ◌∷◌, length, take, set, sym, ap, ◌∙◌, subst, arith, refl, inl, inr}
use Rattle.std.specs.Prelude.{Some, slice_get, All}
use Rattle.std.proofs.lemmas.List.{length-take-le, take_all}
use Rattle.std.proofs.lemmas.List.Elements.{All-nil, All-cons}
use Rattle.std.proofs.lemmas.Bool.{false≢true}
use Rattle.std.proofs.lemmas.Option.{same_Some}
use Rattle.kr_order.specs.declared.ids.ServerId.{ServerId}
use Rattle.kr_order.specs.declared.history.Entry.{Entry}
use Rattle.kr_order.specs.Prefix.{IsPrefix}
use Rattle.kr_order.specs.View.{last_member, is_tail}
use Rattle.kr_order.proofs.PrefixLemmas.{IsPrefix-refl, IsPrefix-trans, IsPrefix-length, take_front}
use Rattle.kr_protocol.specs.Manager.{views_of}
use Rattle.kr_protocol.specs.Reaction.{Reaction}
use Rattle.kr_protocol.specs.Server.{Server, viewed, acknowledged, is_at_tail, view_number}
use Rattle.kr_world.specs.World.{World, longer, longest}
use Rattle.kr_world.specs.Sound.{IsSound, IsViewed, LastHolds}
use Rattle.kr_world.proofs.steps.ListFacts.{each_after_set, set_here}
use Rattle.kr_world.proofs.chain.LongestLemmas.{IsWithin, longer_front, longer_same, longest_set}
use Rattle.kr_world.proofs.chain.SeatLemmas.{IsSeated, own_of, seat_within, seat_holds, tail_member, tail_is_last}
use Rattle.kr_world.proofs.bounds.BoundsLemmas.{IsWithinBounds}

-- the history once a server has gone on: it has grown, if at all, to what this one has acknowledged
pub record HistoryGrows (world : World) (servers : List Server) (after : Server) : Type 0 where
  pub front : IsPrefix world.history (longest world.history servers)
  pub agreed : IsPrefix (acknowledged after) (longest world.history servers)
  pub last_holds : LastHolds world.manager.current servers (longest world.history servers)
  -- it is as it was, or all that stands in the server's log
  pub kept_or_log : (longest world.history servers ≡ world.history) ⊎ (longest world.history servers ≡ after.log)
  -- where it has not grown, it is as it was
  pub kept : after.done ≤ length world.history → longest world.history servers ≡ world.history
  -- and where it has, it is what the server has acknowledged
  pub more : length world.history < after.done → longest world.history servers ≡ acknowledged after

-- what the tail has in its log is the history
pub tail_log :
    (world : World) (id : ServerId) (server : Server)
    → IsSeated world id server
    → is_at_tail server ≡ true
    → world.history ≡ server.log
tail_log world id server seat tail =
    let own = own_of world id server seat in
    let holds = seat_holds world id server seat (tail_member server tail) in
    let whole : acknowledged server ≡ server.log =
    ap (λ n. take n server.log) (own.full tail) ∙ take_all (length server.log) server.log (omega arith) in
    let within = IsPrefix-length (acknowledged server) world.history own.agreed in
    let same : length server.log ≤ length world.history = subst (λ l. length l ≤ length world.history) whole within in
    sym (take_front world.history server.log holds) ∙ take_all (length world.history) server.log same

all_within : (world : World) → IsSound world → All (IsWithin (length world.history)) world.servers
all_within world sound =
    all_from world.servers (λ i s there. IsPrefix-length (acknowledged s) world.history (sound.servers i s there).agreed)
  where
    all_from :
        (servers : List Server)
        → ((i : ℕ) (s : Server) → slice_get servers i ≡ Some s → IsWithin (length world.history) s)
        → All (IsWithin (length world.history)) servers
    all_from [] each = All-nil (IsWithin (length world.history))
    all_from (s ∷ servers) each = All-cons (IsWithin (length world.history)) s servers (each 0 s refl) (all_from servers (λ i t there. each (suc i) t there))

-- the last member holds a history that stood in its log and in that of the server that has gone on, if it is this one
last_after :
    (world : World) (id : ServerId) (old : Server) (reaction : Reaction Server)
    → IsSeated world id old
    → IsWithinBounds world old reaction
    → (history : List Entry)
    → ((last : ServerId) (server : Server) → last_member world.manager.current ≡ Some last → slice_get world.servers (last.0 - 1) ≡ Some server → IsPrefix history server.log)
    → LastHolds world.manager.current (set world.servers (id.0 - 1) reaction.after) history
last_after world id old reaction seat bounds history holds last server is there =
    each_after_set (λ k s. k ≡ last.0 - 1 → IsPrefix history s.log) world.servers (id.0 - 1) reaction.after
    (λ same. IsPrefix-trans history old.log reaction.after.log (holds last old is (subst (λ k. slice_get world.servers k ≡ Some old) same seat.at)) bounds.grows)
    (λ k s other at same. holds last s is (subst (λ j. slice_get world.servers j ≡ Some s) same at))
    (last.0 - 1) server there refl

-- where a server that is not the tail goes on, the history stays
stays :
    (world : World) (id : ServerId) (old : Server) (reaction : Reaction Server)
    → IsSeated world id old
    → IsWithinBounds world old reaction
    → is_at_tail reaction.after ≡ false
    → HistoryGrows world (set world.servers (id.0 - 1) reaction.after) reaction.after
stays world id old reaction seat bounds tail =
    let history = world.history in
    let i = id.0 - 1 in
    let after = reaction.after in
    let now = set world.servers i after in
    let agreed = bounds.agreed tail in
    let long : length (acknowledged after) ≡ after.done = length-take-le after.done after.log bounds.done in
    let within : length (acknowledged after) ≤ length history = IsPrefix-length (acknowledged after) history agreed in
    let same : longest history now ≡ history =
    longest_set history world.servers i after (seat_within world id old seat) (all_within world seat.sound) ∙ longer_same history (acknowledged after) within in
    let held : LastHolds world.manager.current now history = last_after world id old reaction seat bounds history seat.sound.last_holds in
    record {
      front = subst (λ h. IsPrefix history h) (sym same) (IsPrefix-refl history);
      agreed = subst (λ h. IsPrefix (acknowledged after) h) (sym same) agreed;
      last_holds = subst (λ h. LastHolds world.manager.current now h) (sym same) held;
      kept_or_log = inl same;
      kept = λ le. same;
      more = λ lt. absurd (omega arith);
    }

-- who is the tail once it has gone on is the last member of the current view
pub after_is_last :
    (world : World) (id : ServerId) (old : Server) (reaction : Reaction Server)
    → IsSeated world id old
    → IsWithinBounds world old reaction
    → is_at_tail reaction.after ≡ true
    → last_member world.manager.current ≡ Some old.id
after_is_last world id old reaction seat bounds tail = by_view bounds.own_view
  where
    after : Server
    after = reaction.after

    by_view : IsViewed (views_of world.manager) after → last_member world.manager.current ≡ Some old.id
    by_view (inr blank) = absurd (false≢true (sym (ap (λ v. viewed false is_tail v after.id) blank.none) ∙ tail))
    by_view (inl own) =
        let number = ap view_number own.adopted in
        let no_older = bounds.no_older in
        let its_tail : is_tail own.view old.id ≡ true =
        ap (is_tail own.view) (sym bounds.id) ∙ sym (ap (λ v. viewed false is_tail v after.id) own.adopted) ∙ tail in
        tail_is_last world id old own.view seat own.listed (omega arith) its_tail

-- where the tail goes on, or a server that has become the tail, its log is the history
tail_grows :
    (world : World) (id : ServerId) (old : Server) (reaction : Reaction Server)
    → IsSeated world id old
    → IsWithinBounds world old reaction
    → is_at_tail reaction.after ≡ true
    → HistoryGrows world (set world.servers (id.0 - 1) reaction.after) reaction.after
tail_grows world id old reaction seat bounds tail =
    let history = world.history in
    let i = id.0 - 1 in
    let after = reaction.after in
    let servers = set world.servers i after in
    let own = own_of world id old seat in
    let lt : i < length world.servers = seat_within world id old seat in
    let whole : acknowledged after ≡ after.log =
    ap (λ k. take k after.log) (bounds.full tail) ∙ take_all (length after.log) after.log (omega arith) in
    let last = after_is_last world id old reaction seat bounds tail in
    let its = own.id in
    let holds : IsPrefix history old.log = seat.sound.last_holds old.id old last (subst (λ k. slice_get world.servers k ≡ Some old) (omega arith) seat.at) in
    let grown : IsPrefix history after.log = IsPrefix-trans history old.log after.log holds bounds.grows in
    let now : longest history servers ≡ after.log =
    longest_set history world.servers i after lt (all_within world seat.sound) ∙ ap (longer history) whole ∙ longer_front history after.log grown in
    record {
      front = subst (λ h. IsPrefix history h) (sym now) grown;
      agreed = subst (λ h. IsPrefix (acknowledged after) h) (sym now) (subst (λ l. IsPrefix l after.log) (sym whole) (IsPrefix-refl after.log));
      last_holds = subst (λ h. LastHolds world.manager.current servers h) (sym now) (held last its lt);
      kept_or_log = inr now;
      kept = λ le.
          let full = bounds.full tail in
          now ∙ sym (sym (take_front history after.log grown) ∙ take_all (length history) after.log (omega arith));
      more = λ lt. now ∙ sym whole;
    }
  where
    held : last_member world.manager.current ≡ Some old.id → old.id.0 ≡ id.0 - 1 + 1 → id.0 - 1 < length world.servers → LastHolds world.manager.current (set world.servers (id.0 - 1) reaction.after) reaction.after.log
    held last its lt other server is there =
        let same = ap (λ (d : ServerId). d.0) (same_Some old.id other (sym last ∙ is)) in
        let here = subst (λ k. slice_get (set world.servers (id.0 - 1) reaction.after) k ≡ Some reaction.after) (omega arith) (set_here world.servers (id.0 - 1) reaction.after lt) in
        subst (λ (s : Server). IsPrefix reaction.after.log s.log) (same_Some reaction.after server (sym here ∙ there)) (IsPrefix-refl reaction.after.log)

pub grows_or_stays :
    (world : World) (id : ServerId) (old : Server) (reaction : Reaction Server)
    → IsSeated world id old
    → IsWithinBounds world old reaction
    → HistoryGrows world (set world.servers (id.0 - 1) reaction.after) reaction.after
grows_or_stays world id old reaction seat bounds = by_test (is_at_tail reaction.after) refl
  where
    by_test :
        (tail : Bool)
        → is_at_tail reaction.after ≡ tail
        → HistoryGrows world (set world.servers (id.0 - 1) reaction.after) reaction.after
    by_test true tail = tail_grows world id old reaction seat bounds tail
    by_test false tail = stays world id old reaction seat bounds tail
