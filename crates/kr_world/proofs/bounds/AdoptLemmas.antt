-- What a server does when it adopts a view.
use Rattle.std.proofs.Common.{◌≡◌, ℕ, ◌+◌, ◌-◌, ◌≤◌, ◌<◌, Bool, true, false, cond, ltb, [], ◌++◌, length, take, refl, sym, ap, ◌∙◌, subst, arith, ◌||◌, inl, inr}
use Rattle.std.specs.Prelude.{None, Some, All, Option, is_none}
use Rattle.std.proofs.lemmas.Bool.{and_parts, ltb-true, false≢true, eq-eqb, eqb-true}
use Rattle.std.proofs.lemmas.List.{length-append}
use Rattle.std.proofs.lemmas.List.Elements.{All-append, All-weaker}
use Rattle.kr_order.specs.declared.ids.ServerId.{ServerId}
use Rattle.kr_order.specs.declared.view.View.{View}
use Rattle.kr_order.specs.Prefix.{IsPrefix}
use Rattle.kr_order.specs.View.{prev_of, is_tail, names}
use Rattle.kr_order.proofs.PrefixLemmas.{IsPrefix-refl}
use Rattle.kr_protocol.specs.Reaction.{Reaction}
use Rattle.kr_protocol.specs.Server.{Server, viewed, sends, follows, is_at_tail, prev, next, ack, window, advances, advances_at_tail, server_ticks, view_number, are_same, may_adopt, adopts, joiner_behind, behind, need_then}
use Rattle.kr_protocol.proofs.TimelineLemmas.{IsListed}
use Rattle.kr_world.specs.World.{World, is_stopped}
use Rattle.kr_world.proofs.chain.ChainLemmas.{same_server, chain_of, rise}
use Rattle.kr_world.proofs.chain.SeatLemmas.{IsSeated, own_of}
use Rattle.kr_world.proofs.chain.SaidLemmas.{IsSaid}
use Rattle.kr_world.proofs.bounds.BoundsLemmas.{IsNeeded, IsWithinBounds}
use Rattle.kr_world.proofs.shapes.ShapeLemmas.{IsSent, IsCounted}
use Rattle.kr_world.proofs.shapes.SendLemmas.{replies_few, replies_sent, window_few, window_sent, ack_few, ack_sent}
use Rattle.kr_world.proofs.bounds.WithinLemmas.{sent_said}

same_servers : (one : Option ServerId) (other : ServerId) → are_same one (Some other) ≡ true → one ≡ Some other
same_servers None other is = absurd (false≢true is)
same_servers (Some one) other is = ap (λ s. Some s) (same_server one other (eqb-true one.0 other.0 is))

-- it has another view, has fed no more than its log has, and has acknowledged all where it is the tail by that
pub record IsAdoption (server : Server) (view : View) (reaction : Reaction Server) : Type 0 where
  pub id : reaction.after.id ≡ server.id
  pub view_is : reaction.after.view ≡ Some view
  pub log : reaction.after.log ≡ server.log
  pub waiting : reaction.after.waiting ≡ server.waiting
  pub fed : reaction.after.fed ≤ length server.log
  pub need : reaction.after.need ≡ need_then server (record server { view = Some view })
  pub tail : is_tail view server.id ≡ true → reaction.after.done ≡ length server.log
  pub other : is_tail view server.id ≡ false → reaction.after.done ≡ server.done
  pub sent : All (IsSent None server reaction.after) reaction.sent
  pub few : length reaction.sent ≤ length server.log + 2

-- with so many entries known to be there behind it
adopts_so :
    (server : Server) (view : View) (fed : ℕ)
    → fed ≤ length server.log
    → IsAdoption server view (follows (advances_at_tail (record server { view = Some view; fed = fed; need = need_then server (record server { view = Some view }) })) server_ticks)
adopts_so server view fed within = by_tail (is_tail view server.id) refl
  where
    seeing : Server
    seeing = record server { view = Some view; fed = fed; need = need_then server (record server { view = Some view }) }

    n : ℕ
    n = length server.log

    behind : (after : Server) → All (IsSent None server after) (ack after ++ window after)
    behind after = All-append (IsSent None server after) (ack after) (window after) (ack_sent None server after (prev after)) (window_sent None server after)

    by_tail : (tail : Bool) → is_tail view server.id ≡ tail → IsAdoption server view (follows (cond tail (advances seeing n) (sends seeing [])) server_ticks)
    by_tail true is =
        let after = record seeing { done = n } in
        let replies = (advances seeing n).sent in
        let few = replies_few seeing n in
        record {
          id = refl;
          view_is = refl;
          log = refl;
          waiting = refl;
          fed = within;
          need = refl;
          tail = λ tail. refl;
          other = λ other. absurd (false≢true (sym other ∙ is));
          sent = All-append (IsSent None server after) replies (ack after ++ window after) (replies_sent None server seeing n) (behind after);
          few = omega (arith, length-append replies (ack after ++ window after), length-append (ack after) (window after), ack_few after (prev after), window_few after);
        }
    by_tail false is =
        record {
          id = refl;
          view_is = refl;
          log = refl;
          waiting = refl;
          fed = within;
          need = refl;
          tail = λ tail. absurd (false≢true (sym is ∙ tail));
          other = λ other. refl;
          sent = behind seeing;
          few = omega (arith, length-append (ack seeing) (window seeing), ack_few seeing (prev seeing), window_few seeing);
        }

pub adoption_of : (server : Server) (view : View) → IsCounted server → IsAdoption server view (adopts server view)
adoption_of server view counted = by_same (are_same (next server) (next (record server { view = Some view })))
  where
    by_same : (same : Bool) → IsAdoption server view (follows (advances_at_tail (record server { view = Some view; fed = cond same server.fed 0; need = need_then server (record server { view = Some view }) })) server_ticks)
    by_same true = adopts_so server view server.fed counted.fed
    by_same false = adopts_so server view 0 (omega arith)

-- a server adopts a newer view of the manager's within bounds
pub adopts_within :
    (world : World) (id : ServerId) (server : Server) (view : View)
    → IsSeated world id server
    → IsListed world.manager view
    → may_adopt server view ≡ true
    → IsWithinBounds world server (adopts server view)
adopts_within world id server view seat listed may =
    let own = own_of world id server seat in
    let reaction = adopts server view in
    let after = reaction.after in
    let its = adoption_of server view (record { done = own.done; fed = own.fed }) in
    let tests = and_parts (ltb (view_number server.view) view.number) (names view server.id) may in
    let newer : view_number server.view < view.number = ltb-true (view_number server.view) view.number tests.0 in
    let number = ap view_number its.view_is in
    let long = ap length its.log in
    let few = its.few in
    let fed = its.fed in
    let done = own.done in
    let at_done : is_at_tail after ≡ is_tail view server.id = ap (λ v. viewed false is_tail v after.id) its.view_is ∙ ap (is_tail view) its.id in
    let behind_is : behind after ≡ joiner_behind view server.id = ap (λ v. viewed None joiner_behind v after.id) its.view_is ∙ ap (joiner_behind view) its.id in
    let before : prev after ≡ prev_of view server.id = ap (λ v. viewed None prev_of v after.id) its.view_is ∙ ap (prev_of view) its.id in
    record {
      id = its.id;
      own_view = inl (record { view = view; adopted = its.view_is; listed = listed; named = ap (names view) its.id ∙ tests.1 });
      need = λ joiner is. by_need joiner (are_same (behind server) (joiner_behind view server.id)) refl (sym behind_is ∙ is) its.need;
      no_older = omega arith;
      grows = subst (λ l. IsPrefix server.log l) (sym its.log) (IsPrefix-refl server.log);
      below = λ j other there is. subst (λ l. IsPrefix l other.log) (sym its.log)
          (rise (is_stopped world) world.manager world.servers (chain_of world seat.sound) (id.0 - 1) j view server other listed seat.at there (omega arith) (sym before ∙ is));
      done_grows = by_done (is_tail view server.id) refl its own.done;
      done = within (is_tail view server.id) refl its own.done;
      fed = omega arith;
      agreed = λ tail. subst (λ l. IsPrefix l world.history) (sym (ap (λ n. take n after.log) (its.other (sym at_done ∙ tail)) ∙ ap (take server.done) its.log)) own.agreed;
      full = λ tail. its.tail (sym at_done ∙ tail) ∙ sym long;
      waiting = subst (λ w. length w ≤ 64) (sym its.waiting) own.waiting;
      counted = omega arith;
      most = omega arith;
      gained = omega arith;
      sent = All-weaker (IsSent None server after) (IsSaid world.servers after) (λ packet sent. sent_said world None server after packet tt sent) reaction.sent its.sent;
    }
  where
    by_need : (joiner : ServerId) (same : Bool) → are_same (behind server) (joiner_behind view server.id) ≡ same → joiner_behind view server.id ≡ Some joiner
        → (adopts server view).after.need ≡ need_then server (record server { view = Some view }) → IsNeeded server (adopts server view).after joiner
    by_need joiner true same is need =
        let both = ap (are_same (behind server)) (sym is) ∙ same in
        inl (same_servers (behind server) joiner both, need ∙ ap (λ test. cond test server.need (length server.log)) (ap (λ j. is_none j || are_same (behind server) j) is ∙ both))
    by_need joiner false same is need =
        let both = ap (are_same (behind server)) (sym is) ∙ same in
        inr ((λ before. false≢true (sym both ∙ ap (λ a. are_same a (Some joiner)) before ∙ eq-eqb joiner.0 joiner.0 refl)), need ∙ ap (λ test. cond test server.need (length server.log)) (ap (λ j. is_none j || are_same (behind server) j) is ∙ both))

    by_done : (tail : Bool) → is_tail view server.id ≡ tail → IsAdoption server view (adopts server view) → server.done ≤ length server.log → server.done ≤ (adopts server view).after.done
    by_done true is its done = omega (arith, its.tail is)
    by_done false is its done = omega (arith, its.other is)

    within : (tail : Bool) → is_tail view server.id ≡ tail → IsAdoption server view (adopts server view) → server.done ≤ length server.log → (adopts server view).after.done ≤ length (adopts server view).after.log
    within true is its done = omega (arith, its.tail is, ap length its.log)
    within false is its done = omega (arith, its.other is, ap length its.log)
