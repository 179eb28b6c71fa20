-- A reaction that has the shape keeps to the bounds.
use Rattle.std.proofs.Common.{◌≡◌, ◌⊎◌, ◌+◌, ◌-◌, ◌*◌, ◌≤◌, false, List, [], ◌∷◌, length, take, drop, refl, sym, ap, ◌∙◌, subst, arith, inl, inr, ltb, ◌++◌}
use Rattle.std.specs.Prelude.{Option, None, Some, slice_get}
use Rattle.std.proofs.lemmas.Bool.{and_parts, false≢true}
use Rattle.std.proofs.lemmas.Option.{same_Some}
use Rattle.std.proofs.lemmas.List.{length-append, length-take}
use Rattle.std.proofs.lemmas.List.Elements.{All-weaker}
use Rattle.kr_order.specs.declared.ids.ServerId.{ServerId}
use Rattle.kr_order.specs.declared.answer.Query.{Query}
use Rattle.kr_order.specs.declared.history.Entry.{Entry}
use Rattle.kr_order.specs.declared.message.Packet.{Packet}
use Rattle.kr_order.specs.Prefix.{IsPrefix}
use Rattle.kr_order.specs.History.{highest_seq}
use Rattle.kr_order.specs.View.{prev_of, is_tail, is_head, names}
use Rattle.kr_order.proofs.PrefixLemmas.{IsPrefix-take, IsPrefix-append, take_front}
use Rattle.kr_protocol.specs.Manager.{views_of}
use Rattle.kr_protocol.specs.Reaction.{Reaction}
use Rattle.kr_protocol.specs.Server.{Server, most_entries, most_waiting, viewed, is_first, is_at_tail, is_server, prev, joiner_behind, behind, view_number, next_entries}
use Rattle.kr_world.specs.World.{World}
use Rattle.kr_world.specs.Sound.{IsViewed, HasSoMany}
use Rattle.kr_world.proofs.chain.SeatLemmas.{IsSeated, own_of}
use Rattle.kr_world.proofs.chain.SaidLemmas.{IsSaid}
use Rattle.kr_world.proofs.bounds.BoundsLemmas.{IsWithinBounds}
use Rattle.kr_world.proofs.shapes.ShapeLemmas.{Gains, gains_none, gains_command, gains_entries, Waits, waits_on, waits_more, waits_none, IsSent, sends_reply, sends_ack, sends_window, sends_answer, sends_view, sends_joined, HasShape}
use Rattle.kr_world.proofs.bounds.BelowLemmas.{IsSoundCame, gained_below, gained_few}
use Rattle.kr_world.proofs.bounds.AgreedLemmas.{IsAgreed, agreed_so}

-- no more queries wait than may
waits_few :
    (old : Server) (came : Option Packet) (waiting : List Query)
    → length old.waiting ≤ most_waiting
    → Waits old came waiting
    → length waiting ≤ most_waiting
waits_few old came waiting few (waits_on any) = few
waits_few old came waiting few (waits_more client to q part pairs room) =
    omega (arith, length-append old.waiting (record { client = client; q = q; part = part; pairs = pairs } ∷ []))
waits_few old came waiting few (waits_none any) = omega arith

-- what is sent is true of the server that it has become
entries_stand :
    (server : Server)
    → next_entries server ≡ take (length (next_entries server)) (drop (server.fed + 1 - 1) server.log)
entries_stand server =
    let rest = drop server.fed server.log in
    sym (ap (λ n. take (length (take most_entries rest)) (drop n server.log)) (omega arith) ∙ take_front (take most_entries rest) rest (IsPrefix-take most_entries rest))

pub sent_said :
    (world : World) (came : Option Packet) (old after : Server) (packet : Packet)
    → IsSoundCame world came
    → IsSent came old after packet
    → IsSaid world.servers after packet
sent_said world came old after packet sound (sends_reply done at) = tt
sent_said world came old after packet sound (sends_ack to) = (refl, omega arith, omega arith)
sent_said world came old after packet sound (sends_window to) =
    (refl, omega arith, omega (arith, length-take most_entries (drop after.fed after.log)), entries_stand after)
sent_said world came old after packet sound (sends_answer query at) = tt
sent_said world came old after packet sound (sends_view view query) = tt
sent_said world came old after packet sound (sends_joined from to done len is behind enough) =
    (refl, behind, λ other there. covered (subst (IsSoundCame world) is sound) other there)
  where
    covered : HasSoMany world.servers from done len → (other : Server) → slice_get world.servers (from.0 - 1) ≡ Some other → after.need ≤ length other.log
    covered said other there =
        let same = same_Some said.sender other (sym said.there ∙ there) in
        let so_long = said.len_so_far in
        omega (arith, ap (λ (s : Server). length s.log) same)

-- a server without a view gains nothing
gains_nothing : (server : Server) (came : Option Packet) (more : List Entry) → server.view ≡ None → Gains server came more → more ≡ []
gains_nothing server came more none (gains_none any) = refl
gains_nothing server came more none (gains_command client to seq command may) =
    let first = (and_parts (is_first server) (ltb (highest_seq client server.log) seq) may).0 in
    absurd (false≢true (sym (ap (λ v. viewed false is_head v server.id) none) ∙ first))
gains_nothing server came more none (gains_entries from to first entries is) =
    absurd (false≢true (sym (ap (λ v. is_server (viewed None prev_of v server.id) from) none) ∙ is))

pub shape_within :
    (world : World) (id : ServerId) (server : Server) (came : Option Packet) (reaction : Reaction Server)
    → IsSeated world id server
    → IsSoundCame world came
    → HasShape came server reaction
    → IsWithinBounds world server reaction
shape_within world id server came reaction seat said shape =
    let own = own_of world id server seat in
    let after = reaction.after in
    let more = shape.more in
    let long : length after.log ≡ length server.log + length more = ap length shape.log ∙ length-append server.log more in
    let few : length more ≤ most_entries = gained_few world server came more said shape.gains in
    let agreed : IsAgreed world server after.log after.done =
    subst (λ l. IsAgreed world server l after.done) (sym shape.log) (agreed_so world id server came more after.done seat said shape.done) in
    let replies = shape.newly in
    let within = agreed.within in
    let waited = own.waiting in
    let fed_before = own.fed in
    let fed = shape.fed in
    let sent = shape.few in
    let prev_is : prev after ≡ prev server = ap (λ v. viewed None prev_of v after.id) shape.view ∙ ap (viewed None prev_of server.view) shape.id in
    let behind_is : behind after ≡ behind server = ap (λ v. viewed None joiner_behind v after.id) shape.view ∙ ap (viewed None joiner_behind server.view) shape.id in
    let tail_is : is_at_tail after ≡ is_at_tail server = ap (λ v. viewed false is_tail v after.id) shape.view ∙ ap (viewed false is_tail server.view) shape.id in
    record {
      id = shape.id;
      own_view = viewed_still own.own_view;
      need = λ joiner is. inl (sym behind_is ∙ is, shape.need);
      no_older = omega (arith, ap view_number shape.view);
      grows = subst (λ l. IsPrefix server.log l) (sym shape.log) (IsPrefix-append server.log more);
      below = λ j before there is. subst (λ l. IsPrefix l before.log) (sym shape.log) (gained_below world id server came more seat said shape.gains j before there (sym prev_is ∙ is));
      done_grows = agreed.grows;
      done = agreed.within;
      fed = omega arith;
      agreed = λ tail. agreed.agreed (sym tail_is ∙ tail);
      full = λ tail. agreed.full (sym tail_is ∙ tail);
      waiting = waits_few server came after.waiting own.waiting shape.waiting;
      counted = by_some shape.some;
      most = omega arith;
      gained = omega arith;
      sent = All-weaker (IsSent came server after) (IsSaid world.servers after) (λ packet sent. sent_said world came server after packet said sent) reaction.sent shape.sent;
    }
  where
    by_some :
        (shape.more ≡ []) ⊎ (1 ≤ length reaction.sent)
        → length reaction.after.log ≤ length server.log + most_entries * length reaction.sent
    by_some (inl none) = omega (arith, ap length shape.log, length-append server.log shape.more, ap length none)
    by_some (inr some) = omega (arith, ap length shape.log, length-append server.log shape.more, gained_few world server came shape.more said shape.gains)

    viewed_still : IsViewed (views_of world.manager) server → IsViewed (views_of world.manager) reaction.after
    viewed_still (inl own) =
        inl (record {
          view = own.view;
          adopted = shape.view ∙ own.adopted;
          listed = own.listed;
          named = ap (names own.view) shape.id ∙ own.named;
        })
    viewed_still (inr blank) = inr (record { none = shape.view ∙ blank.none; log = shape.log ∙ ap (λ l. l ++ shape.more) blank.log ∙ gains_nothing server came shape.more blank.none shape.gains })
