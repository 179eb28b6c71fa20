-- How many entries are acknowledged after a reaction, in a sound world: only the tail acknowledges what is not history yet.
use Rattle.std.proofs.Common.{◌≡◌, ℕ, ◌-◌, ◌≤◌, true, false, List, ◌++◌, length, take, refl, sym, ap, ◌∙◌, subst, arith}
use Rattle.std.specs.Prelude.{Option, Some}
use Rattle.std.proofs.lemmas.Bool.{false≢true}
use Rattle.std.proofs.lemmas.List.{append-nil, length-append, take-append-le, take-take}
use Rattle.kr_order.specs.declared.ids.ServerId.{ServerId}
use Rattle.kr_order.specs.declared.history.Entry.{Entry}
use Rattle.kr_order.specs.declared.message.Packet.{Packet}
use Rattle.kr_order.specs.Prefix.{IsPrefix}
use Rattle.kr_order.proofs.PrefixLemmas.{IsPrefix-trans, IsPrefix-take}
use Rattle.kr_protocol.specs.Server.{Server, acknowledged, is_at_tail, is_server, next}
use Rattle.kr_world.specs.World.{World, is_stopped}
use Rattle.kr_world.specs.Sound.{HasSoMany}
use Rattle.kr_world.proofs.chain.ChainLemmas.{chain_of, follower_below, some_one}
use Rattle.kr_world.proofs.chain.SeatLemmas.{IsSeated, own_of, sender_is, next_not_tail}
use Rattle.kr_world.proofs.shapes.ShapeLemmas.{Acknowledges, done_stays, done_before, done_all, done_told}
use Rattle.kr_world.proofs.bounds.BelowLemmas.{IsSoundCame}

-- what the next server has acknowledged is history, and stands in the log
agreed_next :
    (world : World) (id : ServerId) (server : Server) (from : ServerId) (done len upto : ℕ)
    → IsSeated world id server
    → HasSoMany world.servers from done len
    → is_server (next server) from ≡ true
    → upto ≤ done
    → IsPrefix (take upto server.log) world.history
agreed_next world id server from done len upto seat said taken le =
    let sender = said.sender in
    let its = seat.sound.servers (from.0 - 1) sender said.there in
    let follows : next server ≡ Some sender.id =
    some_one (next server) from taken ∙ ap (λ s. Some s) (sym (sender_is world from sender seat.sound said.there said.from_low)) in
    let front : IsPrefix sender.log server.log =
    follower_below (is_stopped world) world.manager world.servers (chain_of world seat.sound) (id.0 - 1) (from.0 - 1) server sender seat.at said.there seat.runs follows in
    let so_far = said.done_so_far in
    let its_done = its.done in
    let same : take upto server.log ≡ take upto sender.log =
    ap (take upto) front.is ∙ take-append-le upto sender.log front.more (omega arith) in
    let shorter : IsPrefix (take upto sender.log) (acknowledged sender) =
    subst (λ l. IsPrefix l (acknowledged sender)) (take-take upto sender.done sender.log (omega arith)) (IsPrefix-take upto (acknowledged sender)) in
    subst (λ l. IsPrefix l world.history) (sym same) (IsPrefix-trans (take upto sender.log) (acknowledged sender) world.history shorter its.agreed)

-- what is known of how many entries are acknowledged, of a log
pub record IsAgreed (world : World) (old : Server) (log : List Entry) (done : ℕ) : Type 0 where
  pub grows : old.done ≤ done
  pub within : done ≤ length log
  pub agreed : is_at_tail old ≡ false → IsPrefix (take done log) world.history
  pub full : is_at_tail old ≡ true → done ≡ length log

pub agreed_so :
    (world : World) (id : ServerId) (old : Server) (came : Option Packet) (more : List Entry) (done : ℕ)
    → IsSeated world id old
    → IsSoundCame world came
    → Acknowledges old came more done
    → IsAgreed world old (old.log ++ more) done
agreed_so world id old came more done seat said (done_stays any) =
    let own = own_of world id old seat in
    subst (λ l. IsAgreed world old l old.done) (sym (append-nil old.log)) (record { grows = omega arith; within = own.done; agreed = λ tail. own.agreed; full = own.full })
agreed_so world id old came more done seat said (done_before any gained middle) =
    let own = own_of world id old seat in
    record {
      grows = omega arith;
      within = omega (arith, own.done, length-append old.log more);
      agreed = λ tail. subst (λ l. IsPrefix l world.history) (sym (take-append-le old.done old.log more own.done)) own.agreed;
      full = λ tail. absurd (false≢true (sym middle ∙ tail));
    }
agreed_so world id old came more done seat said (done_all any gained tail) =
    let own = own_of world id old seat in
    record {
      grows = omega (arith, own.done, length-append old.log more);
      within = omega arith;
      agreed = λ middle. absurd (false≢true (sym middle ∙ tail));
      full = λ tail. refl;
    }
agreed_so world id old came more done seat said (done_told from to told len upto taken news le within) =
    let middle = next_not_tail old.view old.id from (some_one (next old) from taken) in
    let agreed : IsAgreed world old old.log done =
    record {
      grows = omega arith;
      within = within;
      agreed = λ tail. agreed_next world id old from told len done seat said taken le;
      full = λ tail. absurd (false≢true (sym middle ∙ tail));
    } in
    subst (λ l. IsAgreed world old l done) (sym (append-nil old.log)) agreed
