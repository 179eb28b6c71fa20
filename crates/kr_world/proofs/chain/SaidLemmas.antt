-- What a server says of itself to another is true, and stays so.
use Rattle.std.proofs.Common.{zero, suc, ◌≡◌, ℕ, ◌-◌, ◌<◌, ◌≤◌, List, ◌++◌, length, take, drop, set, refl, sym, ap, ◌∙◌, subst, arith, inl, inr}
use Rattle.std.specs.Prelude.{Some, slice_get}
use Rattle.std.proofs.lemmas.Bool.{cases_eq}
use Rattle.std.proofs.lemmas.List.{length-take, length-drop, take-append-le, drop-append-le}
use Rattle.std.proofs.lemmas.Option.{same_Some, slice_get_within}
use Rattle.kr_order.specs.declared.ids.ServerId.{ServerId}
use Rattle.kr_order.specs.declared.history.Entry.{Entry}
use Rattle.kr_order.specs.declared.message.Node as nodes
use Rattle.kr_order.specs.declared.message.Node.TheVariants.{Manager, Client as OfClient, Server as OfServer}
use Rattle.kr_order.specs.declared.message.Message.{Message}
use Rattle.kr_order.specs.declared.message.Message.TheVariants.{Append, Ack, NewView, Joined}
use Rattle.kr_order.specs.declared.message.Packet.{Packet}
use Rattle.kr_order.specs.declared.view.View.{View}
use Rattle.kr_order.specs.Prefix.{IsPrefix}
use Rattle.kr_order.proofs.PrefixLemmas.{IsPrefix-refl, IsPrefix-length}
use Rattle.kr_protocol.specs.Server.{Server, most_entries, behind, view_number}
use Rattle.kr_world.specs.Sound.{IsSoundAppend, IsSoundAck, IsSoundJoined, IsSoundMessage, WasBeside}
use Rattle.kr_world.proofs.chain.ChainLemmas.{StandsBeside}
use Rattle.kr_world.proofs.steps.ListFacts.{each_after_set, set_here, set_other}

-- what a server among these says of itself; it sends no new view
abbrev pub IsSaidBy : List Server → Server → nodes.Node → Message → Type 0
IsSaidBy servers server from (Append first entries) =
    (from ≡ OfServer server.id) × (1 ≤ first) × (length entries ≤ most_entries) × (entries ≡ take (length entries) (drop (first - 1) server.log))
IsSaidBy servers server from (Ack d n) = (from ≡ OfServer server.id) × (d ≤ server.done) × (n ≤ length server.log)
IsSaidBy servers server from (NewView view) = ⊥
IsSaidBy servers server from (Joined joiner) =
    (from ≡ OfServer server.id) × (behind server ≡ Some joiner) × ((other : Server) → slice_get servers (joiner.0 - 1) ≡ Some other → server.need ≤ length other.log)
IsSaidBy servers server from other = Unit {0}

abbrev pub IsSaid : List Server → Server → Packet → Type 0
IsSaid servers server packet = IsSaidBy servers server packet.from packet.message

-- a log that grew still has what stood in it
still_stand :
    (log more entries : List Entry) (first : ℕ)
    → entries ≡ take (length entries) (drop first log)
    → entries ≡ take (length entries) (drop first (log ++ more))
still_stand log more entries first stand =
    let n = length entries in
    let long : length (take n (drop first log)) ≡ n = ap length (sym stand) in
    let enough : n ≤ length log - first = omega (arith, long, length-take n (drop first log), length-drop first log) in
    stand ∙ sym (take-front_of_drop log more n first enough)
  where
    take-front_of_drop :
        (log more : List Entry) (n first : ℕ)
        → n ≤ length log - first
        → take n (drop first (log ++ more)) ≡ take n (drop first log)
    take-front_of_drop log more zero first le = refl
    take-front_of_drop log more (suc n) first le =
        ap (take (suc n)) (drop-append-le first log more (omega arith)) ∙ take-append-le (suc n) (drop first log) more (omega (arith, length-drop first log))

-- packets stay true when a server goes on
pub record GoesOn (views : List View) (old after : Server) : Type 0 where
  pub id : after.id ≡ old.id
  pub grows : IsPrefix old.log after.log
  pub done_grows : old.done ≤ after.done
  pub no_older : view_number old.view ≤ view_number after.view
  -- what a joiner has to have stays, as long as it is the same one
  pub need_stays : (joiner : ServerId) → WasBeside views old joiner → behind after ≡ Some joiner → (behind old ≡ Some joiner) × (after.need ≡ old.need)

-- the server that stood at an index stands there still, or what it has become
goes_on_at :
    (views : List View) (servers : List Server) (i : ℕ) (old after : Server)
    → slice_get servers i ≡ Some old
    → GoesOn views old after
    → (j : ℕ) (sender : Server)
    → slice_get servers j ≡ Some sender
    → (now : Server) × (slice_get (set servers i after) j ≡ Some now) × GoesOn views sender now
goes_on_at views servers i old after is on j sender there =
    let lt : j < length servers = slice_get_within servers j sender there in
    elim (cases_eq j i) [
      | inl same ↦
          let its : old ≡ sender = same_Some old sender (sym is ∙ subst (λ k. slice_get servers k ≡ Some sender) same there) in
          (after, subst (λ k. slice_get (set servers i after) k ≡ Some after) (sym same) (set_here servers i after (omega arith)), subst (λ s. GoesOn views s after) its on)
      | inr other ↦
          (sender, set_other servers i after j sender other there, record { id = refl; grows = IsPrefix-refl sender.log; done_grows = omega arith; no_older = omega arith; need_stays = λ joiner beside is. (is, refl) })
    ]

append_stays :
    (views : List View) (servers : List Server) (i : ℕ) (old after : Server) (from : nodes.Node) (first : ℕ) (entries : List Entry)
    → slice_get servers i ≡ Some old
    → GoesOn views old after
    → IsSoundAppend servers from first entries
    → IsSoundAppend (set servers i after) from first entries
append_stays views servers i old after Manager first entries is on said = said
append_stays views servers i old after (OfClient client) first entries is on said = said
append_stays views servers i old after (OfServer server) first entries is on said =
    let its = goes_on_at views servers i old after is on (server.0 - 1) said.sender said.there in
    record {
      sender = its.0;
      from_low = said.from_low;
      first_low = said.first_low;
      there = its.1;
      few = said.few;
      stand = subst (λ l. entries ≡ take (length entries) (drop (first - 1) l)) (sym its.2.grows.is) (still_stand said.sender.log its.2.grows.more entries (first - 1) said.stand);
    }

ack_stays :
    (views : List View) (servers : List Server) (i : ℕ) (old after : Server) (from : nodes.Node) (done len : ℕ)
    → slice_get servers i ≡ Some old
    → GoesOn views old after
    → IsSoundAck servers from done len
    → IsSoundAck (set servers i after) from done len
ack_stays views servers i old after Manager done len is on said = said
ack_stays views servers i old after (OfClient client) done len is on said = said
ack_stays views servers i old after (OfServer server) done len is on said =
    let its = goes_on_at views servers i old after is on (server.0 - 1) said.sender said.there in
    let now = its.0 in
    let longer = its.2 in
    let more = longer.done_grows in
    let so_far = said.done_so_far in
    let so_long = said.len_so_far in
    record {
      sender = now;
      from_low = said.from_low;
      there = its.1;
      done_so_far = omega arith;
      len_so_far = omega (arith, IsPrefix-length said.sender.log now.log longer.grows);
    }

joined_stays :
    (views : List View) (servers : List Server) (i : ℕ) (old after : Server) (from : nodes.Node) (joiner : ServerId)
    → slice_get servers i ≡ Some old
    → GoesOn views old after
    → IsSoundJoined views servers from joiner
    → IsSoundJoined views (set servers i after) from joiner
joined_stays views servers i old after Manager joiner is on said = said
joined_stays views servers i old after (OfClient client) joiner is on said = said
joined_stays views servers i old after (OfServer server) joiner is on said =
    let its = goes_on_at views servers i old after is on (server.0 - 1) said.sender said.there in
    let now = its.0 in
    let later = its.2 in
    let beside = said.beside in
    let no_newer = beside.no_newer in
    let no_older = later.no_older in
    record {
      sender = now;
      from_low = said.from_low;
      there = its.1;
      beside = record {
        heard = beside.heard;
        listed = beside.listed;
        no_newer = omega arith;
        last = beside.last ∙ ap (λ d. Some d) (sym later.id);
        joins = beside.joins;
      };
      covered = λ other there stands.
          let kept = later.need_stays joiner beside stands in
          let same = kept.1 in
          let covers : (k : ℕ) (s : Server) → slice_get (set servers i after) k ≡ Some s → k ≡ joiner.0 - 1 → said.sender.need ≤ length s.log =
          each_after_set (λ k s. k ≡ joiner.0 - 1 → said.sender.need ≤ length s.log) servers i after
          (λ at. let le = said.covered old (subst (λ k. slice_get servers k ≡ Some old) at is) kept.0 in omega (arith, IsPrefix-length old.log after.log on.grows))
          (λ k s other' at here. said.covered s (subst (λ j. slice_get servers j ≡ Some s) here at) kept.0) in
          let enough = covers (joiner.0 - 1) other there refl in
          omega arith;
    }

pub message_stays :
    (views : List View) (servers : List Server) (i : ℕ) (old after : Server) (from : nodes.Node) (message : Message)
    → slice_get servers i ≡ Some old
    → GoesOn views old after
    → IsSoundMessage views servers from message
    → IsSoundMessage views (set servers i after) from message
message_stays views servers i old after from (Append first entries) is on said = append_stays views servers i old after from first entries is on said
message_stays views servers i old after from (Ack done len) is on said = ack_stays views servers i old after from done len is on said
message_stays views servers i old after from (Joined joiner) is on said = joined_stays views servers i old after from joiner is on said
message_stays views servers i old after from other is on said = said

-- what a server says of itself is true of the servers it is among, once it is one of them
pub said_message :
    (views : List View) (servers : List Server) (server : Server) (from : nodes.Node) (message : Message)
    → 1 ≤ server.id.0
    → slice_get (set servers (server.id.0 - 1) server) (server.id.0 - 1) ≡ Some server
    → ((joiner : ServerId) → behind server ≡ Some joiner → StandsBeside views server joiner)
    → IsSaidBy servers server from message
    → IsSoundMessage views (set servers (server.id.0 - 1) server) from message
said_message views servers server from (Append first entries) low there joins said =
    subst (λ f. IsSoundAppend (set servers (server.id.0 - 1) server) f first entries) (sym said.0) (record { sender = server; from_low = low; first_low = said.1; there = there; few = said.2; stand = said.3 })
said_message views servers server from (Ack done len) low there joins said =
    subst (λ f. IsSoundAck (set servers (server.id.0 - 1) server) f done len) (sym said.0) (record { sender = server; from_low = low; there = there; done_so_far = said.1; len_so_far = said.2 })
said_message views servers server from (NewView view) low there joins said = absurd said
said_message views servers server from (Joined joiner) low there joins said =
    let both = joins joiner said.1 in
    let greater = both.greater in
    subst (λ f. IsSoundJoined views (set servers (server.id.0 - 1) server) f joiner) (sym said.0) (record {
      sender = server;
      from_low = low;
      there = there;
      beside = both.was;
      covered = λ other at stands. each_after_set (λ k s. k ≡ joiner.0 - 1 → server.need ≤ length s.log) servers (server.id.0 - 1) server
          (λ same. absurd (omega arith))
          (λ k s differ here same. said.2 s (subst (λ j. slice_get servers j ≡ Some s) same here))
          (joiner.0 - 1) other at refl;
    })
said_message views servers server from other low there joins said = said
