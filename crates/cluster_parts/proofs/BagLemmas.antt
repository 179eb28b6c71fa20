-- Packets and their spellings in a bag.
use Rattle.std.proofs.Common.{◌≡◌, ℕ, ◌+◌, ◌-◌, ◌^◌, ◌<◌, ◌≤◌, min, false, cond, ◌||◌, leb, lit≤, inl, inr, List, [], ◌∷◌, ◌++◌, length, take, get_or, refl, sym, ap, ◌∙◌, subst, append_assoc, arith}
use Rattle.std.specs.Prelude.{All, map, sum_by, Option, None, Some, slice_get}
use Rattle.std.specs.Option.{option_map}
use Rattle.std.proofs.lemmas.Bool.{ne_eqb, cases_lt, le-leb, lt-leb}
use Rattle.std.proofs.lemmas.List.{append-nil, map-append, map_push, length-append, length-map, take_more}
use Rattle.std.proofs.lemmas.List.Elements.{All-head, All-tail}
use Rattle.std.proofs.lemmas.List.Sums.{sum_by-cons}
use Rattle.std.proofs.lemmas.Option.{slice_get-map}
use Rattle.kr_order.specs.declared.message.Node.{Node}
use Rattle.kr_order.specs.declared.message.Packet.{Packet}
use Rattle.kr_order.specs.Size.{packet_size}
use Rattle.kr_wire.specs.Valid.{IsPacket}
use Rattle.kr_wire.specs.Spelling.{spelling}
use Rattle.kr_wire.specs.Decoding.{IsSpelling}
use Rattle.kr_wire.proofs.DecodeLemmas.{packet_in_again}
use Rattle.kr_wire.proofs.LawLemmas.{spellings_are_as_long_as_counted}
use Rattle.kr_world.specs.World.{bytes_of}
use Rattle.kr_world.specs.Step.{bag_limit, byte_limit}
use Rattle.net_bag.specs.Sent.{Sent, sent_after, spelling_at, IsTo, IsSent as HasNumber}
use Rattle.cluster_parts.specs.BagStanding.{BagStanding, packet_or_none, packet_of, IsFresh, IsNumbered, HasPackets, IsSent}

-- the packet of a packet's spelling is that packet
pub packet_of-spelling : (packet : Packet) → IsPacket packet → packet_of (spelling packet) ≡ packet
packet_of-spelling packet fit = ap packet_or_none (packet_in_again packet fit)

map_packet_of-spelling : (packets : List Packet) → All IsPacket packets → map packet_of (map spelling packets) ≡ packets
map_packet_of-spelling [] fit = refl
map_packet_of-spelling (packet ∷ packets) fit =
    ap (λ p. p ∷ map packet_of (map spelling packets)) (packet_of-spelling packet (All-head IsPacket packet packets fit)) ∙ ap (λ ps. packet ∷ ps) (map_packet_of-spelling packets (All-tail IsPacket packet packets fit))

-- a spelling is as long as is counted of its packet
length-spelling : (bytes : List ℕ) → IsSpelling bytes → length bytes ≡ packet_size (packet_of bytes)
length-spelling bytes spelt =
    let packet = spelt.0 in
    ap length spelt.2 ∙ spellings_are_as_long_as_counted packet ∙ ap packet_size (sym (packet_of-spelling packet spelt.1)) ∙ ap (λ b. packet_size (packet_of b)) (sym spelt.2)

-- so the spellings have as many bytes as are counted of the packets
pub bytes_are : (spellings : List (List ℕ)) → All IsSpelling spellings → sum_by (λ bytes. length bytes) spellings ≡ bytes_of (map packet_of spellings)
bytes_are [] spelt = refl
bytes_are (bytes ∷ spellings) spelt =
    omega (arith, length-spelling bytes (All-head IsSpelling bytes spellings spelt), bytes_are spellings (All-tail IsSpelling bytes spellings spelt), sum_by-cons (λ b. length b) bytes spellings, sum_by-cons packet_size (packet_of bytes) (map packet_of spellings))

-- no packet is of the step that begins
pub none_fresh : (packets : List Packet) → IsFresh packets []
none_fresh packets = record { front = packets; are = sym (append-nil packets) }

-- the packets of the step are not more than all
pub fresh_few : (packets fresh : List Packet) → IsFresh packets fresh → length fresh ≤ length packets
fresh_few packets fresh is = omega (arith, ap length is.are, length-append is.front fresh)

-- the packets of a bag into which more were put
pub packets_after : (old new : Sent) (packets : List Packet) → HasPackets old new packets → All IsPacket packets → map packet_of new.spellings ≡ map packet_of old.spellings ++ packets
packets_after old new packets has fit =
    ap (map packet_of) has.spelt ∙ map-append packet_of old.spellings (map spelling packets) ∙ ap (λ ps. map packet_of old.spellings ++ ps) (map_packet_of-spelling packets fit)

-- they are of the step
pub more_fresh : (old new : Sent) (fresh packets : List Packet) → HasPackets old new packets → All IsPacket packets → IsFresh (map packet_of old.spellings) fresh → IsFresh (map packet_of new.spellings) (fresh ++ packets)
more_fresh old new fresh packets has fit is =
    record {
      front = is.front;
      are = packets_after old new packets has fit ∙ ap (λ ps. ps ++ packets) is.are ∙ append_assoc is.front fresh packets;
    }

-- a bag as it is seen
abbrev pub seen : Sent → List Packet → BagStanding
seen net fresh =
    record { packets = map packet_of net.spellings; lost = net.lost; delivered = net.delivered; before = length net.spellings - length fresh }

-- one into which packets were put
pub sent_so : (old new : Sent) (fresh packets : List Packet) → HasPackets old new packets → All IsPacket packets → IsFresh (map packet_of old.spellings) fresh → IsSent (seen old fresh) (seen new (fresh ++ packets)) packets
sent_so old new fresh packets has fit is =
    let few = fresh_few (map packet_of old.spellings) fresh is in
    record {
      packets_are = packets_after old new packets has fit;
      lost = has.lost_are;
      delivered = has.delivered_are;
      before = omega (arith, few, length-map old.spellings packet_of, length-append fresh packets, ap length has.spelt, length-append old.spellings (map spelling packets), length-map packets spelling);
    }

-- a packet at an index is that of the spelling there
pub packet_there : (spellings : List (List ℕ)) (i : ℕ) (bytes : List ℕ) (packet : Packet) → slice_get spellings i ≡ Some bytes → IsPacket packet → bytes ≡ spelling packet → slice_get (map packet_of spellings) i ≡ Some packet
packet_there spellings i bytes packet at fit spelt =
    slice_get-map packet_of spellings i ∙ ap (option_map packet_of) at ∙ ap (λ b. Some (packet_of b)) spelt ∙ ap (λ p. Some p) (packet_of-spelling packet fit)

-- ---- calls of a bag

-- the number of a packet is that of its spelling
pub numbered_so : (net : Sent) (fresh : List Packet) (bag : BagStanding) (k : ℕ) → seen net fresh ≡ bag → IsNumbered bag k → HasNumber net k
numbered_so net fresh bag k view is =
    record { first = is.first; last = omega (arith, is.last, ap (λ (b : BagStanding). length b.packets) view, length-map net.spellings packet_of) }

-- the spelling of a number from 1
spelling_from : (net : Sent) (k : ℕ) → 1 ≤ k → spelling_at net k ≡ slice_get net.spellings (k - 1)
spelling_from net k first = ap (λ b. cond b None (slice_get net.spellings (k - 1))) (ne_eqb k 0 (λ none. absurd (omega arith)))

-- where a packet goes
pub goes_to : (net : Sent) (k : ℕ) (to : Option Node) → 1 ≤ k → IsTo (spelling_at net k) to → to ≡ option_map (λ (packet : Packet). packet.to) (slice_get (map packet_of net.spellings) (k - 1))
goes_to net k to first is =
    by_spelling (slice_get net.spellings (k - 1)) refl (subst (λ found. IsTo found to) (spelling_from net k first) is)
  where
    by_spelling : (found : Option (List ℕ)) → slice_get net.spellings (k - 1) ≡ found → IsTo found to → to ≡ option_map (λ (packet : Packet). packet.to) (slice_get (map packet_of net.spellings) (k - 1))
    by_spelling None at none =
        let past : slice_get (map packet_of net.spellings) (k - 1) ≡ None = slice_get-map packet_of net.spellings (k - 1) ∙ ap (option_map packet_of) at in
        none ∙ sym (ap (option_map (λ (packet : Packet). packet.to)) past)
    by_spelling (Some bytes) at goes =
        let there = packet_there net.spellings (k - 1) bytes goes.0 at goes.1 goes.2 in
        goes.3 ∙ sym (ap (option_map (λ (packet : Packet). packet.to)) there)

-- what was decoded is the packet
pub decoded_there : (net : Sent) (k : ℕ) (bytes : List ℕ) (packet : Packet) → 1 ≤ k → Some bytes ≡ spelling_at net k → IsPacket packet → bytes ≡ spelling packet → slice_get (map packet_of net.spellings) (k - 1) ≡ Some packet
decoded_there net k bytes packet first at fit spelt =
    packet_there net.spellings (k - 1) bytes packet (sym (at ∙ spelling_from net k first)) fit spelt

-- nothing was put in
pub has_none : (net : Sent) → HasPackets net net []
has_none net = record { spelt = sym (append-nil net.spellings); lost_are = sym (append-nil net.lost); delivered_are = sym (append-nil net.delivered) }

-- one packet more
pub has_more : (old mid new : Sent) (packets : List Packet) (i : ℕ) (packet : Packet) → i < length packets → packet ≡ get_or packets i packet → HasPackets old mid (take i packets) → new ≡ sent_after mid (spelling packet) → HasPackets old new (take (i + 1) packets)
has_more old mid new packets i packet within is has sent =
    let front = take i packets in
    let next : take (i + 1) packets ≡ front ++ packet ∷ [] = take_more packets i packet within ∙ ap (λ p. front ++ p ∷ []) (sym is) in
    let its : HasPackets old (sent_after mid (spelling packet)) (front ++ packet ∷ []) = record {
      spelt = ap (λ ss. ss ++ spelling packet ∷ []) has.spelt ∙ append_assoc old.spellings (map spelling front) (spelling packet ∷ []) ∙ ap (λ ss. old.spellings ++ ss) (sym (map_push spelling front packet));
      lost_are = ap (λ ms. ms ++ false ∷ []) has.lost_are ∙ append_assoc old.lost (map (λ (p : Packet). false) front) (false ∷ []) ∙ ap (λ ms. old.lost ++ ms) (sym (map_push (λ (p : Packet). false) front packet));
      delivered_are = ap (λ ms. ms ++ false ∷ []) has.delivered_are ∙ append_assoc old.delivered (map (λ (p : Packet). false) front) (false ∷ []) ∙ ap (λ ms. old.delivered ++ ms) (sym (map_push (λ (p : Packet). false) front packet));
    } in
    subst (λ n. HasPackets old n (take (i + 1) packets)) (sym sent) (subst (HasPackets old (sent_after mid (spelling packet))) (sym next) its)

-- a bag whose step has sent nothing
pub begun_so : (net : Sent) (fresh none : List Packet) (bag : BagStanding) → seen net fresh ≡ bag → none ≡ [] → seen net none ≡ record bag { before = length bag.packets }
begun_so net fresh none bag view is =
    let all : length net.spellings - 0 ≡ length (map packet_of net.spellings) = omega (arith, length-map net.spellings packet_of) in
    ap (seen net) is ∙ ap (λ n. record (seen net fresh) { before = n }) all ∙ ap (λ (b : BagStanding). record b { before = length b.packets }) view

-- a limit that is reached by a number as far as it is counted
counted_to : (limit total bytes most : ℕ) → limit ≤ most → bytes ≡ min total most → leb limit bytes ≡ leb limit total
counted_to limit total bytes most within is =
    elim (cases_lt total limit) [
      | inl below ↦ lt-leb limit bytes (omega arith) ∙ sym (lt-leb limit total below)
      | inr above ↦ le-leb limit bytes (omega arith) ∙ sym (le-leb limit total above)
    ]

-- a bag of few packets is full where their bytes are many
pub full_by_bytes : (net : Sent) (fresh : List Packet) (bag : BagStanding) (count bytes : ℕ) → seen net fresh ≡ bag → count ≡ length net.spellings → count < bag_limit → bytes ≡ min (sum_by (λ spelling. length spelling) net.spellings) (2 ^ 64 - 1) → All IsSpelling net.spellings → leb byte_limit bytes ≡ (leb bag_limit (length bag.packets) || leb byte_limit (bytes_of bag.packets))
full_by_bytes net fresh bag count bytes view counted few is spelt =
    let roomy : leb bag_limit (length bag.packets) ≡ false = lt-leb bag_limit (length bag.packets) (omega (arith, length-map net.spellings packet_of, ap (λ (b : BagStanding). length b.packets) view)) in
    let total : sum_by (λ spelling. length spelling) net.spellings ≡ bytes_of bag.packets = bytes_are net.spellings spelt ∙ ap (λ (b : BagStanding). bytes_of b.packets) view in
    counted_to byte_limit (sum_by (λ spelling. length spelling) net.spellings) bytes (2 ^ 64 - 1) (lit≤ tt) is ∙ ap (leb byte_limit) total ∙ sym (ap (λ b. b || leb byte_limit (bytes_of bag.packets)) roomy)
