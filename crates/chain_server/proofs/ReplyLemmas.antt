-- The replies of the newest entries: each client's last one is replied.
use Rattle.std.proofs.Common.{◌≡◌, ℕ, ◌+◌, ◌<◌, ◌≤◌, Bool, true, false, cond, eqb, List, [], ◌∷◌, ◌++◌, length, map, take, drop, get_or, refl, ap, sym, ◌∙◌, subst, arith, append_assoc, length-append, eq-eqb, add-one}
use Rattle.std.specs.Prelude.{reverse, find, Option, None, Some, is_some}
use Rattle.std.specs.Option.{option_map, option_to_list}
use Rattle.std.specs.List.{AllByRecursion}
use Rattle.std.proofs.lemmas.Bool.{eqb-true}
use Rattle.std.proofs.lemmas.Bool.Decides.{nat_tests}
use Rattle.std.proofs.lemmas.List.{append-nil, take-append-drop}
use Rattle.std.proofs.Math.Seq.{drop-cons}
use Rattle.kr_order.specs.declared.ids.ClientId.{ClientId}
use Rattle.kr_order.specs.declared.ids.ServerId.{ServerId}
use Rattle.kr_order.specs.declared.history.Entry.{Entry}
use Rattle.kr_order.specs.declared.history.DoneEntry.{DoneEntry}
use Rattle.kr_order.specs.declared.message.Node.{Node}
use Rattle.kr_order.specs.declared.message.Message.{Message}
use Rattle.kr_order.specs.declared.message.Node.TheVariants.{Client, Server as FromServer}
use Rattle.kr_order.specs.declared.message.Message.TheVariants.{Replied}
use Rattle.kr_order.specs.declared.message.Packet.{Packet}
use Rattle.kr_order.specs.Done.{done_after, done_from, done_of, last_of}
use Rattle.kr_order.proofs.HistoryLemmas.{last_of-push}
use Rattle.kr_protocol.specs.Server.{reply_packet, is_among, lasts}
use Rattle.order_state.specs.declared.kept.Kept.{Kept}
use Rattle.order_state.specs.Kept.{kept_of}
use Rattle.chain_server.specs.Parts.{repeated, reply_if_last}
use Rattle.chain_server.specs.Whole.{IsBackOf}

-- the entry has a later place
abbrev IsLater : ℕ → DoneEntry → Type 0
IsLater place done = place < done.place

places_from : (n : ℕ) (before more : List Entry) → n ≤ length before → AllByRecursion (IsLater n) (done_from before more)
places_from n before [] le = tt
places_from n before (entry ∷ more) le =
    (omega arith, places_from n (before ++ entry ∷ []) more (omega (arith, length-append before (entry ∷ []))))

-- the entries behind one have later places
places_rise : (before more : List Entry) (front : List DoneEntry) (done : DoneEntry) (rest : List DoneEntry) → done_from before more ≡ front ++ done ∷ rest → AllByRecursion (IsLater done.place) rest
places_rise before [] [] done rest is = cc
places_rise before [] (first ∷ front) done rest is = cc
places_rise before (entry ∷ more) [] done rest is =
    let same : done_after before entry ≡ done = cc in
    let place : done.place ≡ length before + 1 = sym (ap (λ (d : DoneEntry). d.place) same) in
    let behind : done_from (before ++ entry ∷ []) more ≡ rest = cc in
    subst (λ dones. AllByRecursion (IsLater done.place) dones) behind (places_from done.place (before ++ entry ∷ []) more (omega (arith, length-append before (entry ∷ []))))
places_rise before (entry ∷ more) (first ∷ front) done rest is =
    let behind : done_from (before ++ entry ∷ []) more ≡ front ++ done ∷ rest = cc in
    places_rise (before ++ entry ∷ []) more front done rest behind

-- the client's last entry is the one behind, if this is the client's
last-pushed : (client : ClientId) (front : List DoneEntry) (next : DoneEntry) (test : Bool) → eqb next.entry.client.0 client.0 ≡ test → last_of client (front ++ next ∷ []) ≡ cond test (Some next) (last_of client front)
last-pushed client front next test is = last_of-push client front next ∙ ap (λ b. cond b (Some next) (last_of client front)) is

-- an entry of the client with a later place hides an earlier one
hidden : (id : ServerId) (client : ClientId) (front rest : List DoneEntry) (done last : DoneEntry) → last_of client front ≡ Some last → done.place < last.place → AllByRecursion (IsLater done.place) rest → reply_if_last id (last_of client (front ++ rest)) done ≡ None
hidden id client front [] done last is later all =
    let other : eqb last.place done.place ≡ false = grind (arith, nat_tests) in
    ap (λ dones. reply_if_last id (last_of client dones) done) (append-nil front) ∙ ap (λ o. reply_if_last id o done) is ∙ ap (λ b. cond b (Some (reply_packet id last)) None) other
hidden id client front (next ∷ rest) done last is later all =
    ap (λ dones. reply_if_last id (last_of client dones) done) (sym (append_assoc front (next ∷ []) rest)) ∙ by_test (eqb next.entry.client.0 client.0) refl (λ newer shows after. hidden id client (front ++ next ∷ []) rest done newer shows after all.1)
  where
    by_test : (test : Bool) → eqb next.entry.client.0 client.0 ≡ test → ((newer : DoneEntry) → last_of client (front ++ next ∷ []) ≡ Some newer → done.place < newer.place → reply_if_last id (last_of client ((front ++ next ∷ []) ++ rest)) done ≡ None) → reply_if_last id (last_of client ((front ++ next ∷ []) ++ rest)) done ≡ None
    by_test true same on = on next (last-pushed client front next true same) all.0
    by_test false other on = on last (last-pushed client front next false other ∙ is) later

-- the client's entry is replied where no later one is the client's
shown : (id : ServerId) (client : ClientId) (front rest : List DoneEntry) (done : DoneEntry) → last_of client front ≡ Some done → AllByRecursion (IsLater done.place) rest → reply_if_last id (last_of client (front ++ rest)) done ≡ cond (is_among client rest) None (Some (reply_packet id done))
shown id client front [] done is all =
    ap (λ dones. reply_if_last id (last_of client dones) done) (append-nil front) ∙ ap (λ o. reply_if_last id o done) is ∙ ap (λ b. cond b (Some (reply_packet id done)) None) (eq-eqb done.place done.place refl)
shown id client front (next ∷ rest) done is all =
    ap (λ dones. reply_if_last id (last_of client dones) done) (sym (append_assoc front (next ∷ []) rest)) ∙ by_test (eqb next.entry.client.0 client.0) refl (λ shows. shown id client (front ++ next ∷ []) rest done shows all.1)
  where
    by_test : (test : Bool) → eqb next.entry.client.0 client.0 ≡ test → (last_of client (front ++ next ∷ []) ≡ Some done → reply_if_last id (last_of client ((front ++ next ∷ []) ++ rest)) done ≡ cond (is_among client rest) None (Some (reply_packet id done))) → reply_if_last id (last_of client ((front ++ next ∷ []) ++ rest)) done ≡ cond (is_some (cond test (Some next) (find (λ d. eqb d.entry.client.0 client.0) rest))) None (Some (reply_packet id done))
    by_test true same on = hidden id client (front ++ next ∷ []) rest done next (last-pushed client front next true same) all.0 all.1
    by_test false other on = on (last-pushed client front next false other ∙ is)

-- one entry more of the newest
pub lasts_next : (id : ServerId) (history : List Entry) (newest : List DoneEntry) (i : ℕ) (d : DoneEntry) → IsBackOf (done_of history) newest → i < length newest → option_to_list (reply_if_last id (last_of (get_or newest i d).entry.client (done_of history)) (get_or newest i d)) ++ map (reply_packet id) (lasts (drop (i + 1) newest)) ≡ map (reply_packet id) (lasts (drop i newest))
lasts_next id history newest i d back below =
    let done = get_or newest i d in
    let client = done.entry.client in
    let rest = drop (i + 1) newest in
    let front = back.front ++ take i newest in
    let split : drop i newest ≡ done ∷ rest = rw (add-one) (drop-cons newest i d below) in
    let parts : newest ≡ take i newest ++ done ∷ rest = sym (take-append-drop i newest) ∙ ap (λ dones. take i newest ++ dones) split in
    let whole : done_of history ≡ front ++ done ∷ rest = back.is ∙ ap (λ dones. back.front ++ dones) parts ∙ sym (append_assoc back.front (take i newest) (done ∷ rest)) in
    let later : AllByRecursion (IsLater done.place) rest = places_rise [] history front done rest whole in
    let own : last_of client (front ++ done ∷ []) ≡ Some done = last_of-push client front done ∙ ap (λ b. cond b (Some done) (last_of client front)) (eq-eqb client.0 client.0 refl) in
    let reply : reply_if_last id (last_of client (done_of history)) done ≡ cond (is_among client rest) None (Some (reply_packet id done)) = ap (λ dones. reply_if_last id (last_of client dones) done) (whole ∙ sym (append_assoc front (done ∷ []) rest)) ∙ shown id client (front ++ done ∷ []) rest done own later in
    ap (λ o. option_to_list o ++ map (reply_packet id) (lasts rest)) reply ∙ join (is_among client rest) done rest ∙ ap (λ dones. map (reply_packet id) (lasts dones)) (sym split)
  where
    join : (among : Bool) (done : DoneEntry) (rest : List DoneEntry) → option_to_list (cond among None (Some (reply_packet id done))) ++ map (reply_packet id) (lasts rest) ≡ map (reply_packet id) (cond among (lasts rest) (done ∷ lasts rest))
    join true done rest = refl
    join false done rest = refl

-- the client's last entry is the client's
last_is_own : (client : ClientId) (dones : List DoneEntry) (last : DoneEntry) → find (λ d. eqb d.entry.client.0 client.0) dones ≡ Some last → last.entry.client ≡ client
last_is_own client [] last found = cc
last_is_own client (done ∷ more) last found = by_test (eqb done.entry.client.0 client.0) refl found (last_is_own client more last)
  where
    by_test : (test : Bool) → eqb done.entry.client.0 client.0 ≡ test → cond test (Some done) (find (λ d. eqb d.entry.client.0 client.0) more) ≡ Some last → (find (λ d. eqb d.entry.client.0 client.0) more ≡ Some last → last.entry.client ≡ client) → last.entry.client ≡ client
    by_test true same found on =
        let is : done ≡ last = cc in
        let number : done.entry.client.0 ≡ client.0 = eqb-true done.entry.client.0 client.0 same in
        subst (λ (d : DoneEntry). d.entry.client ≡ client) is (ap (λ n. record { 0 = n }) number)
    by_test false other found on = on found

abbrev packet_of : Node → Node → Message → Packet
packet_of from to message = record { from = from; to = to; message = message }

-- the packet with what is kept of an entry is its reply
kept_reply : (id : ServerId) (client : ClientId) (last : DoneEntry) (kept : Kept) (packet : Packet) → last.entry.client ≡ client → kept ≡ kept_of last → packet.from ≡ FromServer id → packet.to ≡ Client client → packet.message ≡ Replied kept.seq (record { place = kept.place; reply = kept.reply }) → packet ≡ reply_packet id last
kept_reply id client last kept packet own is from to message =
    let says : packet.message ≡ Replied last.entry.seq (record { place = last.place; reply = last.reply }) = message ∙ ap (λ (k : Kept). Replied k.seq (record { place = k.place; reply = k.reply })) is in
    ap (λ node. packet_of node packet.to packet.message) from ∙ ap (λ node. packet_of (FromServer id) node packet.message) (to ∙ ap Client (sym own)) ∙ ap (packet_of (FromServer id) (Client last.entry.client)) says

-- what is kept of the client's last entry
abbrev pub IsKeptLast : ClientId → List DoneEntry → Kept → Type 0
IsKeptLast client dones kept = Some kept ≡ option_map kept_of (last_of client dones)

-- it is replied where it has this number
pub repeated-kept : (id : ServerId) (client : ClientId) (dones : List DoneEntry) (seq : ℕ) (kept : Kept) (packet : Packet) → IsKeptLast client dones kept → kept.seq ≡ seq → packet.from ≡ FromServer id → packet.to ≡ Client client → packet.message ≡ Replied kept.seq (record { place = kept.place; reply = kept.reply }) → Some packet ≡ repeated id (last_of client dones) seq
repeated-kept id client dones seq kept packet is same from to message = by_last (last_of client dones) refl
  where
    by_last : (o : Option DoneEntry) → last_of client dones ≡ o → Some packet ≡ repeated id o seq
    by_last None none = let never : Some kept ≡ None = is ∙ ap (option_map kept_of) none in cc
    by_last (Some last) found =
        let some : Some kept ≡ Some (kept_of last) = is ∙ ap (option_map kept_of) found in
        let kept_is : kept ≡ kept_of last = cc in
        let packet_is : packet ≡ reply_packet id last = kept_reply id client last kept packet (last_is_own client (reverse dones) last found) kept_is from to message in
        let test : eqb last.entry.seq seq ≡ true = eq-eqb last.entry.seq seq (sym (ap (λ (k : Kept). k.seq) kept_is) ∙ same) in
        ap Some packet_is ∙ sym (ap (λ b. cond b (Some (reply_packet id last)) None) test)

-- and where it has the place of the entry
pub reply_if_last-kept : (id : ServerId) (client : ClientId) (dones : List DoneEntry) (done : DoneEntry) (kept : Kept) (packet : Packet) → IsKeptLast client dones kept → kept.place ≡ done.place → packet.from ≡ FromServer id → packet.to ≡ Client client → packet.message ≡ Replied kept.seq (record { place = kept.place; reply = kept.reply }) → Some packet ≡ reply_if_last id (last_of client dones) done
reply_if_last-kept id client dones done kept packet is same from to message = by_last (last_of client dones) refl
  where
    by_last : (o : Option DoneEntry) → last_of client dones ≡ o → Some packet ≡ reply_if_last id o done
    by_last None none = let never : Some kept ≡ None = is ∙ ap (option_map kept_of) none in cc
    by_last (Some last) found =
        let some : Some kept ≡ Some (kept_of last) = is ∙ ap (option_map kept_of) found in
        let kept_is : kept ≡ kept_of last = cc in
        let packet_is : packet ≡ reply_packet id last = kept_reply id client last kept packet (last_is_own client (reverse dones) last found) kept_is from to message in
        let test : eqb last.place done.place ≡ true = eq-eqb last.place done.place (sym (ap (λ (k : Kept). k.place) kept_is) ∙ same) in
        ap Some packet_is ∙ sym (ap (λ b. cond b (Some (reply_packet id last)) None) test)
