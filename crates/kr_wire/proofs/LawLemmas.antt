-- The laws of spellings.
use Rattle.std.proofs.Common.{◌≡◌, ℕ, ◌*◌, List, [], ◌∷◌, length, refl, sym, ap, ◌∙◌, arith}
use Rattle.std.specs.Prelude.{flat_map, sum_by}
use Rattle.std.proofs.lemmas.List.{append-nil, length-append}
use Rattle.std.proofs.lemmas.List.Sums.{sum_by-cons}
use Rattle.kr_order.specs.declared.history.Command.{Command}
use Rattle.kr_order.specs.declared.history.Command.TheVariants.{Create, Assign, Acquire, Release}
use Rattle.kr_order.specs.declared.history.Entry.{Entry}
use Rattle.kr_order.specs.declared.history.Reply.{Reply}
use Rattle.kr_order.specs.declared.history.Reply.TheVariants.{Created, Assigned, Count, Unknown, Contradicts}
use Rattle.kr_order.specs.declared.view.View.{View}
use Rattle.kr_order.specs.declared.message.Message.{Message}
use Rattle.kr_order.specs.declared.message.Message.TheVariants.{Request, Append, Ack, NewView, Replied, Ask, Answered, Refer, Joined}
use Rattle.kr_order.specs.Size.{command_size, entry_size, entries_size, reply_size, view_size, message_size}
use Rattle.kr_wire.specs.Valid.{IsEntry, IsReply, IsPacket}
use Rattle.kr_wire.specs.Spelling.{in_4, pair_bytes, asked_bytes, command_bytes, entry_bytes, outcome_bytes, reply_bytes, answer_bytes, server_bytes, joiner_number, view_bytes, message_fields, spelling}
use Rattle.kr_wire.specs.Reading.{Read}
use Rattle.kr_wire.specs.Laws.{IsSpeltOnce, ASpellingIsOfOneValue, NoSpellingBeginsAnother, SpellingsAreAsLongAsCounted, TheFirstPacketsAreSpeltSo}
use Rattle.kr_wire.proofs.FieldLemmas.{IsRead, done, ok_is}
use Rattle.kr_wire.proofs.ValueLemmas.{entry_read, reply_read}
use Rattle.kr_wire.proofs.PacketLemmas.{packet_read}

-- what is read in one way is spelt in one way
spelt_once : {item : Type 0} (reader : List ℕ → Read item) (text : item → List ℕ) (Fits : item → Type 0) → IsRead reader text Fits → IsSpeltOnce text Fits
spelt_once {item = item} reader text Fits reads one other rest rest' fit fit' same =
    let both : done {item = item × List ℕ} (one, rest) ≡ done (other, rest') = sym (reads.again one rest fit) ∙ ap reader same ∙ reads.again other rest' fit' in
    let pairs : (one, rest) ≡ (other, rest') = ok_is (one, rest) (other, rest') both in
    (ap (λ (p : item × List ℕ). p.0) pairs, ap (λ (p : item × List ℕ). p.1) pairs)

pub values_are_spelt_once : ASpellingIsOfOneValue
values_are_spelt_once = (spelt_once _ spelling IsPacket packet_read, spelt_once _ entry_bytes IsEntry entry_read, spelt_once _ reply_bytes IsReply reply_read)

pub no_spelling_begins_another : NoSpellingBeginsAnother
no_spelling_begins_another one other rest fit fit' same =
    (values_are_spelt_once.0 one other rest [] fit fit' (same ∙ sym (append-nil (spelling other)))).1

-- ---- lengths

-- items of one length
length-items : {item : Type 0} (text : item → List ℕ) (n : ℕ) → ((x : item) → length (text x) ≡ n) → (items : List item) → length (flat_map text items) ≡ n * length items
length-items text n each [] = omega arith
length-items text n each (x ∷ items) = omega (arith, length-append (text x) (flat_map text items), each x, length-items text n each items)

-- items whose lengths are known
length-sized : {item : Type 0} (text : item → List ℕ) (size : item → ℕ) → ((x : item) → length (text x) ≡ size x) → (items : List item) → length (flat_map text items) ≡ sum_by size items
length-sized text size each [] = refl
length-sized text size each (x ∷ items) = omega (arith, length-append (text x) (flat_map text items), each x, length-sized text size each items, sum_by-cons size x items)

length-command : (command : Command) → length (command_bytes command) ≡ command_size command
length-command Create = refl
length-command (Assign batch) = omega (arith, length-items pair_bytes 17 (λ _. refl) batch)
length-command (Acquire event) = refl
length-command (Release event) = refl

length-entry : (entry : Entry) → length (entry_bytes entry) ≡ entry_size entry
length-entry entry = omega (arith, length-command entry.command)

length-entries : (entries : List Entry) → length (flat_map entry_bytes entries) ≡ entries_size entries
length-entries entries = length-sized entry_bytes entry_size length-entry entries

length-reply : (reply : Reply) → length (reply_bytes reply) ≡ reply_size reply
length-reply (Created event) = refl
length-reply (Assigned outcomes) = omega (arith, length-items outcome_bytes 1 (λ _. refl) outcomes)
length-reply (Count count) = refl
length-reply (Unknown index) = refl
length-reply (Contradicts index) = refl

length-view : (view : View) → length (view_bytes view) ≡ view_size view
length-view view = omega (arith, length-append (flat_map server_bytes view.chain) (in_4 (joiner_number view.joiner)), length-items server_bytes 4 (λ _. refl) view.chain)

length-message : (message : Message) → length (message_fields message) ≡ message_size message
length-message (Request seq command) = omega (arith, length-command command)
length-message (Append first entries) = omega (arith, length-entries entries)
length-message (Ack done len) = refl
length-message (NewView view) = length-view view
length-message (Ask q part pairs) = omega (arith, length-items asked_bytes 16 (λ _. refl) pairs)
length-message (Replied seq placed) = omega (arith, length-reply placed.reply)
length-message (Answered q part told) = omega (arith, length-items answer_bytes 1 (λ _. refl) told.answers)
length-message (Refer q part view) = omega (arith, length-view view)
length-message (Joined joiner) = refl

pub spellings_are_as_long_as_counted : SpellingsAreAsLongAsCounted
spellings_are_as_long_as_counted packet = omega (arith, length-message packet.message)

pub the_first_packets : TheFirstPacketsAreSpeltSo
the_first_packets =
    (refl, refl, record { from = record { above = omega arith; fits = omega arith }; to = record { above = omega arith; fits = omega arith }; message = record { seq_fits = record { above = omega arith; fits = omega arith }; command_fits = tt } }, record { from = record { above = omega arith; fits = omega arith }; to = record { above = omega arith; fits = omega arith }; message = record { seq_fits = record { above = omega arith; fits = omega arith }; placed_fits = record { place = record { above = omega arith; fits = omega arith }; reply = record { above = omega arith; fits = omega arith } } } })
