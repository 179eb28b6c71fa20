-- What holds a pass together stays while its reader learns.
use Rattle.std.proofs.Common.{◌≡◌, ◌⊎◌, inl, inr, ℕ, ◌+◌, ◌≤◌, Bool, true, List, [], ◌∷◌, ◌++◌, length, Option, None, Some, Result, Ok, Err, IfSome, IfOk, OnOk, OnErr, sym, ap, ◌∙◌, subst, arith}
use Rattle.std.proofs.lemmas.List.{length_push}
use Rattle.logbook.specs.Pages.{Book}
use Rattle.atomic_table.specs.Seated.{TableId}
use Rattle.kr_order.specs.declared.ids.NoMemory.{NoMemory}
use Rattle.kr_order.specs.declared.history.Command.{Command}
use Rattle.kr_order.specs.declared.history.Entry.{Entry}
use Rattle.kr_order.specs.declared.history.Placed.{Placed}
use Rattle.kr_order.specs.declared.ids.ClientId.{ClientId}
use Rattle.kr_order.specs.Prefix.{IsPrefix}
use Rattle.replica_lock.specs.Views.{SeatView}
use Rattle.order_board.specs.Views.{NoteView, ReaderView}
use Rattle.live_service.specs.declared.name.CopiesName.{CopiesName}
use Rattle.live_service.specs.Views.{BehindView, PassView, mark_of, named}
use Rattle.live_service.specs.Own.{entry_of, HasAtLeast}
use Rattle.live_service.specs.Commands.{Adds, Fails, IsHeld, IsPass, LetsGo, pass_view, placed_after}
use Rattle.live_service.proofs.KnownLemmas.{knows_longer}
use Rattle.kr_order.proofs.PrefixLemmas.{IsPrefix-refl}
use Rattle.live_service.proofs.OwnLemmas.{at_least_longer, at_least_push}

-- the reader knows more than before
pub reads_on : (client : ClientId) (seat : SeatView CopiesName) (old new : ReaderView) (mark : Option NoteView)
    → IsPass client seat old mark → new.copies ≡ old.copies → IsPrefix old.list new.list → IsPass client seat new mark
reads_on client seat old new mark is copies longer =
    record {
      idle = is.idle;
      one = is.one;
      name = is.name ∙ ap named (sym copies);
      note = subst (λ book. IfSome mark (λ note. note.copies ≡ book)) (sym copies) is.note;
      commands = at_least_longer client seat.gives old.list new.list longer is.commands;
    }

-- a query leaves its reader with the same copies
pub copies_stay : {P : Type 0} (old new : ReaderView) (shuts : ℕ) → P ⊎ (new ≡ record old { list = new.list })
    → (P → new ≡ record old { shuts = shuts }) → new.copies ≡ old.copies
copies_stay old new shuts (inl shut) rest = ap (λ r. r.copies) (rest shut)
copies_stay old new shuts (inr is) rest = ap (λ r. r.copies) is

-- a seat that took the turn, and gave it back
pub record Held (seat held : SeatView CopiesName) (reader knows : ReaderView) : Type 0 where
  pub seat_is : held ≡ record seat { empties = held.empties; seen = held.seen; holds = held.holds }
  pub empties : seat.empties ≤ held.empties
  pub reader_is : knows ≡ record reader { list = knows.list }
  pub begins : IsPrefix reader.list knows.list

-- a pass whose command was answered is held together
pub pass_after : (client : ClientId) (seat held given : SeatView CopiesName) (reader knows told : ReaderView) (mark : Option NoteView)
    (command : Command) (placed : Placed) (note : NoteView) → IsPass client seat reader mark → Held seat held reader knows
    → Adds held given knows told (entry_of client (seat.gives + 1) command) placed note → IsPass client given told (Some note)
pass_after client seat held given reader knows told mark command placed note is took adds =
    let gives : given.gives ≡ seat.gives + 1 = ap (λ s. s.gives) adds.given ∙ ap (λ s. s.gives + 1) took.seat_is in
    let copies : told.copies ≡ reader.copies = ap (λ r. r.copies) adds.known ∙ ap (λ r. r.copies) took.reader_is in
    let commands = at_least_push client seat.gives knows.list command (at_least_longer client seat.gives reader.list knows.list
    took.begins is.commands) in
    record {
      idle = ap (λ s. s.holds) adds.given;
      one = ap (λ s. s.parts) adds.given ∙ ap (λ s. s.parts) took.seat_is ∙ is.one;
      name = ap (λ s. s.name) adds.given ∙ ap (λ s. s.name) took.seat_is ∙ is.name ∙ ap named (sym copies);
      note = ap (λ n. n.copies) adds.note_is ∙ sym (ap (λ r. r.copies) adds.known);
      commands = subst (λ n. HasAtLeast client n told.list) (sym gives)
          (subst (HasAtLeast client (seat.gives + 1)) (sym (ap (λ r. r.list) adds.known)) commands);
    }

-- and so is one whose command found no memory
pub pass_without : (client : ClientId) (seat held given : SeatView CopiesName) (reader knows told : ReaderView) (mark : Option NoteView)
    → IsPass client seat reader mark → Held seat held reader knows → LetsGo held given knows told → IsPass client given told mark
pass_without client seat held given reader knows told mark is took went =
    let gives : given.gives ≡ seat.gives = ap (λ s. s.gives) went.given ∙ ap (λ s. s.gives) took.seat_is in
    let copies : told.copies ≡ reader.copies = ap (λ r. r.copies) went.known ∙ ap (λ r. r.copies) took.reader_is in
    let longer : IsPrefix reader.list told.list = subst (IsPrefix reader.list) (sym (ap (λ r. r.list) went.known)) took.begins in
    record {
      idle = ap (λ s. s.holds) went.given;
      one = ap (λ s. s.parts) went.given ∙ ap (λ s. s.parts) took.seat_is ∙ is.one;
      name = ap (λ s. s.name) went.given ∙ ap (λ s. s.name) took.seat_is ∙ is.name ∙ ap named (sym copies);
      note = subst (λ book. IfSome mark (λ note. note.copies ≡ book)) (sym copies) is.note;
      commands = subst (λ n. HasAtLeast client n told.list) (sym gives)
          (at_least_longer client seat.gives reader.list told.list longer is.commands);
    }

-- what giving the turn back with an entry more does to seat and reader
pub adds_so : (table : TableId) (seat given : SeatView CopiesName) (reader told : ReaderView) (behind after : BehindView) (entry : Entry)
    (note : NoteView) (result : Result Placed NoMemory) → IsHeld table seat reader behind
    → OnOk result (after ≡ record behind { list = behind.list ++ entry ∷ [] })
    → IfOk result (λ placed. placed ≡ placed_after behind.list entry) → note ≡ record { list = after.list; copies = after.copies }
    → (told.list ≡ reader.list) ⊎ (told.list ≡ note.list) → IsPrefix note.list told.list → told ≡ record reader { list = told.list }
    → given ≡ record seat { gives = given.gives; seen = length after.list; holds = None }
    → IfSome seat.holds (λ count. given.gives + count ≡ seat.gives + length after.list)
    → IfOk result (λ placed. Adds seat given reader told entry placed note)
adds_so table seat given reader told behind after entry note (Err _) held grown placed noted one begins rest gave gives = tt
adds_so table seat given reader told behind after entry note (Ok placed) held grown placed_is noted one begins rest gave gives =
    let list : after.list ≡ reader.list ++ entry ∷ [] = ap (λ b. b.list) grown ∙ ap (λ l. l ++ entry ∷ []) held.list in
    let copies : after.copies ≡ reader.copies = ap (λ b. b.copies) grown ∙ held.copies in
    let note_list : note.list ≡ reader.list ++ entry ∷ [] = ap (λ n. n.list) noted ∙ list in
    let note_copies : note.copies ≡ reader.copies = ap (λ n. n.copies) noted ∙ copies in
    let longer : length reader.list ≤ length note.list = omega (arith, ap length note_list, length_push reader.list entry) in
    let known : told.list ≡ reader.list ++ entry ∷ [] = knows_longer reader.list note.list told.list one begins longer ∙ note_list in
    let count : given.gives + length behind.list ≡ seat.gives + length after.list = subst
    (λ h. IfSome h (λ count. given.gives + count ≡ seat.gives + length after.list)) held.holds gives in
    let gives_is : given.gives ≡ seat.gives + 1 = omega (arith, count, ap length (ap (λ b. b.list) grown), length_push behind.list entry) in
    let seat_of : ℕ → SeatView CopiesName = λ n. record seat { gives = n; seen = given.seen; holds = None } in
    let seen : given.seen ≡ length after.list = ap (λ s. s.seen) gave in
    record {
      given = cc;
      known = cc;
      told = placed_is ∙ ap (λ l. placed_after l entry) held.list;
      note_is = cc;
    }

-- and with none
pub lets_go_so : (table : TableId) (seat given : SeatView CopiesName) (reader told : ReaderView) (behind after : BehindView)
    (note : NoteView) (result : Result Placed NoMemory) → IsHeld table seat reader behind
    → OnErr result (after ≡ record behind { failed = true }) → note ≡ record { list = after.list; copies = after.copies }
    → (told.list ≡ reader.list) ⊎ (told.list ≡ note.list) → told ≡ record reader { list = told.list }
    → given ≡ record seat { gives = given.gives; seen = length after.list; holds = None }
    → IfSome seat.holds (λ count. given.gives + count ≡ seat.gives + length after.list) → OnErr result (LetsGo seat given reader told)
lets_go_so table seat given reader told behind after note (Ok _) held same noted one rest gave gives = tt
lets_go_so table seat given reader told behind after note (Err _) held same noted one rest gave gives =
    let list : after.list ≡ behind.list = ap (λ b. b.list) same in
    let note_list : note.list ≡ reader.list = ap (λ n. n.list) noted ∙ list ∙ held.list in
    let known : told.list ≡ reader.list = by_either one note_list in
    let count : given.gives + length behind.list ≡ seat.gives + length after.list = subst
    (λ h. IfSome h (λ count. given.gives + count ≡ seat.gives + length after.list)) held.holds gives in
    let gives_is : given.gives ≡ seat.gives = omega (arith, count, ap length list) in
    let seen : given.seen ≡ length after.list = ap (λ s. s.seen) gave in
    let reader_of : List Entry → ReaderView = λ l. record reader { list = l } in
    record { given = cc; known = rest ∙ ap reader_of known }
  where
    by_either : {old new noted : List Entry} → (new ≡ old) ⊎ (new ≡ noted) → noted ≡ old → new ≡ old
    by_either (inl is) same = is
    by_either (inr is) same = is ∙ same

-- a seat that waited for the turn, took it, and gave it back as it was
pub gave_back : (first now held given : SeatView CopiesName) (count : ℕ) → first.holds ≡ None
    → now ≡ record first { empties = now.empties; seen = now.seen }
    → held ≡ record now { empties = held.empties; seen = count; holds = Some count }
    → given ≡ record held { gives = given.gives; seen = count; holds = None }
    → IfSome held.holds (λ k. given.gives + k ≡ held.gives + count) → given ≡ record first { empties = given.empties; seen = given.seen }
gave_back first now held given count idle waited took gave gives =
    let count_is : given.gives + count ≡ held.gives + count = subst (λ h. IfSome h (λ k. given.gives + k ≡ held.gives + count))
    (ap (λ s. s.holds) took) gives in
    let kept : given.gives ≡ held.gives = omega (arith, count_is) in
    let table' : held.table ≡ first.table = ap (λ s. s.table) took ∙ ap (λ s. s.table) waited in
    let name' : held.name ≡ first.name = ap (λ s. s.name) took ∙ ap (λ s. s.name) waited in
    let parts' : held.parts ≡ first.parts = ap (λ s. s.parts) took ∙ ap (λ s. s.parts) waited in
    let gives' : given.gives ≡ first.gives = kept ∙ ap (λ s. s.gives) took ∙ ap (λ s. s.gives) waited in
    let empties' : held.empties ≡ given.empties = sym (ap (λ s. s.empties) gave) in
    let seen' : count ≡ given.seen = sym (ap (λ s. s.seen) gave) in
    let f : TableId → CopiesName → ℕ → ℕ → ℕ → ℕ → Option ℕ → SeatView CopiesName = λ t n p g e s h. record
    { table = t; name = n; parts = p; gives = g; empties = e; seen = s; holds = h } in
    gave
    ∙ ap (λ t. f t held.name held.parts given.gives held.empties count None) table'
    ∙ ap (λ n. f first.table n held.parts given.gives held.empties count None) name'
    ∙ ap (λ p. f first.table first.name p given.gives held.empties count None) parts'
    ∙ ap (λ g. f first.table first.name first.parts g held.empties count None) gives'
    ∙ ap (λ e. f first.table first.name first.parts first.gives e count None) empties'
    ∙ ap (λ s. f first.table first.name first.parts first.gives given.empties s None) seen'
    ∙ ap (λ h. f first.table first.name first.parts first.gives given.empties given.seen h) (sym idle)

-- a reader that learnt twice
pub learnt_on : (old now new : ReaderView) → now ≡ record old { list = now.list } → new ≡ record now { list = new.list }
    → new ≡ record old { list = new.list }
learnt_on old now new first then =
    let f : ℕ → Book → ReaderView = λ s b. record { list = new.list; shuts = s; copies = b } in
    then ∙ ap (λ s. f s now.copies) (ap (λ r. r.shuts) first) ∙ ap (f old.shuts) (ap (λ r. r.copies) first)

-- a seat that tried the turn and took it, and held it then, or once more
pub took_on : (seat taken held : SeatView CopiesName) (reader knows : ReaderView) (count : ℕ)
    → taken ≡ record seat { seen = count; holds = Some count }
    → held ≡ record taken { empties = held.empties; seen = held.seen; holds = held.holds } → taken.empties ≤ held.empties
    → knows ≡ record reader { list = knows.list } → IsPrefix reader.list knows.list → Held seat held reader knows
took_on seat taken held reader knows count took on more learnt begins =
    let f : TableId → CopiesName → ℕ → ℕ → SeatView CopiesName = λ t n p g. record
    { table = t; name = n; parts = p; gives = g; empties = held.empties; seen = held.seen; holds = held.holds } in
    record {
      seat_is =
          on
          ∙ ap (λ t. f t taken.name taken.parts taken.gives) (ap (λ s. s.table) took)
          ∙ ap (λ n. f seat.table n taken.parts taken.gives) (ap (λ s. s.name) took)
          ∙ ap (λ p. f seat.table seat.name p taken.gives) (ap (λ s. s.parts) took)
          ∙ ap (λ g. f seat.table seat.name seat.parts g) (ap (λ s. s.gives) took);
      empties = omega (arith, more, ap (λ s. s.empties) took);
      reader_is = learnt;
      begins = begins;
    }

-- a pass whose command has an answer is held together
pub answered : (client : ClientId) (seat held given : SeatView CopiesName) (reader knows told : ReaderView) (mark : Option NoteView)
    (command : Command) (entry : Entry) (result : Result Placed NoMemory) (placed : Placed) (note : NoteView)
    → IsPass client seat reader mark → Held seat held reader knows → IfOk result (λ placed. Adds held given knows told entry placed note)
    → result ≡ Ok placed → entry ≡ entry_of client (seat.gives + 1) command → IsPass client given told (Some note)
answered client seat held given reader knows told mark command entry result placed note is took adds found next =
    let here : Adds held given knows told entry placed note = subst (λ r. IfOk r (λ placed. Adds held given knows told entry placed note))
    found adds in
    pass_after client seat held given reader knows told mark command placed note is took
    (subst (λ e. Adds held given knows told e placed note) next here)

-- and so is one whose command has none
pub unanswered : (client : ClientId) (seat held given : SeatView CopiesName) (reader knows told : ReaderView) (mark : Option NoteView)
    (result : Result Placed NoMemory) (stop : NoMemory) → IsPass client seat reader mark → Held seat held reader knows
    → OnErr result (LetsGo held given knows told) → result ≡ Err stop → IsPass client given told mark
unanswered client seat held given reader knows told mark result stop is took goes found =
    pass_without client seat held given reader knows told mark is took (subst (λ r. OnErr r (LetsGo held given knows told)) found goes)

-- a pass that has found no memory before: it gave the turn back as it was
pub refused : (client : ClientId) (seat taken given : SeatView CopiesName) (reader : ReaderView) (mark : Option NoteView) (failed : Bool)
    (count : ℕ) → failed ≡ true → taken ≡ record seat { seen = count; holds = Some count }
    → given ≡ record taken { gives = given.gives; seen = count; holds = None }
    → IfSome taken.holds (λ k. given.gives + k ≡ taken.gives + count)
    → Fails (pass_view client seat reader mark failed) (pass_view client given reader mark failed)
refused client seat taken given reader mark failed count stopped took gave gives =
    let count_is : given.gives + count ≡ taken.gives + count = subst (λ h. IfSome h (λ k. given.gives + k ≡ taken.gives + count))
    (ap (λ s. s.holds) took) gives in
    let kept : given.gives ≡ taken.gives = omega (arith, count_is) in
    let made : given.gives ≡ seat.gives = kept ∙ ap (λ s. s.gives) took in
    let table' : given.table ≡ seat.table = ap (λ s. s.table) gave ∙ ap (λ s. s.table) took in
    let name' : given.name ≡ seat.name = ap (λ s. s.name) gave ∙ ap (λ s. s.name) took in
    let empties' : given.empties ≡ seat.empties = ap (λ s. s.empties) gave ∙ ap (λ s. s.empties) took in
    let f : TableId → CopiesName → ℕ → Bool → PassView = λ t n m b. record {
      client = client;
      known = reader.list;
      mark = mark_of mark;
      made = m;
      failed = b;
      shuts = reader.shuts;
      empties = given.empties;
      service = record { table = t; copies = n };
    } in
    record {
      begins = IsPrefix-refl reader.list;
      empties = omega (arith, empties');
      rest =
          ap (λ t. f t given.name given.gives failed) table'
          ∙ ap (λ n. f seat.table n given.gives failed) name'
          ∙ ap (λ m. f seat.table seat.name m failed) made
          ∙ ap (f seat.table seat.name seat.gives) stopped;
    }
