-- What a command does to its pass, and how a pass is held together.
use Rattle.std.specs.Prelude.{◌≡◌, ◌<◌, ◌≤◌, ◌+◌, ◌^◌, ◌∷◌, ◌++◌, ℕ, Bool, true, false, List, [], length, Option, Some, None, IfSome, Result, Ok, Err}
use Rattle.atomic_table.specs.Seated.{TableId}
use Rattle.kr_order.specs.declared.ids.ClientId.{ClientId}
use Rattle.kr_order.specs.declared.history.Command.{Command}
use Rattle.kr_order.specs.declared.history.Command.TheVariants.{Create, Assign, Acquire, Release}
use Rattle.kr_order.specs.declared.history.Entry.{Entry}
use Rattle.kr_order.specs.declared.history.Placed.{Placed}
use Rattle.kr_order.specs.declared.history.Reply.{Reply}
use Rattle.kr_order.specs.declared.history.Reply.TheVariants.{Created, Assigned, Count, Unknown, Contradicts}
use Rattle.kr_order.specs.Prefix.{IsPrefix}
use Rattle.kr_order.specs.Reply.{reply_to}
use Rattle.replica_lock.specs.Views.{SeatView}
use Rattle.order_board.specs.Views.{NoteView, ReaderView}
use Rattle.live_service.specs.declared.name.CopiesName.{CopiesName}
use Rattle.live_service.specs.declared.command.TryStop.{TryStop}
use Rattle.live_service.specs.declared.command.TryStop.TheVariants.{Busy, NoMemory}
use Rattle.live_service.specs.Views.{PassView, BehindView, named, mark_of}
use Rattle.live_service.specs.Own.{entry_of, HasAtLeast}

-- what an entry is told that comes after this history
abbrev pub placed_after : List Entry → Entry → Placed
placed_after history entry = record { place = length history + 1; reply = reply_to history entry.command }

-- the pass's next command
abbrev pub next_of : PassView → Command → Entry
next_of pass command = entry_of pass.client (pass.made + 1) command

-- the command was put behind a history that begins with all that the pass was told of; the pass was told of that history
-- and of its command, of which it was told place and reply
pub record Commands (old new : PassView) (command : Command) (placed : Placed) : Type 0 where
  pub before : List Entry
  pub begins : IsPrefix old.known before
  pub known : new.known ≡ before ++ next_of old command ∷ []
  pub told : placed ≡ placed_after before (next_of old command)
  pub mark : new.mark ≡ new.known
  pub made : new.made ≡ old.made + 1
  pub empties : old.empties ≤ new.empties
  pub rest : new ≡ record old {
    known = new.known;
    mark = new.mark;
    made = new.made;
    empties = new.empties;
  }

-- the command found no memory: the history is as before, of which the pass was told, and no later command of it is answered
pub record Fails (old new : PassView) : Type 0 where
  pub begins : IsPrefix old.known new.known
  pub empties : old.empties ≤ new.empties
  pub rest : new ≡ record old { known = new.known; failed = true; empties = new.empties }

-- what is told of a command that was tried
abbrev pub Tries : PassView → PassView → Command → Result Placed TryStop → Type 0
Tries old new command (Ok placed) = Commands old new command placed × (old.failed ≡ false)
Tries old new command (Err (Busy back)) = (back ≡ command) × (new ≡ record old { empties = old.empties + 1 })
Tries old new command (Err NoMemory) = Fails old new

-- the seat holds the turn with this history, all of which the reader knows
pub record IsHeld (table : TableId) (seat : SeatView CopiesName) (reader : ReaderView) (behind : BehindView) : Type 0 where
  pub turn : seat.table ≡ table
  pub name : seat.name ≡ named behind.copies
  pub holds : seat.holds ≡ Some (length behind.list)
  pub copies : behind.copies ≡ reader.copies
  pub list : behind.list ≡ reader.list
  pub count : length behind.list < 2 ^ 58

-- the seat gave the turn back with the entry behind what the reader knew, and the reader knows it
pub record Adds (seat seat' : SeatView CopiesName) (reader reader' : ReaderView) (entry : Entry) (placed : Placed)
    (note : NoteView) : Type 0 where
  pub given : seat' ≡ record seat { gives = seat.gives + 1; seen = seat'.seen; holds = None }
  pub known : reader' ≡ record reader { list = reader.list ++ entry ∷ [] }
  pub told : placed ≡ placed_after reader.list entry
  pub note_is : note ≡ record { list = reader.list ++ entry ∷ []; copies = reader.copies }

-- the seat gave the turn back with the history as it was
pub record LetsGo (seat seat' : SeatView CopiesName) (reader reader' : ReaderView) : Type 0 where
  pub given : seat' ≡ record seat { seen = seat'.seen; holds = None }
  pub known : reader' ≡ reader

-- what contracts see of a pass with this seat, reader and note
abbrev pub pass_view : ClientId → SeatView CopiesName → ReaderView → Option NoteView → Bool → PassView
pass_view client seat reader mark failed = record {
  client = client;
  known = reader.list;
  mark = mark_of mark;
  made = seat.gives;
  failed = failed;
  shuts = reader.shuts;
  empties = seat.empties;
  service = record { table = seat.table; copies = seat.name };
}

-- how seat, reader and note lie in a pass: the seat is one of the turn and does not hold it, all are of the same copies, and
-- the commands that were answered stand in what the pass was told of
pub record IsPass (client : ClientId) (seat : SeatView CopiesName) (reader : ReaderView) (mark : Option NoteView) : Type 0 where
  pub idle : seat.holds ≡ None
  pub one : seat.parts ≡ 1
  pub name : seat.name ≡ named reader.copies
  pub note : IfSome mark (λ note. note.copies ≡ reader.copies)
  pub commands : HasAtLeast client seat.gives reader.list

-- the seat of a pass: one of the turn, which it does not hold
pub record IsSeatOf (pass : PassView) (seat : SeatView CopiesName) : Type 0 where
  pub table : seat.table ≡ pass.service.table
  pub name : seat.name ≡ pass.service.copies
  pub idle : seat.holds ≡ None
  pub one : seat.parts ≡ 1
  pub gives : seat.gives ≡ pass.made

-- there is room for so many outcomes
abbrev pub HasRoom : ℕ → Reply → Type 0
HasRoom room (Created event) = Unit {0}
HasRoom room (Assigned outcomes) = length outcomes ≤ room
HasRoom room (Count count) = Unit {0}
HasRoom room (Unknown index) = Unit {0}
HasRoom room (Contradicts index) = Unit {0}

-- how many outcomes the reply to the command may have
abbrev pub outcomes_in : Command → ℕ
outcomes_in Create = 0
outcomes_in (Assign batch) = length batch
outcomes_in (Acquire event) = 0
outcomes_in (Release event) = 0
