-- What contracts see of a service, of its passes, and of what lies behind its turn.
use Rattle.std.specs.Prelude.{◌+◌, ◌-◌, ℕ, Bool, false, List, [], Option, None, Some}
use Rattle.logbook.specs.Pages.{Book}
use Rattle.atomic_table.specs.Seated.{TableId}
use Rattle.kr_order.specs.declared.ids.ClientId.{ClientId}
use Rattle.kr_order.specs.declared.history.Entry.{Entry}
use Rattle.order_board.specs.Views.{NoteView}
use Rattle.live_service.specs.declared.name.CopiesName.{CopiesName}

-- the name of the copies with this log
abbrev pub named : Book → CopiesName
named book = record { number = book.number; log_name = book.log_name; cells_name = book.cells_name }

-- what lies behind the turn: the history, and whether a call found no memory
pub record BehindView : Type 0 where
  pub list : List Entry
  pub failed : Bool
  pub copies : Book

-- which service it is: its turn, and its copies
pub record ServiceId : Type 0 where
  pub table : TableId
  pub copies : CopiesName

-- a service, and how many passes it was made with
pub record ServiceView : Type 0 where
  pub id : ServiceId
  pub passes : ℕ

-- a pass: its client; the beginning of the history that it was told of; the beginning that its last command left, which is
-- empty before any; how many of its commands were answered; whether one of them found no memory; how often its reader was
-- shut out, and how often it found the turn taken; and which service it is of
pub record PassView : Type 0 where
  pub client : ClientId
  pub known : List Entry
  pub mark : List Entry
  pub made : ℕ
  pub failed : Bool
  pub shuts : ℕ
  pub empties : ℕ
  pub service : ServiceId

-- the passes that are still to be taken, of how many
pub record PassesView : Type 0 where
  pub passes : ℕ
  pub left : ℕ
  pub service : ServiceId

-- the beginning of the history in a note, if there is one
abbrev pub mark_of : Option NoteView → List Entry
mark_of None = []
mark_of (Some note) = note.list

-- the next pass: that of the first client, and then of the second, and so on
abbrev pub fresh_pass : PassesView → PassView
fresh_pass passes = record {
  client = record { 0 = passes.passes - passes.left + 1 };
  known = [];
  mark = [];
  made = 0;
  failed = false;
  shuts = 0;
  empties = 0;
  service = passes.service;
}
