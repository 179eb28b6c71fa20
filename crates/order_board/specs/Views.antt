-- What contracts see of a board. Copies are told apart by the book of their log.
use Rattle.std.specs.Prelude.{◌+◌, ◌-◌, ◌^◌, ℕ, min, Bool, List, [], ◌∷◌, ◌++◌, length}
use Rattle.logbook.specs.Pages.{Book}
use Rattle.kr_order.specs.declared.ids.EventId.{EventId}
use Rattle.kr_order.specs.declared.answer.Told.{Told}
use Rattle.kr_order.specs.declared.history.Entry.{Entry}
use Rattle.kr_order.specs.Answer.{answers_after}

-- a beginning of the published list
pub record NoteView : Type 0 where
  pub list : List Entry
  pub copies : Book

-- the writer: the published list, and whether a call has found no memory
pub record WriterView : Type 0 where
  pub list : List Entry
  pub failed : Bool
  pub copies : Book

-- a reader: the beginning of the published list that it saw or was told of, and how often it was shut out
pub record ReaderView : Type 0 where
  pub list : List Entry
  pub shuts : ℕ
  pub copies : Book

-- the readers that are still to be taken, and how many they are
pub record ReadersView : Type 0 where
  pub left : ℕ
  pub copies : Book

-- the list with one entry more
abbrev pub with_entry : NoteView → Entry → NoteView
with_entry note entry = record { list = note.list ++ entry ∷ []; copies = note.copies }

-- a reader that saw nothing yet
abbrev pub fresh_reader : Book → ReaderView
fresh_reader copies = record { list = []; shuts = 0; copies = copies }

-- one shut more, up to the greatest number of its type
abbrev pub shut_once_more : ℕ → ℕ
shut_once_more shuts = min (shuts + 1) (2 ^ 64 - 1)

-- what is told to these pairs after the list
abbrev pub told_of : List Entry → List (EventId × EventId) → Told
told_of list pairs = record { entry = length list; answers = answers_after list pairs }
