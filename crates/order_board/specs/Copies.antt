-- How the writer, a reader and an entered copy stand to what contracts see of them.
use Rattle.std.specs.Prelude.{◌≡◌, false, Bool, List, [], ◌∷◌, ◌++◌, Option, Some, IsSomeAnd}
use Rattle.logbook.specs.Pages.{Book}
use Rattle.kr_order.specs.declared.history.Entry.{Entry}
use Rattle.order_board.specs.declared.copies.OrderCopy.{OrderCopy}
use Rattle.order_board.specs.declared.copies.Growth.{Growth}
use Rattle.order_board.specs.Views.{NoteView}
use Rattle.order_board.specs.Rule.{Front}

-- what the seat saw is of this log
abbrev pub IsOf : Book → Option Front → Type 0
IsOf copies sight = IsSomeAnd sight (λ front. front.book ≡ copies)

-- a copy is published that stands for the beginning of the log that it names, and its seat saw it
pub record IsPublished (copy : OrderCopy) (seen : Option Front) : Type 0 where
  pub sight : seen ≡ Some copy.seen
  pub log : copy.seen.log ≡ copy.state.history

-- what is put into a copy next: one entry more, in the same log
pub record IsNext (copy : OrderCopy) (growth : Growth) : Type 0 where
  pub copies : growth.seen.book ≡ copy.seen.book
  pub log : growth.seen.log ≡ copy.state.history ++ growth.entry ∷ []

-- the writer: its own state and the history stand for the published list, and where no call has found no memory, the
-- other copy lacks nothing
pub record IsWriter (copy : OrderCopy) (seen : Option Front) (pending : List Growth) (known : NoteView) (own : List Entry)
    (failed : Bool) : Type 0 where
  pub published : IsPublished copy seen
  pub copies : known.copies ≡ copy.seen.book
  pub history : known.list ≡ copy.state.history
  pub same : own ≡ copy.state.history
  pub idle : failed ≡ false → pending ≡ []
