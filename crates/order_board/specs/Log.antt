-- The log behind the copies, and what the step tells that adds an entry to it.
use Rattle.std.specs.Prelude.{ℕ, ◌+◌, ◌≡◌, ◌==◌, true, List, [], ◌∷◌, ◌++◌, length, None}
use prog.Atomic.{either}
use Rattle.logbook.specs.Pages.{Cell, Step, View, Book, Named, no_nib, step, Moves, Goes}
use Rattle.kr_order.specs.declared.history.Entry.{Entry}

-- the first word is the length of the log; a book has a second, which stays at 0
abbrev pub IsCounted : List Cell → List Entry → Type 0
IsCounted cells log = cells ≡ (length log, true) ∷ (0, true) ∷ []

-- the first word of this book
abbrev pub head_of : Book → Named
head_of book = record { tracked = true; key = 0; book = book }

-- where the log was as long as what had been seen, the entry was added to that
abbrev pub Grows : Step Entry → View Entry ℕ → ℕ → View Entry ℕ → Type 0
Grows s v found w = found ≡ s.old → w.0 ≡ v.0 ++ s.ask ∷ []

-- nobody is shown the log otherwise, and nothing is traded for an entry
abbrev pub shown : List Entry → List Entry
shown log = []

abbrev pub moved : List Entry → List Entry → ℕ → Type 0
moved before after answer = Unit {0}

-- the exchange of the head from the length of what was seen to one more
module _ (seen : List Entry) (entry : Entry) (old : ℕ) where
  abbrev pub exchanged : ℕ → ℕ
  exchanged n = either (n == old) (old + 1) n

  abbrev pub tells : ℕ → View Entry ℕ → Type 0
  tells = Grows (step 0 old (old + 1) entry) (seen, (no_nib, None))

  -- it keeps the law of these cells and this log
  abbrev pub AddsIn : List Cell → List Entry → Type 0
  AddsIn = Goes IsCounted shown moved 0 (seen, (no_nib, None)) exchanged tells

  -- it does so whatever the log is
  abbrev pub Adds : Type 0
  Adds = Moves IsCounted shown moved 0 (seen, (no_nib, None)) exchanged tells
