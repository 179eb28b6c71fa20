-- A reader beside a node, before, while and after it answers.
use Rattle.std.specs.Prelude.{◌≡◌, ◌≤◌, ◌+◌, ℕ, List, [], ◌∷◌, length}
use Rattle.kr_order.specs.declared.answer.Told.{Told}
use Rattle.kr_order.specs.Prefix.{IsPrefix}
use Rattle.order_board.specs.Views.{told_of}
use Rattle.script_lang.specs.declared.chain.ChainQuery.{ChainQuery}
use Rattle.live_chain.specs.declared.reader.Teller.{Teller}
use Rattle.live_chain.specs.Lawful.{AreToldAfter}

-- after how many entries the last of these answers is, and so many before any
abbrev pub last_told : ℕ → List Told → ℕ
last_told last [] = last
last_told last (told ∷ more) = last_told told.entry more

-- the reader answered these queries, of what it knows
pub record HasAnswered (queries : List ChainQuery) (teller : Teller) : Type 0 where
  pub told : AreToldAfter teller.reader.list 0 queries teller.told
  pub last : last_told 0 teller.told ≤ length teller.reader.list

-- it was asked nothing yet
pub record IsNew (teller : Teller) : Type 0 where
  pub number : teller.number ≡ 0
  pub told : teller.told ≡ []

-- both are the reader of this node, of the same copies
pub record IsSameTeller (old new : Teller) : Type 0 where
  pub node : new.node ≡ old.node
  pub copies : new.reader.copies ≡ old.reader.copies

-- the query was answered: what is told is after what the reader knows now, which is at least what was asked for
pub record Tells (old new : Teller) (query : ChainQuery) (told : Told) : Type 0 where
  pub known : IsPrefix old.reader.list new.reader.list
  pub least : query.least ≤ length new.reader.list
  pub told_is : told ≡ told_of new.reader.list query.pairs
