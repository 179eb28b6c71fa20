-- The statements of the laws of the input of a chain.
use Rattle.std.specs.Prelude.{◌≡◌, ◌≤◌, ◌+◌, ℕ, List, All, length}
use Rattle.script_lang.specs.declared.chain.ChainPlan.{ChainPlan}
use Rattle.script_lang.specs.Chain.{ParsesChain, IsBadChainLine, IsChainQuery}
use Rattle.script_lang.specs.ChainRows.{each_kind_spelt, each_kind_planned}

abbrev pub BadChainLinesAreInNoPlan : Type 0
BadChainLinesAreInNoPlan = (bytes : List ℕ) (n : ℕ) (plan : ChainPlan) → IsBadChainLine bytes n → ParsesChain bytes plan → ⊥

abbrev pub TheBadChainLineIsOne : Type 0
TheBadChainLineIsOne = (bytes : List ℕ) (m n : ℕ) → IsBadChainLine bytes m → IsBadChainLine bytes n → m ≡ n

abbrev pub ASpellingIsOfOneChainPlan : Type 0
ASpellingIsOfOneChainPlan =
    (bytes : List ℕ) (one other : ChainPlan) → ParsesChain bytes one → ParsesChain bytes other → one ≡ other

-- no query asks for more entries than the plan has
abbrev pub ChainQueriesCanBeAnswered : Type 0
ChainQueriesCanBeAnswered =
    (bytes : List ℕ) (plan : ChainPlan) → ParsesChain bytes plan → All (IsChainQuery (length plan.entries)) plan.queries

-- the bytes of a plan are no fewer than its entries and queries
abbrev pub ChainPlansAreNoLongerThanTheirBytes : Type 0
ChainPlansAreNoLongerThanTheirBytes =
    (bytes : List ℕ) (plan : ChainPlan) → ParsesChain bytes plan → length plan.entries + length plan.queries ≤ length bytes

-- this is how the input of a chain is spelt, and what it gives
abbrev pub EachKindOfChainLineIsSpeltSo : Type 0
EachKindOfChainLineIsSpeltSo = ParsesChain each_kind_spelt each_kind_planned
