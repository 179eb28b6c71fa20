-- What is told to queries, and what they ask.
use Rattle.std.specs.Prelude.{ℕ, List, length}
use Rattle.std.specs.List.{flat_map}
use Rattle.std.specs.Set.{distinct_count}
use Rattle.kr_order.specs.declared.answer.Query.{Query}
use Rattle.kr_order.specs.declared.answer.Told.{Told}
use Rattle.kr_order.specs.declared.history.Entry.{Entry}
use Rattle.kr_order.specs.Answer.{answers_after}
use Rattle.reach.specs.Search.{numbered}
use Rattle.query_worker.specs.Known.{is_pair}

-- what is told to a query after the history
abbrev pub told_after : List Entry → Query → Told
told_after history query = record { entry = length history; answers = answers_after history query.pairs }

-- the pairs that the queries ask about
abbrev pub pairs_asked : List Query → List (ℕ × ℕ)
pairs_asked queries = flat_map (λ query. numbered query.pairs) queries

-- how many these are, each pair counted once
abbrev pub count_asked : List Query → ℕ
count_asked queries = distinct_count is_pair (pairs_asked queries)
