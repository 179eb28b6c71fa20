-- The order is a list of pairs of events, the oldest first. An event is before another where a path of pairs leads
-- from it to the other. The paths are found in rounds, so that long histories compute; the law APathGoesOverAPair
-- says the same without rounds, by two equations.
use Rattle.std.specs.Prelude.{◌≡◌, ℕ, zero, suc, Bool, true, false, not, ◌&&◌, ◌||◌, ◌==◌, if◌then◌else◌, List, [], ◌∷◌, ◌++◌, length, fold}
use Rattle.std.specs.List.{list_any}

-- the event is one of these
abbrev pub is_among : List ℕ → ℕ → Bool
is_among events event = list_any (λ one. one == event) events

-- what was found behind the event a, and what is found over this pair: its second event, where its first is a or was
-- found
abbrev pub found_over : ℕ → List ℕ → ℕ × ℕ → List ℕ
found_over a found pair =
    if (a == pair.0 || is_among found pair.0) && not (is_among found pair.1) then pair.1 ∷ found else found

-- what is found in one round over all pairs
abbrev pub round : List (ℕ × ℕ) → ℕ → List ℕ → List ℕ
round pairs a found = fold (found_over a) found pairs

-- what is found in so many rounds, or until one finds nothing more
abbrev pub rounds : List (ℕ × ℕ) → ℕ → ℕ → List ℕ → List ℕ
rounds pairs a zero found = found
rounds pairs a (suc n) found =
    let more = round pairs a found in
    elim (length more == length found) [ true ↦ found | false ↦ rounds pairs a n more ]

-- the events to which a path leads from a. Each round but the last finds the second event of one more pair at least,
-- so as many rounds as there are pairs are enough
abbrev pub behind : List (ℕ × ℕ) → ℕ → List ℕ
behind pairs a = rounds pairs a (length pairs) []

-- a is before b
abbrev pub reach : List (ℕ × ℕ) → ℕ → ℕ → Bool
reach pairs a b = is_among (behind pairs a) b

-- no event is before itself
pub record IsAcyclic (pairs : List (ℕ × ℕ)) : Type 0 where
  pub no_cycle : (event : ℕ) → reach pairs event event ≡ false

-- the order in which a is before b: a pair more where the order doesn't say so already
abbrev pub add : List (ℕ × ℕ) → ℕ → ℕ → List (ℕ × ℕ)
add pairs a b = if reach pairs a b then pairs else pairs ++ (a, b) ∷ []
