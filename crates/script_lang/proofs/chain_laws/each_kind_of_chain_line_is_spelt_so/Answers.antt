use Rattle.std.proofs.Common.{refl, arith, ℕ, ◌≤◌, [], ◌∷◌}
use Rattle.std.specs.Fmt.{digits}
use Rattle.std.proofs.lemmas.List.Elements.{All-from_recursion}
use Rattle.script_lang.specs.Number.{IsFromOneTo}
use Rattle.script_lang.specs.Event.{IsEventNumber, IsPair, IsAskedPair, ArePairs}
use Rattle.script_lang.specs.Live.{AreAsked}
use Rattle.script_lang.specs.Chain.{AreChainLines, IsChainQuery, empty_plan}
use Rattle.script_lang.specs.Rows.{must, asked}
use Rattle.script_lang.specs.ChainRows.{each_kind, of_head, of_tail}
use Rattle.script_lang.proofs.chain_laws.each_kind_of_chain_line_is_spelt_so.Goals as goal

in_range : (most n : ℕ) → 1 ≤ n → n ≤ most → IsFromOneTo most n
in_range most n low high = record { low = low; high = high }

one_event : IsEventNumber 1
one_event = in_range 18446744073709551615 1 (omega arith) (omega arith)

other_event : IsEventNumber 2
other_event = in_range 18446744073709551615 2 (omega arith) (omega arith)

first : IsFromOneTo 16 1
first = in_range 16 1 (omega arith) (omega arith)

last : IsFromOneTo 16 16
last = in_range 16 16 (omega arith) (omega arith)

bound : ArePairs IsPair (must 1 2 ∷ [])
bound = record { most = omega arith; each = All-from_recursion IsPair (must 1 2 ∷ []) (record { first = one_event; second = other_event }, tt) }

head_asks : AreAsked (asked 1 2 ∷ [])
head_asks = record {
  some = omega arith;
  pairs_fit = record { most = omega arith; each = All-from_recursion IsAskedPair (asked 1 2 ∷ []) (record { first = one_event; second = other_event }, tt) };
}

tail_asks : AreAsked (asked 2 1 ∷ asked 1 1 ∷ [])
tail_asks = record {
  some = omega arith;
  pairs_fit = record {
    most = omega arith;
    each = All-from_recursion IsAskedPair (asked 2 1 ∷ asked 1 1 ∷ []) (record { first = other_event; second = one_event }, (record { first = one_event; second = one_event }, tt));
  };
}

tail_fits : IsChainQuery 2 of_tail
tail_fits = record { node_fits = in_range 3 3 (omega arith) (omega arith); least_fits = omega arith; is_number = omega arith; asked = tail_asks }

head_fits : IsChainQuery 3 of_head
head_fits = record { node_fits = in_range 3 1 (omega arith) (omega arith); least_fits = omega arith; is_number = omega arith; asked = head_asks }

lines_fit : AreChainLines empty_plan each_kind
lines_fit = (
  record { client_fits = first; call_fits = tt },
  (
    record { client_fits = last; call_fits = tt },
    (
      tail_fits,
      (
        record { client_fits = first; call_fits = bound },
        (
          head_fits,
          (record { client_fits = last; call_fits = other_event }, (record { client_fits = first; call_fits = one_event }, tt)),
        ),
      ),
    ),
  ),
)

pub returns : goal.returns
unfolding digits
returns c = record { lines = each_kind; fit = lines_fit; spelt = refl; given = refl }
