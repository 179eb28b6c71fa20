use Rattle.std.proofs.Common.{refl, arith, ℕ, ◌≤◌, []}
use Rattle.std.specs.Prelude.{All}
use Rattle.std.specs.Fmt.{digits}
use Rattle.std.proofs.lemmas.List.Elements.{All-from_recursion}
use Rattle.script_lang.specs.Number.{IsFromOneTo}
use Rattle.script_lang.specs.Event.{IsEvent, IsNumber, IsEventNumber, IsPair, IsAskedPair, ArePairs}
use Rattle.script_lang.specs.Rows.{must, prefer, asked, pairs_of_batch, pairs_of_query, each_kind, each_kind_of_event, of_three}
use Rattle.script_lang.specs.Script.{IsScript}
use Rattle.script_lang.proofs.laws.each_kind_of_line_is_spelt_so.Goals as goal

in_range : (most n : ℕ) → 1 ≤ n → n ≤ most → IsFromOneTo most n
in_range most n low high = record { low = low; high = high }

must_fits : (a b : ℕ) → IsEventNumber a → IsEventNumber b → IsPair (must a b)
must_fits a b fit fit' = record { first = fit; second = fit' }

prefer_fits : (a b : ℕ) → IsEventNumber a → IsEventNumber b → IsPair (prefer a b)
prefer_fits a b fit fit' = record { first = fit; second = fit' }

asked_fits : (a b : ℕ) → IsEventNumber a → IsEventNumber b → IsAskedPair (asked a b)
asked_fits a b fit fit' = record { first = fit; second = fit' }

event_number : (n : ℕ) → 1 ≤ n → n ≤ 18446744073709551615 → IsEventNumber n
event_number n low high = in_range 18446744073709551615 n low high

batch_fits : All IsPair pairs_of_batch
batch_fits = All-from_recursion IsPair pairs_of_batch (must_fits 1 2 (event_number 1 (omega arith) (omega arith)) (event_number 2 (omega arith) (omega arith)), (prefer_fits 3 18446744073709551615 (event_number 3 (omega arith) (omega arith)) (event_number 18446744073709551615 (omega arith) (omega arith)), tt))

query_fits : All IsAskedPair pairs_of_query
query_fits = All-from_recursion IsAskedPair pairs_of_query (asked_fits 1 2 (event_number 1 (omega arith) (omega arith)) (event_number 2 (omega arith) (omega arith)), (asked_fits 3 3 (event_number 3 (omega arith) (omega arith)) (event_number 3 (omega arith) (omega arith)), tt))

small : (n : ℕ) → 1 ≤ n → n ≤ 4294967295 → IsNumber n
small n low high = in_range 4294967295 n low high

one : IsNumber 1
one = small 1 (omega arith) (omega arith)

two : IsNumber 2
two = small 2 (omega arith) (omega arith)

greatest : IsNumber 4294967295
greatest = small 4294967295 (omega arith) (omega arith)

first_event : IsEventNumber 1
first_event = event_number 1 (omega arith) (omega arith)

batch_of_none : ArePairs IsPair []
batch_of_none = record { most = omega arith; each = All-from_recursion IsPair [] tt }

batch_of_two : ArePairs IsPair pairs_of_batch
batch_of_two = record { most = omega arith; each = batch_fits }

each_fits : All IsEvent each_kind_of_event
each_fits = All-from_recursion IsEvent each_kind_of_event (
  record { client_fits = one; command_fits = tt },
  (
    record { client_fits = two; command_fits = batch_of_none },
    (
      record { client_fits = greatest; command_fits = batch_of_two },
      (
        record { client_fits = one; command_fits = event_number 18446744073709551615 (omega arith) (omega arith) },
        (
          record { client_fits = small 16 (omega arith) (omega arith); command_fits = first_event },
          (
            record { client_fits = one; server_fits = two; some = omega arith; pairs_fit = record { most = omega arith; each = query_fits } },
            (
              record { client_fits = one; server_fits = greatest },
              (
                greatest,
                (
                  one,
                  (
                    greatest,
                    (
                      tt,
                      (
                        record { server_fits = one; workers_fit = in_range 8 8 (omega arith) (omega arith) },
                        (greatest, (one, (small 10 (omega arith) (omega arith), (tt, (tt, (greatest, tt)))))),
                      ),
                    ),
                  ),
                ),
              ),
            ),
          ),
        ),
      ),
    ),
  ),
)

each_kind_fits : IsScript each_kind
each_kind_fits = record { size = record { servers_fit = in_range 8 1 (omega arith) (omega arith); clients_fit = in_range 16 16 (omega arith) (omega arith) }; each = each_fits }

of_three_fits : IsScript of_three
of_three_fits =
    record {
      size = record { servers_fit = in_range 8 3 (omega arith) (omega arith); clients_fit = in_range 16 2 (omega arith) (omega arith) };
      each = All-from_recursion IsEvent of_three.events (
        record { client_fits = one; command_fits = tt },
        (
          record { client_fits = two; command_fits = batch_of_two },
          (
            record { client_fits = one; command_fits = first_event },
            (
              record { client_fits = two; command_fits = first_event },
              (
                record { client_fits = one; server_fits = two },
                (
                  one,
                  (
                    two,
                    (
                      small 3 (omega arith) (omega arith),
                      (
                        record { client_fits = two; server_fits = small 3 (omega arith) (omega arith); some = omega arith; pairs_fit = record { most = omega arith; each = query_fits } },
                        (record { server_fits = two; workers_fit = in_range 8 1 (omega arith) (omega arith) }, (one, tt)),
                      ),
                    ),
                  ),
                ),
              ),
            ),
          ),
        ),
      );
    }

pub returns : goal.returns
unfolding digits
returns c = (record { fit = each_kind_fits; spelt = refl }, record { fit = of_three_fits; spelt = refl })
