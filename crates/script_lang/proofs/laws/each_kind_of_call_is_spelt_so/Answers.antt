use Rattle.std.proofs.Common.{refl, arith, ℕ, ◌≤◌, [], ◌∷◌}
use Rattle.std.specs.Prelude.{All}
use Rattle.std.specs.Fmt.{digits}
use Rattle.std.proofs.lemmas.List.Elements.{All-from_recursion}
use Rattle.script_lang.specs.Number.{IsFromOneTo}
use Rattle.script_lang.specs.Event.{IsEventNumber, IsPair, IsAskedPair, ArePairs}
use Rattle.script_lang.specs.Live.{AreAsked, IsCalled, IsPlan}
use Rattle.script_lang.specs.Rows.{must, asked, pairs_of_batch}
use Rattle.script_lang.specs.LiveRows.{one_client, sixteen_clients}
use Rattle.script_lang.proofs.laws.each_kind_of_call_is_spelt_so.Goals as goal

in_range : (most n : ℕ) → 1 ≤ n → n ≤ most → IsFromOneTo most n
in_range most n low high = record { low = low; high = high }

event_number : (n : ℕ) → 1 ≤ n → n ≤ 18446744073709551615 → IsEventNumber n
event_number n low high = in_range 18446744073709551615 n low high

one_two : IsPair (must 1 2)
one_two = record { first = event_number 1 (omega arith) (omega arith); second = event_number 2 (omega arith) (omega arith) }

asked_fits : (a b : ℕ) → IsEventNumber a → IsEventNumber b → IsAskedPair (asked a b)
asked_fits a b fit fit' = record { first = fit; second = fit' }

first_event : IsEventNumber 1
first_event = event_number 1 (omega arith) (omega arith)

second_event : IsEventNumber 2
second_event = event_number 2 (omega arith) (omega arith)

third_event : IsEventNumber 3
third_event = event_number 3 (omega arith) (omega arith)

greatest : IsEventNumber 18446744073709551615
greatest = event_number 18446744073709551615 (omega arith) (omega arith)

one : IsFromOneTo 1 1
one = in_range 1 1 (omega arith) (omega arith)

one_fits : IsPlan one_client
one_fits = record {
  clients_fit = in_range 16 1 (omega arith) (omega arith);
  each = All-from_recursion (IsCalled 1) one_client.calls (
    record { client_fits = one; call_fits = tt },
    (
      record { client_fits = one; call_fits = tt },
      (
        record { client_fits = one; call_fits = record { most = omega arith; each = All-from_recursion IsPair (must 1 2 ∷ []) (one_two, tt) } },
        (
          record {
            client_fits = one;
            call_fits = record {
              some = omega arith;
              pairs_fit = record { most = omega arith; each = All-from_recursion IsAskedPair (asked 1 2 ∷ asked 2 1 ∷ []) (asked_fits 1 2 first_event second_event, (asked_fits 2 1 second_event first_event, tt)) };
            };
          },
          (
            record { client_fits = one; call_fits = first_event },
            (
              record {
                client_fits = one;
                call_fits = record {
                  some = omega arith;
                  pairs_fit = record { most = omega arith; each = All-from_recursion IsAskedPair (asked 1 2 ∷ []) (asked_fits 1 2 first_event second_event, tt) };
                };
              },
              tt,
            ),
          ),
        ),
      ),
    ),
  );
}

first_of_sixteen : IsFromOneTo 16 1
first_of_sixteen = in_range 16 1 (omega arith) (omega arith)

last_of_sixteen : IsFromOneTo 16 16
last_of_sixteen = in_range 16 16 (omega arith) (omega arith)

sixteen_fit : IsPlan sixteen_clients
sixteen_fit = record {
  clients_fit = last_of_sixteen;
  each = All-from_recursion (IsCalled 16) sixteen_clients.calls (
    record { client_fits = last_of_sixteen; call_fits = record { most = omega arith; each = All-from_recursion IsPair [] tt } },
    (
      record {
        client_fits = first_of_sixteen;
        call_fits = record { most = omega arith; each = All-from_recursion IsPair pairs_of_batch (one_two, (record { first = third_event; second = greatest }, tt)) };
      },
      (
        record { client_fits = last_of_sixteen; call_fits = greatest },
        (
          record {
            client_fits = first_of_sixteen;
            call_fits = record {
              some = omega arith;
              pairs_fit = record { most = omega arith; each = All-from_recursion IsAskedPair (asked 3 3 ∷ []) (asked_fits 3 3 third_event third_event, tt) };
            };
          },
          (
            record { client_fits = last_of_sixteen; call_fits = tt },
            (record { client_fits = in_range 16 10 (omega arith) (omega arith); call_fits = first_event }, tt),
          ),
        ),
      ),
    ),
  );
}

pub returns : goal.returns
unfolding digits
returns c = (record { fit = one_fits; spelt = refl }, record { fit = sixteen_fit; spelt = refl })
