-- The journal of a service with two passes.
use Rattle.std.proofs.Common.{◌≡◌, ◌∙◌, ◌+◌, ◌≤◌, List, [], ◌∷◌, ◌++◌, length, refl, ap, subst, arith}
use Rattle.std.specs.Prelude.{All}
use Rattle.std.proofs.lemmas.List.Sums.{sum_by-cons}
use Rattle.std.proofs.lemmas.List.Elements.{All-head, All-tail}
use Rattle.kr_order.specs.declared.history.Entry.{Entry}
use Rattle.kr_order.specs.declared.history.DoneEntry.{DoneEntry}
use Rattle.kr_order.specs.Done.{done_of}
use Rattle.kr_order.proofs.HistoryLemmas.{length-done_from}
use Rattle.kr_order.proofs.PrefixLemmas.{IsPrefix-length}
use Rattle.live_service.specs.Views.{PassView}
use Rattle.live_service.specs.Close.{IsClosed, IsHistory, made_by_all}

-- a list to which two passes were put
pub two_pushed : (none first all : List PassView) (one other : PassView) → none ≡ [] → first ≡ none ++ one ∷ [] → all ≡ first ++ other ∷ []
    → all ≡ one ∷ other ∷ []
two_pushed none first all one other empty put put' = put' ∙ ap (λ l. l ++ other ∷ []) (put ∙ ap (λ l. l ++ one ∷ []) empty)

-- it has as many entries as both were answered commands
pub journal_many : (one other : PassView) (passes : List PassView) (journal : List DoneEntry) (history : List Entry)
    → passes ≡ one ∷ other ∷ [] → journal ≡ done_of history → IsHistory passes history → length journal ≡ one.made + other.made
journal_many one other passes journal history are is all =
    let made = λ (pass : PassView). pass.made in
    let none : made_by_all [] ≡ 0 = refl in
    omega (
      arith,
      ap length is,
      length-done_from [] history,
      all.many,
      ap made_by_all are,
      sum_by-cons made one (other ∷ []),
      sum_by-cons made other [],
      none,
    )

-- and no fewer than the second of them was told of
pub journal_goes_on : (one other : PassView) (passes : List PassView) (journal : List DoneEntry) (history : List Entry)
    → passes ≡ one ∷ other ∷ [] → journal ≡ done_of history → IsHistory passes history → length other.known ≤ length journal
journal_goes_on one other passes journal history are is all =
    let each = subst (All (IsClosed history)) are all.each in
    let closed = All-head (IsClosed history) other [] (All-tail (IsClosed history) one (other ∷ []) each) in
    omega (arith, IsPrefix-length other.known history closed.known, ap length is, length-done_from [] history)
