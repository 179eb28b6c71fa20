-- What a reader told, one query after the other.
use Rattle.std.proofs.Common.{◌≡◌, ◌≢◌, ℕ, ◌+◌, ◌≤◌, ◌==◌, Bool, true, false, List, [], ◌∷◌, ◌++◌, length, refl, sym, ap, ◌∙◌, subst, arith, eq-eqb}
use Rattle.std.proofs.lemmas.Bool.{eqb-true}
use Rattle.std.proofs.lemmas.List.{append-nil}
use Rattle.kr_order.specs.declared.answer.Told.{Told}
use Rattle.kr_order.specs.declared.history.Entry.{Entry}
use Rattle.kr_order.specs.Prefix.{IsPrefix}
use Rattle.kr_order.proofs.PrefixLemmas.{IsPrefix-refl, IsPrefix-trans, IsPrefix-length}
use Rattle.order_board.specs.Views.{told_of}
use Rattle.script_lang.specs.declared.chain.ChainQuery.{ChainQuery}
use Rattle.live_chain.specs.declared.reader.Teller.{Teller}
use Rattle.live_chain.specs.Lawful.{own_query, IsToldAfter, AreToldAfter}
use Rattle.live_chain.specs.Tellers.{last_told, HasAnswered}

-- what is right of a history is right of one that goes on from it
pub told_longer : (old new : List Entry) (last : ℕ) (queries : List ChainQuery) (answers : List Told) → IsPrefix old new
    → AreToldAfter old last queries answers → AreToldAfter new last queries answers
told_longer old new last [] [] longer are = tt
told_longer old new last [] (t ∷ more) longer are = absurd are
told_longer old new last (q ∷ queries) [] longer are = absurd are
told_longer old new last (q ∷ queries) (t ∷ more) longer are = (
  record {
    before = are.0.before;
    past = are.0.past;
    least = are.0.least;
    stands = IsPrefix-trans are.0.before old new are.0.stands longer;
    told_is = are.0.told_is;
  },
  told_longer old new t.entry queries more longer are.1,
)

-- one query more, with its answer
told_push : (history : List Entry) (last : ℕ) (queries : List ChainQuery) (answers : List Told) (query : ChainQuery) (told : Told)
    → AreToldAfter history last queries answers → IsToldAfter history (last_told last answers) query told
    → AreToldAfter history last (queries ++ query ∷ []) (answers ++ told ∷ [])
told_push history last [] [] query told are next = (next, tt)
told_push history last [] (t ∷ more) query told are next = absurd are
told_push history last (q ∷ queries) [] query told are next = absurd are
told_push history last (q ∷ queries) (t ∷ more) query told are next =
    (are.0, told_push history t.entry queries more query told are.1 next)

last_told-push : (last : ℕ) (answers : List Told) (told : Told) → last_told last (answers ++ told ∷ []) ≡ told.entry
last_told-push last [] told = refl
last_told-push last (t ∷ more) told = last_told-push t.entry more told

-- a reader that answers one query more
pub answered_more : (old new : Teller) (queries : List ChainQuery) (query : ChainQuery) (told : Told) → HasAnswered queries old
    → new.told ≡ old.told ++ told ∷ [] → IsPrefix old.reader.list new.reader.list → query.least ≤ length new.reader.list
    → told ≡ told_of new.reader.list query.pairs → HasAnswered (queries ++ query ∷ []) new
answered_more old new queries query told has all known least is =
    let right : IsToldAfter new.reader.list (last_told 0 old.told) query told = record {
      before = new.reader.list;
      past = omega (arith, has.last, IsPrefix-length old.reader.list new.reader.list known);
      least = least;
      stands = IsPrefix-refl new.reader.list;
      told_is = is;
    } in
    let longer = told_longer old.reader.list new.reader.list 0 queries old.told known has.told in
    let entry : told.entry ≡ length new.reader.list = ap (λ (t : Told). t.entry) is in
    record {
      told = subst (AreToldAfter new.reader.list 0 (queries ++ query ∷ [])) (sym all)
          (told_push new.reader.list 0 queries old.told query told longer right);
      last = omega (arith, ap (last_told 0) all, last_told-push 0 old.told told, entry);
    }

-- a query of the node
pub own_query-own : (node : ℕ) (query : ChainQuery) → query.node ≡ node → own_query node query ≡ query ∷ []
own_query-own node query same = rw (eq-eqb query.node node same) refl
