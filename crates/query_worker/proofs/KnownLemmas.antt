-- What is known after more pairs, and how many steps it took.
use Rattle.std.proofs.Common.{◌≡◌, ◌≤◌, ◌+◌, ◌*◌, ℕ, ◌||◌, List, [], sym, ap, ◌∙◌, arith}
use Rattle.std.specs.Prelude.{is_some}
use Rattle.std.specs.List.{list_any}
use Rattle.std.specs.HashMap.{hash_map_len}
use Rattle.std.specs.Map.{keys_of, lookup}
use Rattle.std.specs.Cmp.{IsEquivalence, nat_eq_equiv, and_equiv, on_equiv}
use Rattle.std.proofs.lemmas.Map.Entries.{length-keys_of}
use Rattle.std.proofs.lemmas.Map.Made.{is_some-lookup, length-from_keys}
use Rattle.kr_order.specs.declared.answer.Query.{Query}
use Rattle.kr_order.specs.declared.history.Entry.{Entry}
use Rattle.query_worker.specs.Known.{Known, is_pair, AreAnswers, KnowsAlso, IsWithin}
use Rattle.query_worker.specs.Told.{pairs_asked, count_asked}

-- pairs are told apart as their numbers are
is_pair_equiv : IsEquivalence is_pair
is_pair_equiv = and_equiv (on_equiv (λ pair. pair.0) nat_eq_equiv) (on_equiv (λ pair. pair.1) nat_eq_equiv)

-- what is known is as many answers as pairs were asked, each counted once
pub count-known : (history : List Entry) (queries : List Query) (old known : Known) → old.entries ≡ [] →
    AreAnswers history known → KnowsAlso (pairs_asked queries) old known → hash_map_len known ≡ count_asked queries
count-known history queries old known none answers pairs =
    sym (length-keys_of known.entries) ∙
    length-from_keys is_pair_equiv (keys_of known.entries) (pairs_asked queries) answers.unique are_asked
  where
    are_asked : (pair : ℕ × ℕ) → list_any (is_pair pair) (keys_of known.entries) ≡ list_any (is_pair pair) (pairs_asked queries)
    are_asked pair =
        sym (is_some-lookup (is_pair pair) known.entries) ∙ pairs.each pair ∙
        ap (λ entries. is_some (lookup (is_pair pair) entries) || list_any (is_pair pair) (pairs_asked queries)) none

-- so the steps are bounded by these pairs
pub steps-known : (size before after : ℕ) (history : List Entry) (queries : List Query) (old known : Known) →
    old.entries ≡ [] → AreAnswers history known → KnowsAlso (pairs_asked queries) old known →
    IsWithin size old known before after → after ≤ before + 2 * size * count_asked queries
steps-known size before after history queries old known none answers pairs within =
    let count = ap (λ n. 2 * size * n) (count-known history queries old known none answers pairs) in
    omega (arith, within.most, count)
