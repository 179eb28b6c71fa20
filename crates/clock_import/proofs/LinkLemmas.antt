-- The links of a log, line by line.
use Rattle.std.proofs.Common.{◌≡◌, ℕ, ◌+◌, ◌<◌, ◌≤◌, false, cond, eqb, Option, None, Some, List, [], ◌∷◌, ◌++◌, length, get_or, set, take, refl, sym, ap, ◌∙◌, subst, ⊎_elim, arith, length-set, get_or-set_same, get_or-set_other}
use Rattle.std.proofs.lemmas.Bool.{eq-eqb, cases_eq, false_from_ne_true, eqb-true}
use Rattle.std.proofs.lemmas.List.{length_push, get_or_push, get_or_append_left, get_or_default, length-take-le}
use Rattle.std.proofs.lemmas.List.Elements.{All-get_or}
use Rattle.std.proofs.lemmas.List.Sums.{count_by-le-length}
use Rattle.std.specs.Prelude.{All}
use Rattle.clock_import.specs.declared.log.Act.TheVariants.{Bad}
use Rattle.clock_import.specs.declared.log.LogLine.{LogLine}
use Rattle.clock_import.specs.declared.links.Link.{Link}
use Rattle.clock_import.specs.declared.links.Seen.{Seen}
use Rattle.clock_import.specs.Log.{IsLine, line_at}
use Rattle.clock_import.specs.Links.{source_of, link_at, link_of, number_in, seen_before, IsSeen}
use Rattle.clock_import.specs.Pairs.{latest_before, prior_of}
use Rattle.clock_import.proofs.LatestLemmas.{latest_more, number_yes, number_no}

-- the links of the first lines, and what was seen of the processes
pub record AreLinksTo (processes : ℕ) (lines : List LogLine) (i : ℕ) (seen : List Seen) (links : List Link) : Type 0 where
  pub seen_is : IsSeen processes lines i seen
  pub many : length links ≡ i
  pub each : (k : ℕ) → k < i → link_at links k ≡ link_of lines k

eqb_apart : (a b : ℕ) → (a ≡ b → ⊥) → eqb a b ≡ false
eqb_apart a b other = false_from_ne_true (eqb a b) (λ same. other (eqb-true a b same))

seen_more : (processes : ℕ) (lines : List LogLine) (i : ℕ) (seen : List Seen) (p : ℕ) → IsSeen processes lines i seen → i < length lines → (line_at lines i).process ≡ p → p ≤ processes → (count : ℕ) → count ≡ number_in lines p i → IsSeen processes lines (i + 1) (set seen p (record { last = Some i; count = count + 1 }))
seen_more processes lines i seen p before below is le count counted =
    record { many = length-set seen p (record { last = Some i; count = count + 1 }) ∙ before.many; each = each }
  where
    inside : p < length seen
    inside = let many = before.many in omega arith

    last_is : Some i ≡ latest_before lines (i + 1) p
    last_is = sym (latest_more lines i p below ∙ ap (λ b. cond b (Some i) (latest_before lines i p)) (eq-eqb (line_at lines i).process p is))

    count_is : count + 1 ≡ number_in lines p (i + 1)
    count_is = let more = number_yes lines i p below is in omega arith

    each : (q : ℕ) → q ≤ processes → get_or (set seen p (record { last = Some i; count = count + 1 })) q (record { last = None; count = 0 }) ≡ seen_before lines (i + 1) q
    each q low =
        ⊎_elim
        (λ (same : q ≡ p).
        ap (λ k. get_or (set seen p (record { last = Some i; count = count + 1 })) k (record { last = None; count = 0 })) same ∙ get_or-set_same seen p (record { last = Some i; count = count + 1 }) (record { last = None; count = 0 }) inside ∙ ap (λ (l : Option ℕ). let r : Seen = record { last = l; count = count + 1 } in r) last_is ∙ ap (λ (n : ℕ). let r : Seen = record { last = latest_before lines (i + 1) p; count = n } in r) count_is ∙ ap (λ k. seen_before lines (i + 1) k) (sym same))
        (λ (other : q ≡ p → ⊥).
        let apart : eqb (line_at lines i).process q ≡ false = eqb_apart (line_at lines i).process q (λ here. other (sym here ∙ is)) in
        let last : latest_before lines i q ≡ latest_before lines (i + 1) q = sym (latest_more lines i q below ∙ ap (λ b. cond b (Some i) (latest_before lines i q)) apart) in
        let number : number_in lines q i ≡ number_in lines q (i + 1) = sym (number_no lines i q below apart) in
        get_or-set_other seen p q (record { last = Some i; count = count + 1 }) (record { last = None; count = 0 }) other ∙ before.each q low ∙ ap (λ (l : Option ℕ). let r : Seen = record { last = l; count = number_in lines q i } in r) last ∙ ap (λ (n : ℕ). let r : Seen = record { last = latest_before lines (i + 1) q; count = n } in r) number)
        (cases_eq q p)

-- the links of one line more
pub links_more : (processes : ℕ) (lines : List LogLine) (i : ℕ) (seen : List Seen) (links : List Link) (of : Seen) (source : Option ℕ) → AreLinksTo processes lines i seen links → i < length lines → (line_at lines i).process ≤ processes → of ≡ get_or seen (line_at lines i).process (record { last = None; count = 0 }) → source ≡ source_of lines (line_at lines i).act → AreLinksTo processes lines (i + 1) (set seen (line_at lines i).process (record { last = Some i; count = of.count + 1 })) (links ++ record { prior = of.last; source = source; number = of.count + 1 } ∷ [])
links_more processes lines i seen links of source before below le is from =
    let known : of ≡ seen_before lines i (line_at lines i).process = is ∙ before.seen_is.each (line_at lines i).process le in
    let count_is : of.count ≡ number_in lines (line_at lines i).process i = ap (λ (s : Seen). s.count) known in
    let last_is : of.last ≡ prior_of lines i = ap (λ (s : Seen). s.last) known in
    let more = number_yes lines i (line_at lines i).process below refl in
    let number_is : of.count + 1 ≡ number_in lines (line_at lines i).process (i + 1) = omega arith in
    record {
      seen_is = seen_more processes lines i seen (line_at lines i).process before.seen_is below refl le of.count count_is;
      many = length_push links (record { prior = of.last; source = source; number = of.count + 1 }) ∙ ap (λ n. n + 1) before.many;
      each = λ k low.
          ⊎_elim
          (λ (last : k ≡ i).
          get_or_push links (record { prior = of.last; source = source; number = of.count + 1 }) (record { prior = None; source = None; number = 0 }) k (before.many ∙ sym last) ∙ ap (λ (l : Option ℕ). let r : Link = record { prior = l; source = source; number = of.count + 1 } in r) last_is ∙ ap (λ (l : Option ℕ). let r : Link = record { prior = prior_of lines i; source = l; number = of.count + 1 } in r) from ∙ ap (λ (n : ℕ). let r : Link = record { prior = prior_of lines i; source = source_of lines (line_at lines i).act; number = n } in r) number_is ∙ ap (link_of lines) (sym last))
          (λ (other : k ≡ i → ⊥).
          let many = before.many in
          get_or_append_left links (record { prior = of.last; source = source; number = of.count + 1 } ∷ []) (record { prior = None; source = None; number = 0 }) k (omega arith) ∙ before.each k (omega arith))
          (cases_eq k i);
    }

-- the same of a line that was read
pub links_next : (processes : ℕ) (lines : List LogLine) (i : ℕ) (seen : List Seen) (links : List Link) (of : Seen) (source : Option ℕ) (entry d : LogLine) (e : Seen) → AreLinksTo processes lines i seen links → i < length lines → All (IsLine processes) lines → entry ≡ get_or lines i d → of ≡ get_or seen entry.process e → source ≡ source_of lines entry.act → AreLinksTo processes lines (i + 1) (set seen entry.process (record { last = Some i; count = of.count + 1 })) (links ++ record { prior = of.last; source = source; number = of.count + 1 } ∷ [])
links_next processes lines i seen links of source entry d e before below each is from source_is =
    let same : entry ≡ line_at lines i = is ∙ get_or_default lines i d (record { process = 0; act = Bad }) below in
    let line = All-get_or (IsLine processes) lines i (record { process = 0; act = Bad }) below each in
    let fits : (line_at lines i).process ≤ processes = line.process.high in
    let wide = before.seen_is.many in
    let inside : (line_at lines i).process < length seen = omega arith in
    let of_is : of ≡ get_or seen (line_at lines i).process (record { last = None; count = 0 }) = from ∙ ap (λ (l : LogLine). get_or seen l.process e) same ∙ get_or_default seen (line_at lines i).process e (record { last = None; count = 0 }) inside in
    subst (λ (l : LogLine). AreLinksTo processes lines (i + 1) (set seen l.process (record { last = Some i; count = of.count + 1 })) (links ++ record { prior = of.last; source = source; number = of.count + 1 } ∷ [])) (sym same) (links_more processes lines i seen links of source before below fits of_is (source_is ∙ ap (λ (l : LogLine). source_of lines l.act) same))

pub count_small : (processes : ℕ) (lines : List LogLine) (i : ℕ) (seen : List Seen) (links : List Link) (of : Seen) (entry d : LogLine) (e : Seen) → AreLinksTo processes lines i seen links → i < length lines → length lines ≤ 20000 → All (IsLine processes) lines → entry ≡ get_or lines i d → of ≡ get_or seen entry.process e → of.count ≤ 20000
count_small processes lines i seen links of entry d e before below few each is from =
    let same : entry ≡ line_at lines i = is ∙ get_or_default lines i d (record { process = 0; act = Bad }) below in
    let line = All-get_or (IsLine processes) lines i (record { process = 0; act = Bad }) below each in
    let fits : (line_at lines i).process ≤ processes = line.process.high in
    let wide = before.seen_is.many in
    let inside : (line_at lines i).process < length seen = omega arith in
    let known : of ≡ seen_before lines i (line_at lines i).process = from ∙ ap (λ (l : LogLine). get_or seen l.process e) same ∙ get_or_default seen (line_at lines i).process e (record { last = None; count = 0 }) inside ∙ before.seen_is.each (line_at lines i).process fits in
    let count_is : of.count ≡ number_in lines (line_at lines i).process i = ap (λ (s : Seen). s.count) known in
    let most : number_in lines (line_at lines i).process i ≤ length (take i lines) = count_by-le-length (λ (l : LogLine). eqb l.process (line_at lines i).process) (take i lines) in
    let many = length-take-le i lines (omega arith) in
    omega arith
