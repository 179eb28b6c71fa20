-- Bytes are read in one way: they spell at most one log, or have one first bad line.
use Rattle.std.proofs.Common.{◌≡◌, ◌≢◌, ◌⊎◌, ℕ, ◌+◌, ◌^◌, ◌<◌, ◌≤◌, List, [], ◌∷◌, ◌++◌, length, get_or, refl, sym, ap, ◌∙◌, subst, inl, inr, ⊎_elim, arith, append_assoc}
use Rattle.std.specs.Prelude.{All, map, flat_map, codes}
use Rattle.std.specs.Fmt.{decimal}
use Rattle.std.proofs.lemmas.Bool.{false≢true, cases_eq, cases_lt}
use Rattle.std.proofs.lemmas.Fmt.{decimal_injective}
use Rattle.std.proofs.lemmas.List.{append-nil, append_cancel_left, length-map}
use Rattle.std.proofs.lemmas.List.Elements.{All-nil, All-cons, All-head, All-tail}
use Rattle.script_lang.specs.Line.{line, HasNoEnd}
use Rattle.script_lang.proofs.LineLemmas.{line_once, line_has_end, free_append, no_end_by_test}
use Rattle.script_lang.proofs.NumberLemmas.{decimal_has_no_end}
use Rattle.clock_import.specs.declared.log.Act.{Act}
use Rattle.clock_import.specs.declared.log.Act.TheVariants.{Local, Send, Receive, Bad}
use Rattle.clock_import.specs.declared.log.LogLine.{LogLine}
use Rattle.clock_import.specs.Log.{IsAct, IsLine, words_of, line_text, is_good, first_line, Parses}
use Rattle.clock_import.specs.Reading.{Gives, IsReadAs, ReadLine, IsReadLine, IsReadTo, StopsAt, BeginsWithFirst}
use Rattle.clock_import.specs.Read.{both_words}
use Rattle.clock_import.specs.Laws.{BadLinesAreInNoLog, TheBadLineIsOne, ASpellingIsOfOneLog}
use Rattle.clock_import.proofs.ReadLemmas.{first_no_end, decimal_no_space, both_cut}

-- words of a number and a message are of one pair
both_once : (p m p' m' : ℕ) → p < 2 ^ 64 → m < 2 ^ 64 → p' < 2 ^ 64 → m' < 2 ^ 64 → both_words (p, m) ≡ both_words (p', m') → (p ≡ p') × (m ≡ m')
both_once p m p' m' fit fit' fit_ fit_' same =
    let cut = both_cut (both_words (p, m)) (decimal p) (decimal m) p' m' fit_ (decimal_no_space p fit) (append_assoc (decimal p) (32 ∷ []) (decimal m)) same in
    (decimal_injective p p' fit fit_ cut.0, decimal_injective m m' fit' fit_' cut.1)

of_parts : (one other : LogLine) → one.process ≡ other.process → one.act ≡ other.act → one ≡ other
of_parts one other p a =
    ap (λ (n : ℕ). let l : LogLine = record { process = n; act = one.act } in l) p ∙ ap (λ (act : Act). let l : LogLine = record { process = other.process; act = act } in l) a

-- a text is of one process and act
words_once : (p p' : ℕ) (act act' : Act) → p ≤ 64 → p' ≤ 64 → IsAct act → IsAct act' → words_of p act ≡ words_of p' act' → (p ≡ p') × (act ≡ act')
words_once p p' Local Local low low' fit fit' same =
    (decimal_injective p p' (omega arith) (omega arith) (append_cancel_left (codes "local ") (decimal p) (decimal p') same), refl)
words_once p p' (Send m) (Send m') low low' fit fit' same =
    let once = both_once p m p' m' (omega arith) (omega (arith, fit.high)) (omega arith) (omega (arith, fit'.high)) (append_cancel_left (codes "send ") (both_words (p, m)) (both_words (p', m')) same) in (once.0, ap Send once.1)
words_once p p' (Receive m) (Receive m') low low' fit fit' same =
    let once = both_once p m p' m' (omega arith) (omega (arith, fit.high)) (omega arith) (omega (arith, fit'.high)) (append_cancel_left (codes "receive ") (both_words (p, m)) (both_words (p', m')) same) in (once.0, ap Receive once.1)
words_once p p' Local (Send m') low low' fit fit' same =
    let heads : 108 ≡ 115 = ap (λ (xs : List ℕ). get_or xs 0 0) same in
    let none : ⊥ = omega (arith, heads) in
    absurd none
words_once p p' Local (Receive m') low low' fit fit' same =
    let heads : 108 ≡ 114 = ap (λ (xs : List ℕ). get_or xs 0 0) same in
    let none : ⊥ = omega (arith, heads) in
    absurd none
words_once p p' (Send m) Local low low' fit fit' same =
    let heads : 115 ≡ 108 = ap (λ (xs : List ℕ). get_or xs 0 0) same in
    let none : ⊥ = omega (arith, heads) in
    absurd none
words_once p p' (Send m) (Receive m') low low' fit fit' same =
    let heads : 115 ≡ 114 = ap (λ (xs : List ℕ). get_or xs 0 0) same in
    let none : ⊥ = omega (arith, heads) in
    absurd none
words_once p p' (Receive m) Local low low' fit fit' same =
    let heads : 114 ≡ 108 = ap (λ (xs : List ℕ). get_or xs 0 0) same in
    let none : ⊥ = omega (arith, heads) in
    absurd none
words_once p p' (Receive m) (Send m') low low' fit fit' same =
    let heads : 114 ≡ 115 = ap (λ (xs : List ℕ). get_or xs 0 0) same in
    let none : ⊥ = omega (arith, heads) in
    absurd none
words_once p p' Bad act' low low' fit fit' same = absurd fit
words_once p p' act Bad low low' fit fit' same = absurd fit'

-- what a text is read as, by the act
abbrev GivesGood : ℕ → List ℕ → LogLine → Type 0
GivesGood processes text entry = IsLine processes entry × (text ≡ line_text entry)

abbrev GivesBad : ℕ → List ℕ → LogLine → Type 0
GivesBad processes text entry = (entry.process ≡ 0) × (entry.act ≡ Bad) × ((other : LogLine) → IsLine processes other → text ≢ line_text other)

gives_cases : (processes : ℕ) (text : List ℕ) (entry : LogLine) (act : Act) → entry.act ≡ act → Gives processes text entry act → GivesGood processes text entry ⊎ GivesBad processes text entry
gives_cases processes text entry Local is gives = inl gives
gives_cases processes text entry (Send m) is gives = inl gives
gives_cases processes text entry (Receive m) is gives = inl gives
gives_cases processes text entry Bad is gives = inr (gives.0, is, gives.1)

read_once : (processes : ℕ) (text : List ℕ) (one other : LogLine) → processes ≤ 64 → GivesGood processes text one ⊎ GivesBad processes text one → GivesGood processes text other ⊎ GivesBad processes text other → one ≡ other
read_once processes text one other few (inl good) (inl good') =
    let low = good.0.process.high in
    let low' = good'.0.process.high in
    let once = words_once one.process other.process one.act other.act (omega arith) (omega arith) good.0.act good'.0.act (sym good.1 ∙ good'.1) in
    of_parts one other once.0 once.1
read_once processes text one other few (inl good) (inr bad) = absurd (bad.2 one good.0 good.1)
read_once processes text one other few (inr bad) (inl good) = absurd (bad.2 other good.0 good.1)
read_once processes text one other few (inr bad) (inr bad') =
    of_parts one other (bad.0 ∙ sym bad'.0) (bad.1 ∙ sym bad'.1)

-- lines that are read, and the rest behind them, are read in one way, where k lines stand before them
reads_once : (processes k : ℕ) (reads reads' : List ReadLine) (rest rest' : List ℕ) → processes ≤ 64 → All (IsReadLine processes) reads → All (IsReadLine processes) reads' → k + length reads ≤ 20000 → k + length reads' ≤ 20000 → HasNoEnd rest ⊎ (k + length reads ≡ 20000) → HasNoEnd rest' ⊎ (k + length reads' ≡ 20000) → flat_map (λ (r : ReadLine). line r.text) reads ++ rest ≡ flat_map (λ (r : ReadLine). line r.text) reads' ++ rest' → (map (λ (r : ReadLine). r.entry) reads ≡ map (λ (r : ReadLine). r.entry) reads') × (rest ≡ rest')
reads_once processes k [] [] rest rest' few each each' le le' ends ends' same = (refl, same)
reads_once processes k [] (r ∷ reads) rest rest' few each each' le le' ends ends' same =
    ⊎_elim (λ (free : HasNoEnd rest). absurd (line_has_end r.text (flat_map (λ (r : ReadLine). line r.text) reads ++ rest') (subst HasNoEnd (same ∙ append_assoc (line r.text) (flat_map (λ (r : ReadLine). line r.text) reads) rest') free))) (λ (full : k + 0 ≡ 20000). absurd (omega arith)) ends
reads_once processes k (r ∷ reads) [] rest rest' few each each' le le' ends ends' same =
    ⊎_elim (λ (free : HasNoEnd rest'). absurd (line_has_end r.text (flat_map (λ (r : ReadLine). line r.text) reads ++ rest) (subst HasNoEnd (sym same ∙ append_assoc (line r.text) (flat_map (λ (r : ReadLine). line r.text) reads) rest) free))) (λ (full : k + 0 ≡ 20000). absurd (omega arith)) ends'
reads_once processes k (r ∷ reads) (r' ∷ reads') rest rest' few each each' le le' ends ends' same =
    let one = All-head (IsReadLine processes) r reads each in
    let other = All-head (IsReadLine processes) r' reads' each' in
    let cut = line_once r.text (flat_map (λ (r : ReadLine). line r.text) reads ++ rest) r'.text (flat_map (λ (r : ReadLine). line r.text) reads' ++ rest') one.no_end other.no_end (sym (append_assoc (line r.text) (flat_map (λ (r : ReadLine). line r.text) reads) rest) ∙ same ∙ append_assoc (line r'.text) (flat_map (λ (r : ReadLine). line r.text) reads') rest') in
    let entry_is = read_once processes r.text r.entry r'.entry few (gives_cases processes r.text r.entry r.entry.act refl one.gives) (gives_cases processes r.text r'.entry r'.entry.act refl (subst (λ t. IsReadAs processes t r'.entry) (sym cut.0) other.gives)) in
    let next : k + 1 + length reads ≡ k + length (r ∷ reads) = omega arith in
    let next' : k + 1 + length reads' ≡ k + length (r' ∷ reads') = omega arith in
    let others = reads_once processes (k + 1) reads reads' rest rest' few (All-tail (IsReadLine processes) r reads each) (All-tail (IsReadLine processes) r' reads' each') (omega arith) (omega arith) (⊎_elim (λ (free : HasNoEnd rest). inl free) (λ (full : k + length (r ∷ reads) ≡ 20000). inr (next ∙ full)) ends) (⊎_elim (λ (free : HasNoEnd rest'). inl free) (λ (full : k + length (r' ∷ reads') ≡ 20000). inr (next' ∙ full)) ends') cut.1 in
    (ap (λ e. e ∷ map (λ (r : ReadLine). r.entry) reads) entry_is ∙ ap (λ es. r'.entry ∷ es) others.0, others.1)

-- two readings of the same bytes agree
record SameReading (processes : ℕ) (lines : List LogLine) (rest : List ℕ) (processes' : ℕ) (lines' : List LogLine) (rest' : List ℕ) : Type 0 where
  pub processes_are : processes ≡ processes'
  pub lines_are : lines ≡ lines'
  pub rest_is : rest ≡ rest'

reading_once : (bytes : List ℕ) (processes : ℕ) (lines : List LogLine) (rest : List ℕ) (processes' : ℕ) (lines' : List LogLine) (rest' : List ℕ) → IsReadTo bytes processes lines rest → IsReadTo bytes processes' lines' rest' → SameReading processes lines rest processes' lines' rest'
reading_once bytes processes lines rest processes' lines' rest' one other =
    let low = one.processes_fit.high in
    let low' = other.processes_fit.high in
    let cut = line_once (codes "processes " ++ decimal processes) (flat_map (λ (r : ReadLine). line r.text) one.reads ++ rest) (codes "processes " ++ decimal processes') (flat_map (λ (r : ReadLine). line r.text) other.reads ++ rest') (first_no_end processes one.processes_fit) (first_no_end processes' other.processes_fit) (sym (append_assoc (first_line processes) (flat_map (λ (r : ReadLine). line r.text) one.reads) rest) ∙ sym one.whole ∙ other.whole ∙ append_assoc (first_line processes') (flat_map (λ (r : ReadLine). line r.text) other.reads) rest') in
    let number : processes ≡ processes' = decimal_injective processes processes' (omega arith) (omega arith) (append_cancel_left (codes "processes ") (decimal processes) (decimal processes') cut.0) in
    let many : length one.reads ≡ length lines = sym (ap length one.lines_are ∙ length-map one.reads (λ (r : ReadLine). r.entry)) in
    let many' : length other.reads ≡ length lines' = sym (ap length other.lines_are ∙ length-map other.reads (λ (r : ReadLine). r.entry)) in
    let few = one.few in
    let few' = other.few in
    let each' = subst (λ n. All (IsReadLine n) other.reads) (sym number) other.each in
    let all = reads_once processes 0 one.reads other.reads rest rest' low one.each each' (omega arith) (omega arith) (⊎_elim (λ (free : HasNoEnd rest). inl free) (λ (full : length lines ≡ 20000). inr (omega arith)) one.ends) (⊎_elim (λ (free : HasNoEnd rest'). inl free) (λ (full : length lines' ≡ 20000). inr (omega arith)) other.ends) cut.1 in
    record { processes_are = number; lines_are = one.lines_are ∙ all.0 ∙ sym other.lines_are; rest_is = all.1 }

-- a log is read as it is spelt
abbrev spelt_reads : List LogLine → List ReadLine
spelt_reads [] = []
spelt_reads (entry ∷ lines) = record { text = line_text entry; entry = entry } ∷ spelt_reads lines

words_no_end : (p : ℕ) (act : Act) → p ≤ 64 → IsAct act → HasNoEnd (words_of p act)
words_no_end p Local low fit =
    free_append (codes "local ") (decimal p) (no_end_by_test (codes "local ") refl) (decimal_has_no_end p (omega arith))
words_no_end p (Send m) low fit =
    free_append (codes "send ") (both_words (p, m)) (no_end_by_test (codes "send ") refl) (both_no_end p m low (omega (arith, fit.high)))
  where
    both_no_end : (p m : ℕ) → p ≤ 64 → m < 2 ^ 64 → HasNoEnd (both_words (p, m))
    both_no_end p m low fit =
        free_append (decimal p ++ codes " ") (decimal m) (free_append (decimal p) (codes " ") (decimal_has_no_end p (omega arith)) (no_end_by_test (codes " ") refl)) (decimal_has_no_end m fit)
words_no_end p (Receive m) low fit =
    free_append (codes "receive ") (both_words (p, m)) (no_end_by_test (codes "receive ") refl) (free_append (decimal p ++ codes " ") (decimal m) (free_append (decimal p) (codes " ") (decimal_has_no_end p (omega arith)) (no_end_by_test (codes " ") refl)) (decimal_has_no_end m (omega (arith, fit.high))))
words_no_end p Bad low fit = absurd fit

gives_own : (processes : ℕ) (entry : LogLine) (act : Act) → IsAct act → IsLine processes entry → Gives processes (line_text entry) entry act
gives_own processes entry Local fit is = (is, refl)
gives_own processes entry (Send m) fit is = (is, refl)
gives_own processes entry (Receive m) fit is = (is, refl)
gives_own processes entry Bad fit is = absurd fit

record AreSpelt (processes : ℕ) (lines : List LogLine) : Type 0 where
  pub each : All (IsReadLine processes) (spelt_reads lines)
  pub lines_are : lines ≡ map (λ (r : ReadLine). r.entry) (spelt_reads lines)
  pub texts : flat_map (λ (entry : LogLine). line (line_text entry)) lines ≡ flat_map (λ (r : ReadLine). line r.text) (spelt_reads lines)

are_spelt : (processes : ℕ) (lines : List LogLine) → processes ≤ 64 → All (IsLine processes) lines → AreSpelt processes lines
are_spelt processes [] few each = record { each = All-nil (IsReadLine processes); lines_are = refl; texts = refl }
are_spelt processes (entry ∷ lines) few each =
    let others = are_spelt processes lines few (All-tail (IsLine processes) entry lines each) in
    let this = All-head (IsLine processes) entry lines each in
    let high = this.process.high in
    record {
      each = All-cons (IsReadLine processes) (record { text = line_text entry; entry = entry }) (spelt_reads lines) (record { no_end = words_no_end entry.process entry.act (omega arith) this.act; gives = gives_own processes entry entry.act this.act this }) others.each;
      lines_are = ap (λ ls. entry ∷ ls) others.lines_are;
      texts = ap (λ t. line (line_text entry) ++ t) others.texts;
    }

parsed_reading : (bytes : List ℕ) (processes : ℕ) (lines : List LogLine) → Parses bytes processes lines → IsReadTo bytes processes lines []
parsed_reading bytes processes lines parses =
    let spelt = are_spelt processes lines parses.fit.processes_fit.high parses.fit.each in
    record {
      processes_fit = parses.fit.processes_fit;
      reads = spelt_reads lines;
      each = spelt.each;
      lines_are = spelt.lines_are;
      whole = parses.spelt ∙ ap (λ t. first_line processes ++ t) spelt.texts ∙ sym (append-nil (first_line processes ++ flat_map (λ (r : ReadLine). line r.text) (spelt_reads lines)));
      few = parses.fit.few;
      ends = inl (All-nil (λ b. b ≢ 10));
    }

pub one_log : ASpellingIsOfOneLog
one_log bytes processes lines processes' lines' one other =
    let same = reading_once bytes processes lines [] processes' lines' [] (parsed_reading bytes processes lines one) (parsed_reading bytes processes' lines' other) in
    (same.processes_are, same.lines_are)

begins : (bytes : List ℕ) (processes : ℕ) (lines : List LogLine) (rest : List ℕ) → IsReadTo bytes processes lines rest → BeginsWithFirst bytes
begins bytes processes lines rest read =
    (processes, flat_map (λ (r : ReadLine). line r.text) read.reads ++ rest, read.processes_fit, read.whole ∙ append_assoc (first_line processes) (flat_map (λ (r : ReadLine). line r.text) read.reads) rest)

-- the first bad line is the same in two readings
stops_once : (bytes : List ℕ) (m n : ℕ) → (one : StopsAt bytes m) → (other : StopsAt bytes n) → m ≡ n
stops_once bytes m n one other =
    let same = reading_once bytes one.processes one.lines one.rest other.processes other.lines other.rest one.read other.read in
    let number = one.number in
    let number' = other.number in
    ⊎_elim
    (λ (less : one.index < other.index). absurd (false≢true (sym one.bad ∙ ap (λ ls. is_good ls one.index) same.lines_are ∙ other.good one.index less)))
    (λ (more : other.index ≤ one.index).
    ⊎_elim
    (λ (less : other.index < one.index). absurd (false≢true (sym other.bad ∙ ap (λ ls. is_good ls other.index) (sym same.lines_are) ∙ one.good other.index less)))
    (λ (least : one.index ≤ other.index). omega arith)
    (cases_lt other.index one.index))
    (cases_lt one.index other.index)

pub one_bad_line : TheBadLineIsOne
one_bad_line bytes m n (inl one) (inl other) = one.0 ∙ sym other.0
one_bad_line bytes m n (inl one) (inr other) = absurd (one.1 (begins bytes other.processes other.lines other.rest other.read))
one_bad_line bytes m n (inr one) (inl other) = absurd (other.1 (begins bytes one.processes one.lines one.rest one.read))
one_bad_line bytes m n (inr one) (inr other) = stops_once bytes m n one other

pub no_log : BadLinesAreInNoLog
no_log bytes n processes lines (inl bad) parses =
    bad.1 (begins bytes processes lines [] (parsed_reading bytes processes lines parses))
no_log bytes n processes lines (inr bad) parses =
    let same = reading_once bytes bad.processes bad.lines bad.rest processes lines [] bad.read (parsed_reading bytes processes lines parses) in
    let within = bad.within in
    let many : length bad.lines ≡ length lines = ap length same.lines_are in
    ⊎_elim
    (λ (last : bad.index ≡ length bad.lines). bad.more last same.rest_is)
    (λ (other : bad.index ≡ length bad.lines → ⊥). false≢true (sym bad.bad ∙ ap (λ ls. is_good ls bad.index) same.lines_are ∙ parses.fit.good bad.index (omega arith)))
    (cases_eq bad.index (length bad.lines))
