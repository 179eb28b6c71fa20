-- Logs are read line by line.
use Rattle.std.proofs.Common.{◌≡◌, ◌≢◌, ℕ, ◌^◌, ◌<◌, ◌≤◌, false, true, List, [], ◌∷◌, ◌++◌, length, get_or, drop, refl, sym, ap, ◌∙◌, subst, arith, append_assoc, None}
use Rattle.std.specs.Prelude.{All, map, flat_map, codes}
use Rattle.std.specs.Fmt.{decimal}
use Rattle.std.proofs.lemmas.Bool.{false≢true}
use Rattle.std.proofs.lemmas.List.{length_push, map_push, flat_map_more, append-nil, append_cancel_left, get_or_past, get_or-map, length-map}
use Rattle.std.proofs.lemmas.List.Elements.{All-nil, All-cons, All-head, All-tail, All-push, All-weaker, All-from_get_or}
use Rattle.script_lang.specs.Line.{line, HasNoEnd, HasNoSpace, IsCut}
use Rattle.script_lang.specs.Number.{IsFromOneTo, IsDigit}
use Rattle.script_lang.specs.Reading.{Spells, AreFromOneTo}
use Rattle.script_lang.proofs.LineLemmas.{cut_once, line_once, line_has_end, free_append, no_end_by_test}
use Rattle.script_lang.proofs.NumberLemmas.{decimal_is_digits, decimal_has_no_end}
use Rattle.clock_import.specs.declared.log.Act.{Act}
use Rattle.clock_import.specs.declared.log.Act.TheVariants.{Local, Send, Receive, Bad}
use Rattle.clock_import.specs.declared.log.LogLine.{LogLine}
use Rattle.clock_import.specs.Log.{most_message, IsAct, IsLine, words_of, line_text, line_at, is_allowed, is_good, first_line, Parses}
use Rattle.clock_import.specs.Reading.{Gives, IsReadAs, ReadLine, IsReadLine, IsReadTo, BeginsWithFirst}
use Rattle.clock_import.specs.Read.{ReadsFirst, IsReadFrom, both_words}

-- the bytes are lines of which each is read, and then the rest
pub record IsReading (bytes : List ℕ) (processes : ℕ) (lines : List LogLine) (rest : List ℕ) : Type 0 where
  pub reads : List ReadLine
  pub each : All (IsReadLine processes) reads
  pub lines_are : lines ≡ map (λ read. read.entry) reads
  pub whole : bytes ≡ flat_map (λ read. line read.text) reads ++ rest
  pub few : length lines ≤ 20000

-- one line more is read
pub reading_more : (bytes : List ℕ) (processes : ℕ) (lines : List LogLine) (rest text more : List ℕ) (entry : LogLine) → IsReading bytes processes lines rest → IsCut rest text more → IsReadAs processes text entry → length lines < 20000 → IsReading bytes processes (lines ++ entry ∷ []) more
reading_more bytes processes lines rest text more entry before cut gives room =
    let read : ReadLine = record { text = text; entry = entry } in
    let many = length_push lines entry in
    let lines_text = flat_map_more (λ (r : ReadLine). line r.text) [] before.reads read in
    record {
      reads = before.reads ++ read ∷ [];
      each = All-push (IsReadLine processes) before.reads read before.each (record { no_end = cut.text_has_no_end; gives = gives });
      lines_are = ap (λ l. l ++ entry ∷ []) before.lines_are ∙ sym (map_push (λ (r : ReadLine). r.entry) before.reads read);
      whole = before.whole ∙ ap (λ r. flat_map (λ (r : ReadLine). line r.text) before.reads ++ r) cut.whole ∙ sym (append_assoc (flat_map (λ (r : ReadLine). line r.text) before.reads) (line text) more) ∙ ap (λ l. l ++ more) lines_text;
      few = omega arith;
    }

-- the first line has no LF in it
pub first_no_end : (processes : ℕ) → IsFromOneTo 64 processes → HasNoEnd (codes "processes " ++ decimal processes)
first_no_end processes fit =
    free_append (codes "processes ") (decimal processes) (no_end_by_test (codes "processes ") refl) (decimal_has_no_end processes (omega (arith, fit.high)))

-- bytes with no line begin with no first one
pub no_first : (bytes : List ℕ) → HasNoEnd bytes → BeginsWithFirst bytes → ⊥
no_first bytes free found = line_has_end (codes "processes " ++ decimal found.0) found.1 (subst HasNoEnd found.3 free)

-- nor do bytes whose line is another
pub other_first : (bytes text rest : List ℕ) → IsCut bytes text rest → ((n : ℕ) → IsFromOneTo 64 n → text ≢ codes "processes " ++ decimal n) → BeginsWithFirst bytes → ⊥
other_first bytes text rest cut other found =
    let same : line text ++ rest ≡ line (codes "processes " ++ decimal found.0) ++ found.1 = sym cut.whole ∙ found.3 in
    other found.0 found.2 ((line_once text rest (codes "processes " ++ decimal found.0) found.1 cut.text_has_no_end (first_no_end found.0 found.2) same).0)

-- a number has no space in it
pub decimal_no_space : (n : ℕ) → n < 2 ^ 64 → HasNoSpace (decimal n)
decimal_no_space n fits =
    All-weaker IsDigit (λ b. b ≢ 32) (λ b digit is. absurd (omega arith)) (decimal n) (decimal_is_digits n fits)

-- two numbers are cut in one way
pub both_cut : (words first second : List ℕ) (p m : ℕ) → p < 2 ^ 64 → HasNoSpace first → words ≡ first ++ 32 ∷ second → words ≡ both_words (p, m) → (first ≡ decimal p) × (second ≡ decimal m)
both_cut words first second p m fits free is same =
    let cut = cut_once (λ b. b ≢ 32) first (32 ∷ second) (decimal p) (32 ∷ decimal m) free (decimal_no_space p fits) (λ other. other refl) (λ other. other refl) (sym is ∙ same ∙ append_assoc (decimal p) (32 ∷ []) (decimal m)) in
    (cut.0, ap (drop 1) cut.1)

-- a text that is none of the three kinds of lines is a bad one
pub bad_text : (processes : ℕ) (text : List ℕ) → ((p : ℕ) → IsFromOneTo processes p → text ≢ codes "local " ++ decimal p) → ((p m : ℕ) → IsFromOneTo processes p → IsFromOneTo most_message m → text ≢ codes "send " ++ both_words (p, m)) → ((p m : ℕ) → IsFromOneTo processes p → IsFromOneTo most_message m → text ≢ codes "receive " ++ both_words (p, m)) → IsReadAs processes text (record { process = 0; act = Bad })
bad_text processes text no_local no_send no_receive = (refl, λ other fit is. by_act other fit is other.act refl fit.act)
  where
    spelt : (other : LogLine) → text ≡ line_text other → (act : Act) → other.act ≡ act → text ≡ words_of other.process act
    spelt other is act same = is ∙ ap (words_of other.process) same

    by_act : (other : LogLine) → IsLine processes other → text ≡ line_text other → (act : Act) → other.act ≡ act → IsAct other.act → ⊥
    by_act other fit is Local same act = no_local other.process fit.process (spelt other is Local same)
    by_act other fit is (Send m) same act =
        no_send other.process m fit.process (subst IsAct same act) (spelt other is (Send m) same)
    by_act other fit is (Receive m) same act =
        no_receive other.process m fit.process (subst IsAct same act) (spelt other is (Receive m) same)
    by_act other fit is Bad same act = subst IsAct same act

pub bad_send : (processes : ℕ) (words text : List ℕ) → Spells both_words (AreFromOneTo processes most_message) words None → text ≡ codes "send " ++ words → IsReadAs processes text (record { process = 0; act = Bad })
bad_send processes words text none is =
    bad_text processes text (λ p fit same. let heads : 115 ≡ 108 = ap (λ xs. get_or xs 0 0) (sym is ∙ same) in absurd (omega arith)) (λ p m fit fit' same. none (p, m) (record { first = fit; second = fit' }) (append_cancel_left (codes "send ") words (both_words (p, m)) (sym is ∙ same))) (λ p m fit fit' same. let heads : 115 ≡ 114 = ap (λ xs. get_or xs 0 0) (sym is ∙ same) in absurd (omega arith))

pub bad_receive : (processes : ℕ) (words text : List ℕ) → Spells both_words (AreFromOneTo processes most_message) words None → text ≡ codes "receive " ++ words → IsReadAs processes text (record { process = 0; act = Bad })
bad_receive processes words text none is =
    bad_text processes text (λ p fit same. let heads : 114 ≡ 108 = ap (λ xs. get_or xs 0 0) (sym is ∙ same) in absurd (omega arith)) (λ p m fit fit' same. let heads : 114 ≡ 115 = ap (λ xs. get_or xs 0 0) (sym is ∙ same) in absurd (omega arith)) (λ p m fit fit' same. none (p, m) (record { first = fit; second = fit' }) (append_cancel_left (codes "receive ") words (both_words (p, m)) (sym is ∙ same)))

-- the lines behind the first are read, and so all are
pub all_read : (bytes : List ℕ) (processes : ℕ) (behind : List ℕ) (lines : List LogLine) (rest : List ℕ) → ReadsFirst bytes processes behind → IsReadFrom behind processes lines rest → IsReadTo bytes processes lines rest
all_read bytes processes behind lines rest first read =
    record {
      processes_fit = first.fit;
      reads = read.reads;
      each = read.each;
      lines_are = read.lines_are;
      whole = first.whole ∙ ap (λ b. first_line processes ++ b) read.whole ∙ sym (append_assoc (first_line processes) (flat_map (λ (r : ReadLine). line r.text) read.reads) rest);
      few = read.few;
      ends = read.ends;
    }

past_bad : (lines : List LogLine) (i : ℕ) → length lines ≤ i → is_good lines i ≡ false
past_bad lines i past =
    ap (λ (entry : LogLine). is_allowed lines i entry.act) (get_or_past lines i (record { process = 0; act = Bad }) past)

-- what is read as a line that may stand there spells it
not_bad : (lines : List LogLine) (i : ℕ) (act : Act) → is_allowed lines i act ≡ true → act ≢ Bad
not_bad lines i act good same = false≢true (ap (is_allowed lines i) (sym same) ∙ good)

spells : (processes : ℕ) (text : List ℕ) (entry : LogLine) (act : Act) → act ≢ Bad → Gives processes text entry act → IsLine processes entry × (text ≡ line_text entry)
spells processes text entry Local other gives = gives
spells processes text entry (Send m) other gives = gives
spells processes text entry (Receive m) other gives = gives
spells processes text entry Bad other gives = absurd (other refl)

lines_spelt : (processes : ℕ) (reads : List ReadLine) → All (IsReadLine processes) reads → All (λ (r : ReadLine). r.entry.act ≢ Bad) reads → All (IsLine processes) (map (λ (r : ReadLine). r.entry) reads) × (flat_map (λ (r : ReadLine). line r.text) reads ≡ flat_map (λ (entry : LogLine). line (line_text entry)) (map (λ (r : ReadLine). r.entry) reads))
lines_spelt processes [] _ _ = (All-nil (IsLine processes), refl)
lines_spelt processes (read ∷ reads) each good =
    let others = lines_spelt processes reads (All-tail (IsReadLine processes) read reads each) (All-tail (λ (r : ReadLine). r.entry.act ≢ Bad) read reads good) in
    let this = All-head (IsReadLine processes) read reads each in
    let one = spells processes read.text read.entry read.entry.act (All-head (λ (r : ReadLine). r.entry.act ≢ Bad) read reads good) this.gives in (
      All-cons (IsLine processes) read.entry (map (λ (r : ReadLine). r.entry) reads) one.0 others.0,
      ap (λ t. line t ++ flat_map (λ (r : ReadLine). line r.text) reads) one.1 ∙ ap (λ l. line (line_text read.entry) ++ l) others.1,
    )

pub all_parsed : (bytes : List ℕ) (processes : ℕ) (lines : List LogLine) → IsReadTo bytes processes lines [] → ((i : ℕ) → i < length lines → is_good lines i ≡ true) → Parses bytes processes lines
all_parsed bytes processes lines read good =
    record {
      fit = record { processes_fit = read.processes_fit; few = read.few; each = subst (All (IsLine processes)) (sym read.lines_are) spelt.0; good = good };
      spelt = read.whole ∙ append-nil (first_line processes ++ flat_map (λ (r : ReadLine). line r.text) read.reads) ∙ ap (λ l. first_line processes ++ l) (spelt.1 ∙ ap (flat_map (λ (entry : LogLine). line (line_text entry))) (sym read.lines_are));
    }
  where
    many : length lines ≡ length read.reads
    many = ap length read.lines_are ∙ length-map read.reads (λ (r : ReadLine). r.entry)

    none : ReadLine
    none = record { text = []; entry = record { process = 0; act = Bad } }

    at : (i : ℕ) → i < length read.reads → line_at lines i ≡ (get_or read.reads i none).entry
    at i below = ap (λ l. line_at l i) read.lines_are ∙ get_or-map (λ (r : ReadLine). r.entry) read.reads i none (record { process = 0; act = Bad }) below

    each_good : All (λ (r : ReadLine). r.entry.act ≢ Bad) read.reads
    each_good =
        All-from_get_or (λ (r : ReadLine). r.entry.act ≢ Bad) read.reads none (λ i below. subst (λ (entry : LogLine). entry.act ≢ Bad) (at i below) (not_bad lines i (line_at lines i).act (good i (omega (arith, many)))))

    spelt : All (IsLine processes) (map (λ (r : ReadLine). r.entry) read.reads) × (flat_map (λ (r : ReadLine). line r.text) read.reads ≡ flat_map (λ (entry : LogLine). line (line_text entry)) (map (λ (r : ReadLine). r.entry) read.reads))
    spelt = lines_spelt processes read.reads read.each each_good
