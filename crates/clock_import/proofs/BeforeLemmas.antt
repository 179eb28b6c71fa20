-- Clocks say which event is before which.
use Rattle.std.proofs.Common.{◌≡◌, ℕ, zero, suc, ◌+◌, ◌-◌, ◌<◌, ◌≤◌, Bool, true, false, cond, eqb, leb, ◌&&◌, Some, List, [], length, get_or, refl, sym, ap, ◌∙◌, subst, inl, inr, ⊎_elim, arith}
use Rattle.std.specs.Prelude.{count_by}
use Rattle.std.specs.List.{range_with_len}
use Rattle.std.proofs.lemmas.Bool.{eqb-true, eq-eqb, false≢true, and_parts, and_from, cases_eq, cases_lt, le-leb, leb-true, false_from_ne_true}
use Rattle.std.proofs.lemmas.List.{get_or_default}
use Rattle.std.proofs.lemmas.List.Elements.{All-get_or}
use Rattle.script_lang.specs.Number.{IsFromOneTo}
use Rattle.std.proofs.lemmas.List.FromFn.{get_or-map-range_with_len, length-map-range_with_len}
use Rattle.kr_order.specs.Order.{reach}
use Rattle.clock_import.specs.declared.log.Act.TheVariants.{Bad}
use Rattle.clock_import.specs.Laws.{ClocksSayWhatIsBefore}
use Rattle.clock_import.specs.declared.log.LogLine.{LogLine}
use Rattle.clock_import.specs.declared.imported.Clocked.{Clocked}
use Rattle.clock_import.specs.declared.imported.Imported.{Imported}
use Rattle.clock_import.specs.Log.{IsLine, line_at}
use Rattle.clock_import.specs.Pairs.{pairs_of_log, numbered}
use Rattle.clock_import.specs.Clocks.{knows, component, clock_of, clocked_of, clocks_of_log}
use Rattle.clock_import.specs.Joins.{part_of}
use Rattle.clock_import.specs.Imported.{IsImported}
use Rattle.clock_import.proofs.PairLemmas.{AreGood}
use Rattle.clock_import.proofs.ClockLemmas.{Knows, knows_is, knows_holds, knows_trans, knows_own, count_more}

count_next : (t : ℕ → Bool) (n : ℕ) → count_by t (range_with_len 0 (suc n)) ≡ count_by t (range_with_len 0 n) + cond (t n) 1 0
count_next t n = let next : suc n ≡ n + 1 = omega arith in ap (λ k. count_by t (range_with_len 0 k)) next ∙ count_more t n

-- a test that passes wherever another does passes at least as often
count_wider : (t u : ℕ → Bool) → (n : ℕ) → ((f : ℕ) → f < n → t f ≡ true → u f ≡ true) → count_by t (range_with_len 0 n) ≤ count_by u (range_with_len 0 n)
count_wider t u zero wider = omega arith
count_wider t u (suc n) wider =
    let before = count_wider t u n (λ f below passes. wider f (omega arith) passes) in
    let one = count_next t n in
    let other = count_next u n in
    let last = last_wider (t n) refl in
    omega (arith, before, one, other, last)
  where
    last_wider : (b : Bool) → t n ≡ b → cond {A = ℕ} (t n) 1 0 ≤ cond {A = ℕ} (u n) 1 0
    last_wider true is =
        let passes : cond {A = ℕ} (u n) 1 0 ≡ 1 = ap (λ b. cond b 1 0) (wider n (omega arith) is) in
        let this : cond {A = ℕ} (t n) 1 0 ≡ 1 = ap (λ b. cond b 1 0) is in
        omega arith
    last_wider false is = let this : cond {A = ℕ} (t n) 1 0 ≡ 0 = ap (λ b. cond b 1 0) is in omega arith

-- and more often where it passes at one place more
count_more_often : (t u : ℕ → Bool) → (n k : ℕ) → k < n → t k ≡ false → u k ≡ true → ((f : ℕ) → f < n → t f ≡ true → u f ≡ true) → count_by t (range_with_len 0 n) < count_by u (range_with_len 0 n)
count_more_often t u zero k below fails passes wider = absurd (omega arith)
count_more_often t u (suc n) k below fails passes wider =
    let one = count_next t n in
    let other = count_next u n in
    ⊎_elim
    (λ (here : k ≡ n).
    let before = count_wider t u n (λ f low passes. wider f (omega arith) passes) in
    let this : cond {A = ℕ} (t n) 1 0 ≡ 0 = ap (λ b. cond b 1 0) (ap t (sym here) ∙ fails) in
    let that : cond {A = ℕ} (u n) 1 0 ≡ 1 = ap (λ b. cond b 1 0) (ap u (sym here) ∙ passes) in
    omega (arith, before, one, other, this, that))
    (λ (apart : k ≡ n → ⊥).
    let before = count_more_often t u n k (omega arith) fails passes (λ f low passes. wider f (omega arith) passes) in
    let last = last_wider (t n) refl in
    omega (arith, before, one, other, last))
    (cases_eq k n)
  where
    last_wider : (b : Bool) → t n ≡ b → cond {A = ℕ} (t n) 1 0 ≤ cond {A = ℕ} (u n) 1 0
    last_wider true is =
        let passes : cond {A = ℕ} (u n) 1 0 ≡ 1 = ap (λ b. cond b 1 0) (wider n (omega arith) is) in
        let this : cond {A = ℕ} (t n) 1 0 ≡ 1 = ap (λ b. cond b 1 0) is in
        omega arith
    last_wider false is = let this : cond {A = ℕ} (t n) 1 0 ≡ 0 = ap (λ b. cond b 1 0) is in omega arith

-- what an event knows, those know that know it
pub component_rises : (lines : List LogLine) (a b p : ℕ) → reach (pairs_of_log lines) (a + 1) (b + 1) ≡ true → component lines a p ≤ component lines b p
component_rises lines a b p path =
    count_wider (λ f. eqb (line_at lines f).process p && knows (pairs_of_log lines) a f) (λ f. eqb (line_at lines f).process p && knows (pairs_of_log lines) b f) (length lines) (λ f below passes.
    let both = and_parts (eqb (line_at lines f).process p) (knows (pairs_of_log lines) a f) passes in
    and_from (eqb (line_at lines f).process p) (knows (pairs_of_log lines) b f) both.0 (knows_holds lines b f (knows_trans lines b a f (inr path) (knows_is lines a f both.1))))

-- an event that another does not know knows more of its own process than the other
pub component_shows : (lines : List LogLine) (a b : ℕ) → AreGood lines → a < length lines → knows (pairs_of_log lines) b a ≡ false → component lines b (line_at lines a).process < component lines a (line_at lines a).process
component_shows lines a b good below unknown =
    count_more_often (λ f. eqb (line_at lines f).process (line_at lines a).process && knows (pairs_of_log lines) b f) (λ f. eqb (line_at lines f).process (line_at lines a).process && knows (pairs_of_log lines) a f) (length lines) a below (ap (λ t. eqb (line_at lines a).process (line_at lines a).process && t) unknown ∙ and_false (eqb (line_at lines a).process (line_at lines a).process)) (and_from (eqb (line_at lines a).process (line_at lines a).process) (knows (pairs_of_log lines) a a) (eq-eqb (line_at lines a).process (line_at lines a).process refl) (knows_holds lines a a (inl refl))) (λ f low passes.
    let both = and_parts (eqb (line_at lines f).process (line_at lines a).process) (knows (pairs_of_log lines) b f) passes in
    and_from (eqb (line_at lines f).process (line_at lines a).process) (knows (pairs_of_log lines) a f) both.0 (by_place f low (eqb-true (line_at lines f).process (line_at lines a).process both.0) (knows_is lines b f both.1)))
  where
    and_false : (b : Bool) → b && false ≡ false
    and_false true = refl
    and_false false = refl

    by_place : (f : ℕ) → f < length lines → (line_at lines f).process ≡ (line_at lines a).process → Knows lines b f → knows (pairs_of_log lines) a f ≡ true
    by_place f low same known =
        ⊎_elim
        (λ (later : a < f).
        let own = knows_own lines (f + 1) f a good (omega arith) low (omega arith) (sym same) in
        absurd (false≢true (sym unknown ∙ knows_holds lines b a (knows_trans lines b f a known own))))
        (λ (earlier : f ≤ a). knows_holds lines a f (knows_own lines (a + 1) a f good (omega arith) below earlier same))
        (cases_lt a f)

-- of two events one is before the other exactly where its clock is at most the other's at its own process
pub before_by_own : (lines : List LogLine) (a b : ℕ) → AreGood lines → a < length lines → (a ≡ b → ⊥) → component lines a (line_at lines a).process ≤ component lines b (line_at lines a).process → reach (pairs_of_log lines) (a + 1) (b + 1) ≡ true
before_by_own lines a b good below apart le = by_known (knows (pairs_of_log lines) b a) refl
  where
    by_known : (known : Bool) → knows (pairs_of_log lines) b a ≡ known → reach (pairs_of_log lines) (a + 1) (b + 1) ≡ true
    by_known true is =
        ⊎_elim (λ (same : a ≡ b). absurd (apart same)) (λ (path : reach (pairs_of_log lines) (a + 1) (b + 1) ≡ true). path) (knows_is lines b a is)
    by_known false is = let more = component_shows lines a b good below is in absurd (omega arith)

part_at : (processes : ℕ) (lines : List LogLine) (e p : ℕ) → p < processes → get_or (clock_of processes lines e) p 0 ≡ component lines e (p + 1)
part_at processes lines e p below =
    get_or-map-range_with_len (component lines e) 1 processes p (p + 1) 0 below (omega arith)

pub clocks_say : ClocksSayWhatIsBefore
clocks_say processes lines log a b below below' apart = (
  (λ path p low. subst (λ n. n ≤ get_or (clock_of processes lines b) p 0) (sym (part_at processes lines a p low)) (subst (λ n. component lines a (p + 1) ≤ n) (sym (part_at processes lines b p low)) (component_rises lines a b (p + 1) path))),
  (λ least.
      let good : AreGood lines = record { good = log.good } in
      let line = All-get_or (IsLine processes) lines a (record { process = 0; act = Bad }) below log.each in
      let from = line.process.low in
      let to = line.process.high in
      let own : ((line_at lines a).process - 1) + 1 ≡ (line_at lines a).process = omega arith in
      let low : (line_at lines a).process - 1 < processes = omega arith in
      let parts : component lines a (((line_at lines a).process - 1) + 1) ≤ component lines b (((line_at lines a).process - 1) + 1) = subst (λ n. n ≤ component lines b (((line_at lines a).process - 1) + 1)) (part_at processes lines a ((line_at lines a).process - 1) low) (subst (λ n. get_or (clock_of processes lines a) ((line_at lines a).process - 1) 0 ≤ n) (part_at processes lines b ((line_at lines a).process - 1) low) (least ((line_at lines a).process - 1) low)) in
      before_by_own lines a b good below apart (subst (λ p. component lines a p ≤ component lines b p) own parts)),
)

-- what the parts of two clocks say, as a test
pub own_says : (processes : ℕ) (lines : List LogLine) (a b : ℕ) → AreGood lines → a < length lines → (a ≡ b → ⊥) → leb (component lines a (line_at lines a).process) (component lines b (line_at lines a).process) ≡ reach (pairs_of_log lines) (a + 1) (b + 1)
own_says processes lines a b good below apart = by_path (reach (pairs_of_log lines) (a + 1) (b + 1)) refl
  where
    by_path : (path : Bool) → reach (pairs_of_log lines) (a + 1) (b + 1) ≡ path → leb (component lines a (line_at lines a).process) (component lines b (line_at lines a).process) ≡ path
    by_path true is = le-leb (component lines a (line_at lines a).process) (component lines b (line_at lines a).process) (component_rises lines a b (line_at lines a).process is)
    by_path false is =
        false_from_ne_true (leb (component lines a (line_at lines a).process) (component lines b (line_at lines a).process)) (λ le. false≢true (sym is ∙ before_by_own lines a b good below apart (leb-true (component lines a (line_at lines a).process) (component lines b (line_at lines a).process) le)))

-- the clock of an event that was imported, at a process
imported_part : (processes : ℕ) (lines : List LogLine) (events : List Clocked) (e p : ℕ) → events ≡ clocks_of_log processes lines → e < length lines → 1 ≤ p → p ≤ processes → part_of events (Some e) p ≡ component lines e p
imported_part processes lines events e p is below low high =
    let turn : (p - 1) + 1 ≡ p = omega arith in
    ap (λ es. part_of es (Some e) p) is ∙ ap (λ (c : Clocked). get_or c.clock (p - 1) 0) (get_or-map-range_with_len (clocked_of processes lines) 0 (length lines) e e (record { process = 0; clock = [] }) below (omega arith)) ∙ part_at processes lines e (p - 1) (omega arith) ∙ ap (component lines e) turn

-- so one event is before another
pub before_is : (imported : Imported) → IsImported imported → (a b process : ℕ) → 1 ≤ a → a ≤ length imported.events → 1 ≤ b → b ≤ length imported.events → (a ≡ b → ⊥) → process ≡ (get_or imported.events (a - 1) (record { process = 0; clock = [] })).process → leb (part_of imported.events (Some (a - 1)) process) (part_of imported.events (Some (b - 1)) process) ≡ reach (numbered imported.pairs) a b
before_is imported is a b process low high low' high' apart of =
    let lines = is.lines in
    let tells = is.tells in
    let many : length imported.events ≡ length lines = ap length tells.events ∙ length-map-range_with_len (clocked_of imported.processes lines) 0 (length lines) in
    let below : a - 1 < length lines = omega arith in
    let below' : b - 1 < length lines = omega arith in
    let line = All-get_or (IsLine imported.processes) lines (a - 1) (record { process = 0; act = Bad }) below tells.fit.each in
    let own : process ≡ (line_at lines (a - 1)).process = of ∙ ap (λ (es : List Clocked). (get_or es (a - 1) (record { process = 0; clock = [] })).process) tells.events ∙ ap (λ (c : Clocked). c.process) (get_or-map-range_with_len (clocked_of imported.processes lines) 0 (length lines) (a - 1) (a - 1) (record { process = 0; clock = [] }) below (omega arith)) in
    let first : 1 ≤ process = subst (λ p. 1 ≤ p) (sym own) line.process.low in
    let last : process ≤ imported.processes = subst (λ p. p ≤ imported.processes) (sym own) line.process.high in
    let one = imported_part imported.processes lines imported.events (a - 1) process tells.events below first last in
    let other = imported_part imported.processes lines imported.events (b - 1) process tells.events below' first last in
    let good : AreGood lines = record { good = tells.fit.good } in
    let differ : a - 1 ≡ b - 1 → ⊥ = λ same. apart (omega arith) in
    let turn : (a - 1) + 1 ≡ a = omega arith in
    let turn' : (b - 1) + 1 ≡ b = omega arith in
    ap (λ n. leb n (part_of imported.events (Some (b - 1)) process)) one ∙ ap (λ n. leb (component lines (a - 1) process) n) other ∙ ap (λ p. leb (component lines (a - 1) p) (component lines (b - 1) p)) own ∙ own_says imported.processes lines (a - 1) (b - 1) good below differ ∙ ap (λ x. reach (pairs_of_log lines) x ((b - 1) + 1)) turn ∙ ap (λ y. reach (pairs_of_log lines) a y) turn' ∙ ap (λ ps. reach ps a b) (sym tells.pairs)

-- the same of what the code reads
pub before_at : (imported : Imported) → IsImported imported → (a b : ℕ) (slice : List Clocked) (elem d : Clocked) (x y : ℕ) → IsFromOneTo (length imported.events) a → IsFromOneTo (length imported.events) b → (a ≡ b → ⊥) → slice ≡ imported.events → elem ≡ get_or slice (a - 1) d → x ≡ part_of slice (Some (a - 1)) elem.process → y ≡ part_of slice (Some (b - 1)) elem.process → leb x y ≡ reach (numbered imported.pairs) a b
before_at imported is a b slice elem d x y fit fit' apart same read is-x is-y =
    let low = fit.low in
    let high = fit.high in
    let many : length slice ≡ length imported.events = ap length same in
    let read_it : elem ≡ get_or slice (a - 1) (record { process = 0; clock = [] }) = read ∙ get_or_default slice (a - 1) d (record { process = 0; clock = [] }) (omega arith) in
    let own : elem.process ≡ (get_or imported.events (a - 1) (record { process = 0; clock = [] })).process = ap (λ (c : Clocked). c.process) read_it ∙ ap (λ (es : List Clocked). (get_or es (a - 1) (record { process = 0; clock = [] })).process) same in
    ap (λ n. leb n y) (is-x ∙ ap (λ es. part_of es (Some (a - 1)) elem.process) same) ∙ ap (λ n. leb (part_of imported.events (Some (a - 1)) elem.process) n) (is-y ∙ ap (λ es. part_of es (Some (b - 1)) elem.process) same) ∙ before_is imported is a b elem.process fit.low fit.high fit'.low fit'.high apart own
