-- An import is of one text, or stops at one line.
use Rattle.std.proofs.Common.{◌≡◌, ℕ, ◌+◌, ◌<◌, ◌≤◌, List, [], ◌∷◌, ◌++◌, length, refl, sym, ap, ◌∙◌, subst, ⊎_elim, arith}
use Rattle.std.proofs.lemmas.Bool.{cases_lt}
use Rattle.kr_order.specs.declared.ids.EventId.{EventId}
use Rattle.kr_order.specs.Order.{IsAcyclic}
use Rattle.clock_import.specs.declared.log.LogLine.{LogLine}
use Rattle.clock_import.specs.declared.imported.Clocked.{Clocked}
use Rattle.clock_import.specs.Pairs.{pairs_to, numbers, numbered}
use Rattle.clock_import.specs.Clocks.{clocks_of_log}
use Rattle.clock_import.specs.Imported.{ClosesCycle}
use Rattle.clock_import.specs.Text.{event_lines, order_text}
use Rattle.clock_import.specs.Laws.{TheCyclicLineIsOne, CyclesAreInNoImport, TheTextIsOne}
use Rattle.clock_import.proofs.BringLemmas.{acyclic_fewer}
use Rattle.clock_import.proofs.OnceLemmas.{one_log}

closes_once : (lines : List LogLine) (m n : ℕ) → ClosesCycle lines m → ClosesCycle lines n → m ≡ n
closes_once lines m n one other =
    ⊎_elim
    (λ (less : m < n). absurd (one.closes (other.earlier m less)))
    (λ (least : n ≤ m).
    ⊎_elim
    (λ (less : n < m). absurd (other.closes (one.earlier n less)))
    (λ (least' : m ≤ n). omega arith)
    (cases_lt n m))
    (cases_lt m n)

pub one_cyclic_line : TheCyclicLineIsOne
one_cyclic_line bytes m n one other =
    let same = one_log bytes one.processes one.lines other.processes other.lines one.parses other.parses in
    let event = closes_once other.lines one.event other.event (subst (λ ls. ClosesCycle ls one.event) same.1 one.cycle) other.cycle in
    one.number ∙ ap (λ e. e + 1) event ∙ sym other.number

pub no_import : CyclesAreInNoImport
no_import bytes text n cyclic told =
    let same = one_log bytes told.imported.processes told.is.lines cyclic.processes cyclic.lines told.is.parses cyclic.parses in
    let acyclic = subst (λ ls. IsAcyclic (pairs_to ls (length ls))) same.1 told.is.tells.acyclic in
    cyclic.cycle.closes (acyclic_fewer cyclic.lines cyclic.event (length cyclic.lines) cyclic.cycle.within acyclic)

-- pairs of events with the same numbers are the same
one_pairs : (one other : List (EventId × EventId)) → numbered one ≡ numbered other → one ≡ other
one_pairs [] [] same = refl
one_pairs [] (pair ∷ more) same = absurd (cc)
one_pairs (pair ∷ more) [] same = absurd (cc)
one_pairs (pair ∷ more) (pair' ∷ more') same =
    let heads : numbers pair ≡ numbers pair' = cc in
    let tails : numbered more ≡ numbered more' = cc in
    let first : pair.0.0 ≡ pair'.0.0 = ap (λ (p : ℕ × ℕ). p.0) heads in
    let second : pair.1.0 ≡ pair'.1.0 = ap (λ (p : ℕ × ℕ). p.1) heads in
    ap (λ (n : ℕ). let id : EventId = record { 0 = n } in (id, pair.1) ∷ more) first
    ∙ ap (λ (n : ℕ). let id : EventId = record { 0 = n } in (pair'.0, id) ∷ more) second
    ∙ ap (λ l. pair' ∷ l) (one_pairs more more' tails)

pub one_text : TheTextIsOne
one_text bytes text text' one other =
    let same = one_log bytes one.imported.processes one.is.lines other.imported.processes other.is.lines one.is.parses other.is.parses in
    let events : one.imported.events ≡ other.imported.events = one.is.tells.events ∙ ap (λ n. clocks_of_log n one.is.lines) same.0
    ∙ ap (clocks_of_log other.imported.processes) same.1 ∙ sym other.is.tells.events in
    let pairs : one.imported.pairs ≡ other.imported.pairs = one_pairs one.imported.pairs other.imported.pairs
    (one.is.tells.pairs ∙ ap (λ ls. pairs_to ls (length ls)) same.1 ∙ sym other.is.tells.pairs) in
    one.text_is
    ∙ ap (λ (e : List Clocked). event_lines 1 e ++ order_text one.imported.pairs) events
    ∙ ap (λ (p : List (EventId × EventId)). event_lines 1 other.imported.events ++ order_text p) pairs
    ∙ sym other.text_is
