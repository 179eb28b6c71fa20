-- Clocks are made along an order, event by event.
use Rattle.std.proofs.Common.{◌≡◌, ℕ, ◌+◌, ◌-◌, ◌<◌, ◌≤◌, Some, List, [], length, get_or, set, sym, ap, ◌∙◌, subst, inl, inr, ⊎_elim, arith, length-set, get_or-set_same, get_or-set_other}
use Rattle.std.specs.Prelude.{map}
use Rattle.std.specs.List.{range_with_len}
use Rattle.std.proofs.lemmas.Bool.{cases_eq}
use Rattle.std.proofs.lemmas.List.{ext_get_or, length-map, get_or_default}
use Rattle.std.proofs.lemmas.List.Elements.{All-get_or}
use Rattle.std.proofs.lemmas.List.FromFn.{length-map-range_with_len, get_or-map-range_with_len}
use Rattle.clock_import.specs.declared.log.Act.{Act}
use Rattle.clock_import.specs.declared.log.Act.TheVariants.{Local, Send, Receive, Bad}
use Rattle.clock_import.specs.declared.log.LogLine.{LogLine}
use Rattle.clock_import.specs.declared.links.Link.{Link}
use Rattle.clock_import.specs.declared.imported.Clocked.{Clocked}
use Rattle.clock_import.specs.Log.{IsLine, IsLog, line_at}
use Rattle.clock_import.specs.Links.{source_of, link_of, link_at, number_in, AreLinks, LeadsTo}
use Rattle.clock_import.specs.Walk.{IsOrder}
use Rattle.clock_import.specs.Clocks.{clocked_of, clocks_of_log}
use Rattle.clock_import.specs.Joins.{part_in, joined_at, clock_at}
use Rattle.clock_import.proofs.FirstLemmas.{sender_sends}
use Rattle.clock_import.proofs.LatestLemmas.{latest_some}
use Rattle.clock_import.proofs.ClockLemmas.{IsClock, IsRight, AreRight, AreClocked, bare, joined_right, clock_is}

source_below : (lines : List LogLine) (act : Act) (a : ℕ) → source_of lines act ≡ Some a → a < length lines
source_below lines Local a is = absurd (cc)
source_below lines (Send m) a is = absurd (cc)
source_below lines (Receive m) a is = (sender_sends lines m a is).0
source_below lines Bad a is = absurd (cc)

-- an event that leads to another is one of the log
pub leads_below : (lines : List LogLine) (e a : ℕ) → e < length lines → LeadsTo (link_of lines e) a → a < length lines
leads_below lines e a below (inl prior) =
    let some = latest_some lines e (line_at lines e).process a (omega arith) prior in
    let before = some.0 in
    omega arith
leads_below lines e a below (inr source) = source_below lines (line_at lines e).act a source

process_fits : (processes : ℕ) (lines : List LogLine) (f : ℕ) → IsLog processes lines → f < length lines → (1 ≤ (line_at lines f).process) × ((line_at lines f).process ≤ processes)
process_fits processes lines f log below =
    let line = All-get_or (IsLine processes) lines f (record { process = 0; act = Bad }) below log.each in
    (line.process.low, line.process.high)

-- numbers that are the same for each process tell the same
same_parts : (processes : ℕ) (lines : List LogLine) (e : ℕ) (part part' : ℕ → ℕ) → IsLog processes lines → ((p : ℕ) → 1 ≤ p → p ≤ processes → part p ≡ part' p) → IsClock processes lines e part → IsClock processes lines e part'
same_parts processes lines e part part' log same is =
    record {
      known = λ f below known. let fits = process_fits processes lines f log below in subst (λ n. number_in lines (line_at lines f).process (f + 1) ≤ n) (same (line_at lines f).process fits.0 fits.1) (is.known f below known);
      told = λ f below low. let fits = process_fits processes lines f log below in is.told f below (subst (λ n. number_in lines (line_at lines f).process (f + 1) ≤ n) (sym (same (line_at lines f).process fits.0 fits.1)) low);
      most = λ p low high. subst (λ n. n ≤ number_in lines p (length lines)) (same p low high) (is.most p low high);
    }

no_clock : (lines : List LogLine) → length (map bare lines) ≡ length lines
no_clock lines = length-map lines bare

-- one more has it
pub clocked_more : (processes : ℕ) (lines : List LogLine) (links : List Link) (order : List ℕ) (n : ℕ) (events : List Clocked) (old : Clocked) (clock : List ℕ) → IsLog processes lines → AreLinks lines links → IsOrder links (length lines) order → AreClocked processes lines order n events → n < length order → old ≡ get_or events (get_or order n 0) (record { process = 0; clock = [] }) → clock ≡ map (joined_at (line_at lines (get_or order n 0)).process (link_at links (get_or order n 0)) events) (range_with_len 1 processes) → AreClocked processes lines order (n + 1) (set events (get_or order n 0) (record { process = old.process; clock = clock }))
clocked_more processes lines links order n events old clock log are ordered before below was made =
    record {
      many = length-set events (get_or order n 0) (record { process = old.process; clock = clock }) ∙ before.many;
      processes_are = processes_are;
      right = λ j low.
          ⊎_elim
          (λ (here : get_or order j 0 ≡ get_or order n 0). at_new (get_or order j 0) here)
          (λ (other : get_or order j 0 ≡ get_or order n 0 → ⊥). at_old j low other)
          (cases_eq (get_or order j 0) (get_or order n 0));
    }
  where
    inside : get_or order n 0 < length lines
    inside = ordered.ordered.below n below

    there : get_or order n 0 < length events
    there = let many = before.many in let low = inside in omega arith

    processes_are : (e : ℕ) → e < length lines → (get_or (set events (get_or order n 0) (record { process = old.process; clock = clock })) e (record { process = 0; clock = [] })).process ≡ (line_at lines e).process
    processes_are e low =
        ⊎_elim
        (λ (here : e ≡ get_or order n 0). ap (λ k. (get_or (set events (get_or order n 0) (record { process = old.process; clock = clock })) k (record { process = 0; clock = [] })).process) here ∙ ap (λ (c : Clocked). c.process) (get_or-set_same events (get_or order n 0) (record { process = old.process; clock = clock }) (record { process = 0; clock = [] }) there) ∙ ap (λ (c : Clocked). c.process) was ∙ before.processes_are (get_or order n 0) inside ∙ ap (λ k. (line_at lines k).process) (sym here))
        (λ (other : e ≡ get_or order n 0 → ⊥). ap (λ (c : Clocked). c.process) (get_or-set_other events (get_or order n 0) e (record { process = old.process; clock = clock }) (record { process = 0; clock = [] }) other) ∙ before.processes_are e low)
        (cases_eq e (get_or order n 0))

    new_clock : clock_at (set events (get_or order n 0) (record { process = old.process; clock = clock })) (get_or order n 0) ≡ clock
    new_clock =
        ap (λ (c : Clocked). c.clock) (get_or-set_same events (get_or order n 0) (record { process = old.process; clock = clock }) (record { process = 0; clock = [] }) there)

    wide : length clock ≡ processes
    wide =
        ap length made ∙ length-map-range_with_len (joined_at (line_at lines (get_or order n 0)).process (link_at links (get_or order n 0)) events) 1 processes

    link_is : link_at links (get_or order n 0) ≡ link_of lines (get_or order n 0)
    link_is = are.each (get_or order n 0) inside

    leads_right : AreRight processes lines events (link_of lines (get_or order n 0))
    leads_right a leads =
        let low = leads_below lines (get_or order n 0) a inside leads in
        let stands = ordered.ordered.behind n below a low (subst (λ link. LeadsTo link a) (sym link_is) leads) in
        (low, subst (IsRight processes lines events) stands.2 (before.right stands.0 stands.1).1)

    right_parts : IsClock processes lines (get_or order n 0) (joined_at (line_at lines (get_or order n 0)).process (link_at links (get_or order n 0)) events)
    right_parts =
        subst (λ link. IsClock processes lines (get_or order n 0) (joined_at (line_at lines (get_or order n 0)).process link events)) (sym link_is) (joined_right processes lines events (get_or order n 0) log inside leads_right)

    part_is : (p : ℕ) → 1 ≤ p → p ≤ processes → joined_at (line_at lines (get_or order n 0)).process (link_at links (get_or order n 0)) events p ≡ part_in clock p
    part_is p low high =
        sym (ap (λ c. get_or c (p - 1) 0) made ∙ get_or-map-range_with_len (joined_at (line_at lines (get_or order n 0)).process (link_at links (get_or order n 0)) events) 1 processes (p - 1) p 0 (omega arith) (omega arith))

    right_clock : IsClock processes lines (get_or order n 0) (λ p. part_in clock p)
    right_clock =
        same_parts processes lines (get_or order n 0) (joined_at (line_at lines (get_or order n 0)).process (link_at links (get_or order n 0)) events) (λ p. part_in clock p) log part_is right_parts

    at_new : (e : ℕ) → e ≡ get_or order n 0 → (length (clock_at (set events (get_or order n 0) (record { process = old.process; clock = clock })) e) ≡ processes) × IsRight processes lines (set events (get_or order n 0) (record { process = old.process; clock = clock })) e
    at_new e here =
        subst (λ k. (length (clock_at (set events (get_or order n 0) (record { process = old.process; clock = clock })) k) ≡ processes) × IsRight processes lines (set events (get_or order n 0) (record { process = old.process; clock = clock })) k) (sym here) (ap length new_clock ∙ wide, subst (λ (c : List ℕ). IsClock processes lines (get_or order n 0) (λ p. part_in c p)) (sym new_clock) right_clock)

    at_old : (j : ℕ) → j < n + 1 → (get_or order j 0 ≡ get_or order n 0 → ⊥) → (length (clock_at (set events (get_or order n 0) (record { process = old.process; clock = clock })) (get_or order j 0)) ≡ processes) × IsRight processes lines (set events (get_or order n 0) (record { process = old.process; clock = clock })) (get_or order j 0)
    at_old j low other =
        let apart : j ≡ n → ⊥ = λ same. other (ap (λ k. get_or order k 0) same) in
        let stays : clock_at (set events (get_or order n 0) (record { process = old.process; clock = clock })) (get_or order j 0) ≡ clock_at events (get_or order j 0) = ap (λ (c : Clocked). c.clock) (get_or-set_other events (get_or order n 0) (get_or order j 0) (record { process = old.process; clock = clock }) (record { process = 0; clock = [] }) other) in
        let was = before.right j (omega arith) in
        (ap length stays ∙ was.0, subst (λ (c : List ℕ). IsClock processes lines (get_or order j 0) (λ p. part_in c p)) (sym stays) was.1)

-- all have it
pub clocked_all : (processes : ℕ) (lines : List LogLine) (links : List Link) (order : List ℕ) (events : List Clocked) → IsOrder links (length lines) order → AreClocked processes lines order (length order) events → events ≡ clocks_of_log processes lines
clocked_all processes lines links order events ordered last =
    ext_get_or (record { process = 0; clock = [] }) events (clocks_of_log processes lines) (last.many ∙ sym (length-map-range_with_len (clocked_of processes lines) 0 (length lines))) (λ e below. let many = last.many in let low : e < length lines = omega arith in at e low ∙ sym (get_or-map-range_with_len (clocked_of processes lines) 0 (length lines) e e (record { process = 0; clock = [] }) low (omega arith)))
  where
    at : (e : ℕ) → e < length lines → get_or events e (record { process = 0; clock = [] }) ≡ clocked_of processes lines e
    at e low =
        let stands = ordered.all e low in
        let made = last.right stands.0 stands.1 in
        let wide : length (clock_at events e) ≡ processes = subst (λ k. length (clock_at events k) ≡ processes) stands.2 made.0 in
        let right : IsRight processes lines events e = subst (IsRight processes lines events) stands.2 made.1 in
        ap (λ (p : ℕ). let c : Clocked = record { process = p; clock = clock_at events e } in c) (last.processes_are e low) ∙ ap (λ (k : List ℕ). let c : Clocked = record { process = (line_at lines e).process; clock = k } in c) (clock_is processes lines e (clock_at events e) wide right)

-- the same of what was read
pub clocked_next : (processes : ℕ) (lines : List LogLine) (links : List Link) (order : List ℕ) (n : ℕ) (events seen : List Clocked) (old d : Clocked) (entry e : LogLine) (clock : List ℕ) → IsLog processes lines → AreLinks lines links → IsOrder links (length lines) order → AreClocked processes lines order n events → n < length order → old ≡ get_or events (get_or order n 0) d → entry ≡ get_or lines (get_or order n 0) e → seen ≡ events → clock ≡ map (joined_at entry.process (link_at links (get_or order n 0)) seen) (range_with_len 1 processes) → AreClocked processes lines order (n + 1) (set events (get_or order n 0) (record { process = old.process; clock = clock }))
clocked_next processes lines links order n events seen old d entry e clock log are ordered before below was read same made =
    let inside : get_or order n 0 < length lines = ordered.ordered.below n below in
    let many = before.many in
    let there : get_or order n 0 < length events = omega arith in
    let is : entry ≡ line_at lines (get_or order n 0) = read ∙ get_or_default lines (get_or order n 0) e (record { process = 0; act = Bad }) inside in
    clocked_more processes lines links order n events old clock log are ordered before below (was ∙ get_or_default events (get_or order n 0) d (record { process = 0; clock = [] }) there) (made ∙ ap (λ es. map (joined_at entry.process (link_at links (get_or order n 0)) es) (range_with_len 1 processes)) same ∙ ap (λ (l : LogLine). map (joined_at l.process (link_at links (get_or order n 0)) events) (range_with_len 1 processes)) is)

pub clocked_ends : (processes : ℕ) (lines : List LogLine) (links : List Link) (order : List ℕ) (n : ℕ) (events : List Clocked) → IsOrder links (length lines) order → AreClocked processes lines order n events → n ≡ length order → events ≡ clocks_of_log processes lines
clocked_ends processes lines links order n events ordered last all =
    clocked_all processes lines links order events ordered (subst (λ k. AreClocked processes lines order k events) all last)
