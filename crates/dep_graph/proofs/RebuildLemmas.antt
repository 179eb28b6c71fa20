-- The links of a graph are closed up, one after the other.
use Rattle.std.proofs.Common.{◌≡◌, ℕ, ◌+◌, ◌-◌, ◌<◌, ◌≤◌, Bool, true, false, cond, eqb, List, [], ◌∷◌, ◌++◌, length, get_or, take, refl, sym, ap, ◌∙◌, subst, inl, inr, arith, length-append}
use Rattle.std.specs.Prelude.{Option, None, Some, is_some, IsSome, reverse}
use Rattle.std.specs.Option.{option_map}
use Rattle.std.specs.List.{All}
use Rattle.std.proofs.lemmas.Option.{none-some, same_Some}
use Rattle.std.proofs.lemmas.Bool.{both_ways, cases_eq, eq-eqb, ne_eqb}
use Rattle.std.proofs.lemmas.List.{reverse-append, length-reverse, take_at, take_all, take_more, get_or_default, append-nil}
use Rattle.std.proofs.lemmas.List.Elements.{All-nil, All-push, filter_map-append}
use Rattle.slab.specs.Slab.{Slab, get, with_value}
use Rattle.dep_graph.specs.declared.outs.Link.{Link}
use Rattle.dep_graph.specs.declared.graph.Cell.{Cell}
use Rattle.dep_graph.specs.GraphView.{event_at, ins_of}
use Rattle.dep_graph.specs.Links.{pair_of, pairs_in, newest_in, newest_of, AreChainedIn, AreChained, slots_of, IsBetween, JoinsCells, AreLinked}
use Rattle.dep_graph.proofs.ChainLemmas.{cut, AreChainedIn-append}
use Rattle.dep_graph.proofs.CellLemmas.{holds, event_at-cell, get-with_same, get-with_other, slots_of-with}
use Rattle.dep_graph.proofs.LinkLemmas.{started, named, newest_of-push, pairs_in-push}
use Rattle.dep_graph.proofs.SoundLemmas.{JoinsCells-same}

-- the new index where the link that was found is one of those that were put over, and else the old one
abbrev pub moved : Option ℕ → Option ℕ → Option ℕ → Option ℕ
moved None new old = old
moved (Some at) new old = new

-- the links below an index were put over
pub record IsRebuilt (old_cells cells : Slab Cell) (links fresh : List (Option Link)) (k : ℕ) : Type 0 where
  pub pairs : pairs_in fresh ≡ pairs_in (take k links)
  pub chained : AreChained fresh
  pub leads : All (JoinsCells old_cells) fresh
  pub slots : slots_of cells ≡ slots_of old_cells
  pub some : (event : ℕ) → is_some (newest_of fresh event) ≡ is_some (newest_of (take k links) event)
  pub newest : (key : ℕ) (cell : Cell) → get cells key ≡ Some cell → cell.newest ≡ moved (newest_of (take k links) cell.event.0) (newest_of fresh cell.event.0) (newest_of links cell.event.0)
  pub ins : (key : ℕ) (cell : Cell) → get cells key ≡ Some cell → cell.in_count ≡ ins_of (pairs_in links) cell.event.0

-- an index whose link was taken out
newest_of-gap : (links : List (Option Link)) (event : ℕ) → newest_of (links ++ None ∷ []) event ≡ newest_of links event
newest_of-gap links event = ap (λ l. newest_in l event) (reverse-append links (None ∷ []))

pub IsRebuilt-gap : (old_cells cells : Slab Cell) (links fresh : List (Option Link)) (k : ℕ) → k < length links → get_or links k None ≡ None → IsRebuilt old_cells cells links fresh k → IsRebuilt old_cells cells links fresh (k + 1)
IsRebuilt-gap old_cells cells links fresh k below gap was =
    record {
      pairs = was.pairs ∙ sym (ap pairs_in more ∙ filter_map-append (option_map pair_of) (take k links) (None ∷ []) ∙ append-nil (pairs_in (take k links)));
      chained = was.chained;
      leads = was.leads;
      slots = was.slots;
      some = λ event. was.some event ∙ ap is_some (sym (same event));
      newest = λ key cell at. was.newest key cell at ∙ ap (λ n. moved n (newest_of fresh cell.event.0) (newest_of links cell.event.0)) (sym (same cell.event.0));
      ins = was.ins;
    }
  where
    more : take (k + 1) links ≡ take k links ++ None ∷ []
    more = take_more links k None below ∙ ap (λ slot. take k links ++ slot ∷ []) gap

    same : (event : ℕ) → newest_of (take (k + 1) links) event ≡ newest_of (take k links) event
    same event = ap (λ l. newest_of l event) more ∙ newest_of-gap (take k links) event

-- a link leads on to the newest one of its first event below its index
pub next_of : (links : List (Option Link)) (k : ℕ) (link : Link) → AreChained links → k < length links → get_or links k None ≡ Some link → link.next ≡ newest_of (take k links) link.first.0
next_of links k link chained below here =
    let parts = cut links k (Some link) below (get_or_default links k (Some link) None below ∙ here) in
    let front : take k links ≡ parts.front = ap (take k) parts.is ∙ take_at parts.front (Some link ∷ parts.back) k parts.size in
    (AreChainedIn-append (reverse parts.back) (Some link ∷ reverse parts.front) (subst AreChainedIn parts.newest chained)).0 ∙ ap (λ l. newest_of l link.first.0) (sym front)

-- a link with another one behind it
abbrev pub leading_to : Link → Option ℕ → Link
leading_to link next = record { first = link.first; second = link.second; from = link.from; to = link.to; next = next }

-- what the new link leads on to, where the old one leads to one, and where it does not
pub next_some : (old_cells cells : Slab Cell) (links fresh : List (Option Link)) (k at : ℕ) (link : Link) (cell : Cell) → IsRebuilt old_cells cells links fresh k → link.next ≡ newest_of (take k links) link.first.0 → link.next ≡ Some at → cell.event.0 ≡ link.first.0 → get cells link.from ≡ Some cell → cell.newest ≡ newest_of fresh link.first.0
next_some old_cells cells links fresh k at link cell was next is event in_cells =
    was.newest link.from cell in_cells ∙ ap (λ e. moved (newest_of (take k links) e) (newest_of fresh e) (newest_of links e)) event ∙ ap (λ n. moved n (newest_of fresh link.first.0) (newest_of links link.first.0)) (sym next ∙ is)

pub next_none : (old_cells cells : Slab Cell) (links fresh : List (Option Link)) (k : ℕ) (link : Link) → IsRebuilt old_cells cells links fresh k → link.next ≡ newest_of (take k links) link.first.0 → link.next ≡ None → None ≡ newest_of fresh link.first.0
next_none old_cells cells links fresh k link was next is = nothing (newest_of fresh link.first.0) (was.some link.first.0 ∙ ap is_some (sym next ∙ is))
  where
    nothing : (n : Option ℕ) → is_some n ≡ false → None ≡ n
    nothing None absent = refl
    nothing (Some at) absent = absurd (both_ways true absent refl)

-- one link more
pub IsRebuilt-more : (old_cells cells : Slab Cell) (links fresh : List (Option Link)) (k at : ℕ) (link : Link) (next : Option ℕ) (first : Cell) → AreLinked old_cells links → k < length links → get_or links k None ≡ Some link → IsRebuilt old_cells cells links fresh k → next ≡ newest_of fresh link.first.0 → at ≡ length fresh → get cells link.from ≡ Some first → IsRebuilt old_cells (with_value cells link.from (started first (Some at))) links (fresh ++ Some (leading_to link next) ∷ []) (k + 1)
IsRebuilt-more old_cells cells links fresh k at link next first linked below here was next_is at_is in_cells =
    record {
      pairs = pairs_in-push fresh (leading_to link next) ∙ ap (λ pairs. pairs ++ pair_of link ∷ []) was.pairs ∙ sym (ap pairs_in more ∙ pairs_in-push (take k links) link);
      chained = subst AreChainedIn (sym (reverse-append fresh (Some (leading_to link next) ∷ []))) (next_is, was.chained);
      leads = All-push (JoinsCells old_cells) fresh (Some (leading_to link next)) was.leads (record { from = between.from; to = between.to });
      slots = slots;
      some = some;
      newest = newest;
      ins = λ key cell in_new. by_key key cell in_new (λ c. c.in_count ≡ ins_of (pairs_in links) c.event.0) (was.ins link.from first in_cells) (λ before differs. was.ins key cell before);
    }
  where
    new : Slab Cell
    new = with_value cells link.from (started first (Some at))

    more : take (k + 1) links ≡ take k links ++ Some link ∷ []
    more = take_more links k None below ∙ ap (λ slot. take k links ++ slot ∷ []) here

    between : IsBetween old_cells link
    between = subst (JoinsCells old_cells) here (linked.leads k None below)

    slots : slots_of new ≡ slots_of old_cells
    slots = slots_of-with cells link.from first (started first (Some at)) in_cells refl ∙ was.slots

    event : first.event.0 ≡ link.first.0
    event = named cells link.from link.first.0 first in_cells (ap (λ s. event_at s link.from) was.slots ∙ between.from)

    taken : (e : ℕ) → newest_of (take (k + 1) links) e ≡ cond (eqb link.first.0 e) (Some (length (take k links))) (newest_of (take k links) e)
    taken e = ap (λ l. newest_of l e) more ∙ newest_of-push (take k links) link e

    put : (e : ℕ) → newest_of (fresh ++ Some (leading_to link next) ∷ []) e ≡ cond (eqb link.first.0 e) (Some (length fresh)) (newest_of fresh e)
    put e = newest_of-push fresh (leading_to link next) e

    some : (e : ℕ) → is_some (newest_of (fresh ++ Some (leading_to link next) ∷ []) e) ≡ is_some (newest_of (take (k + 1) links) e)
    some e = ap is_some (put e) ∙ one (eqb link.first.0 e) (was.some e) ∙ ap is_some (sym (taken e))
      where
        one : (same : Bool) → is_some (newest_of fresh e) ≡ is_some (newest_of (take k links) e) → is_some (cond same (Some (length fresh)) (newest_of fresh e)) ≡ is_some (cond same (Some (length (take k links))) (newest_of (take k links) e))
        one true both = refl
        one false both = both

    by_key : (key : ℕ) (cell : Cell) → get new key ≡ Some cell → (P : Cell → Type 0) → P (started first (Some at)) → (get cells key ≡ Some cell → eqb link.first.0 cell.event.0 ≡ false → P cell) → P cell
    by_key key cell in_new P here_is else_is =
        elim (cases_eq key link.from) [
          | inl same ↦ subst P (same_Some (started first (Some at)) cell (sym (get-with_same cells link.from first (started first (Some at)) in_cells) ∙ ap (get new) (sym same) ∙ in_new)) here_is
          | inr differs ↦
              let before = sym (get-with_other cells link.from key (started first (Some at)) differs) ∙ in_new in
              let at_key : event_at (slots_of old_cells) key ≡ Some cell.event.0 = ap (λ s. event_at s key) (sym was.slots) ∙ event_at-cell cells key cell before in
              else_is before (ne_eqb link.first.0 cell.event.0 (λ same. differs (linked.one_cell key link.from cell.event.0 at_key (between.from ∙ ap Some same))))
        ]

    newest : (key : ℕ) (cell : Cell) → get new key ≡ Some cell → cell.newest ≡ moved (newest_of (take (k + 1) links) cell.event.0) (newest_of (fresh ++ Some (leading_to link next) ∷ []) cell.event.0) (newest_of links cell.event.0)
    newest key cell in_new =
        by_key key cell in_new (λ c. c.newest ≡ moved (newest_of (take (k + 1) links) c.event.0) (newest_of (fresh ++ Some (leading_to link next) ∷ []) c.event.0) (newest_of links c.event.0)) at_first at_other
      where
        both : (e : ℕ) (same : Bool) → eqb link.first.0 e ≡ same → moved (newest_of (take (k + 1) links) e) (newest_of (fresh ++ Some (leading_to link next) ∷ []) e) (newest_of links e) ≡ moved (cond same (Some (length (take k links))) (newest_of (take k links) e)) (cond same (Some (length fresh)) (newest_of fresh e)) (newest_of links e)
        both e same is =
            ap (λ n. moved n (newest_of (fresh ++ Some (leading_to link next) ∷ []) e) (newest_of links e)) (taken e ∙ ap (λ t. cond t (Some (length (take k links))) (newest_of (take k links) e)) is) ∙ ap (λ n. moved (cond same (Some (length (take k links))) (newest_of (take k links) e)) n (newest_of links e)) (put e ∙ ap (λ t. cond t (Some (length fresh)) (newest_of fresh e)) is)

        at_first : Some at ≡ moved (newest_of (take (k + 1) links) first.event.0) (newest_of (fresh ++ Some (leading_to link next) ∷ []) first.event.0) (newest_of links first.event.0)
        at_first = ap Some at_is ∙ sym (both first.event.0 true (eq-eqb link.first.0 first.event.0 (sym event)))

        at_other : get cells key ≡ Some cell → eqb link.first.0 cell.event.0 ≡ false → cell.newest ≡ moved (newest_of (take (k + 1) links) cell.event.0) (newest_of (fresh ++ Some (leading_to link next) ∷ []) cell.event.0) (newest_of links cell.event.0)
        at_other before differs = was.newest key cell before ∙ sym (both cell.event.0 false differs)

-- all were
pub AreLinked-rebuilt : (old_cells cells : Slab Cell) (links fresh : List (Option Link)) (k : ℕ) → AreLinked old_cells links → length links ≤ k → IsRebuilt old_cells cells links fresh k → AreLinked cells fresh
AreLinked-rebuilt old_cells cells links fresh k linked all was =
    record {
      one_cell = λ c d event in_c in_d. linked.one_cell c d event (ap (λ s. event_at s c) (sym was.slots) ∙ in_c) (ap (λ s. event_at s d) (sym was.slots) ∙ in_d);
      chained = was.chained;
      leads = λ j d below. JoinsCells-same old_cells cells (get_or fresh j d) was.slots (was.leads j d below);
      newest = λ key cell at. was.newest key cell at ∙ ap (λ l. moved (newest_of l cell.event.0) (newest_of fresh cell.event.0) (newest_of links cell.event.0)) whole ∙ end (newest_of links cell.event.0) (newest_of fresh cell.event.0) (was.some cell.event.0 ∙ ap (λ l. is_some (newest_of l cell.event.0)) whole);
      ins = λ key cell at. was.ins key cell at ∙ ap (λ pairs. ins_of pairs cell.event.0) (sym (pairs_rebuilt));
    }
  where
    whole : take k links ≡ links
    whole = take_all k links all

    pairs_rebuilt : pairs_in fresh ≡ pairs_in links
    pairs_rebuilt = was.pairs ∙ ap pairs_in whole

    end : (old new : Option ℕ) → is_some new ≡ is_some old → moved old new old ≡ new
    end None None both = refl
    end None (Some at) both = absurd (both_ways true both refl)
    end (Some at) new both = refl

-- the cell of a link's first event
pub from_some : (old_cells cells : Slab Cell) (links fresh : List (Option Link)) (k : ℕ) (link : Link) → AreLinked old_cells links → k < length links → get_or links k None ≡ Some link → IsRebuilt old_cells cells links fresh k → event_at (slots_of cells) link.from ≡ Some link.first.0
from_some old_cells cells links fresh k link linked below here was =
    let between : IsBetween old_cells link = subst (JoinsCells old_cells) here (linked.leads k None below) in
    ap (λ s. event_at s link.from) was.slots ∙ between.from
