use Rattle.std.proofs.Common.{◌≡◌, ℕ, List, refl, sym, ap, ◌∙◌, subst}
use Rattle.std.specs.Prelude.{Option, Some, None, IsSome, IfSome, IfNone, is_some}
use Rattle.std.specs.List.{All}
use Rattle.std.proofs.lemmas.Bool.{both_ways}
use Rattle.dep_graph.specs.declared.table.Place.{Place}
use Rattle.dep_graph.specs.Table.{number_of}
use Rattle.dep_graph.specs.Places.{entries_in, IsPlaceAt}
use Rattle.dep_graph.proofs.TableLemmas.{filled_at, number_of-absent}
use Rattle.dep_graph.proofs.table.filled_place.Goals as goal

-- an event that has a number has a place
has_place : (places : List Place) (event : ℕ) (result : Option ℕ) → IsSome (number_of (entries_in places) event) → IfNone result (All (λ place. place.event ≡ event → ⊥) places) → IsSome result
has_place places event None some none = subst IsSome (number_of-absent places event none) some
has_place places event (Some i) some none = refl

pub unwrap-requires : goal.unwrap-requires
unwrap-requires c = has_place c.args.places.now c.args.event c.place_of.result c.requires.some c.place_of.ensures.none

pub returns : goal.returns
returns c =
    filled_at c.args.places.now c.args.event c.unwrap.result c.requires.rising c.requires.some (subst (λ r. IfSome r (IsPlaceAt c.args.places.now c.args.event)) c.unwrap.ensures c.place_of.ensures.found)
