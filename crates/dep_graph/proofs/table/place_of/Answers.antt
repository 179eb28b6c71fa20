use Rattle.std.proofs.Common.{rules}
use Rattle.std.proofs.lemmas.List.Sorted.{answers_always}
use Rattle.dep_graph.proofs.TableLemmas.{place-found, place-none}
use Rattle.dep_graph.proofs.table.place_of.Goals as goal

-- the closure gives the event of a place
pub returns-in-Ok-clause-found : goal.returns-in-Ok-clause-found
returns-in-Ok-clause-found c =
    let by_event = c.binary_search_by_key.ensures.position (λ place. place.event) (answers_always _ _ _ (λ f a r g called. search rules)) in
    place-found c.args.places.now c.args.event c.in-Ok.i c.binary_search_by_key.result c.in-Ok.is c.in-Ok.ensures.bound by_event

pub returns-in-Err-clause-none : goal.returns-in-Err-clause-none
returns-in-Err-clause-none c =
    let by_event = c.binary_search_by_key.ensures.position (λ place. place.event) (answers_always _ _ _ (λ f a r g called. search rules)) in
    place-none c.args.places.now c.args.event c.in-Err.field-0 c.binary_search_by_key.result c.requires c.in-Err.is by_event
