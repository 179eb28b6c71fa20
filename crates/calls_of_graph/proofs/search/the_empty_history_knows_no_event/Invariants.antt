use Rattle.calls_of_graph.proofs.search.the_empty_history_knows_no_event.Given as goal

abbrev pub ghosts-ask : goal.ghosts-ask
ghosts-ask g a = record { name = a.blank.name; parts = a.blank.parts }
