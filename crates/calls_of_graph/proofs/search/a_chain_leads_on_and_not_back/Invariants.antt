use Rattle.calls_of_graph.proofs.search.a_chain_leads_on_and_not_back.Given as goal

abbrev pub ghosts-search_chain : goal.ghosts-search_chain
ghosts-search_chain g a = record { name = a.blank.name; parts = a.blank.parts }
