use Rattle.calls_of_order.proofs.batches.a_batch_is_planned_and_done.Given as goal

abbrev pub ghosts-done : goal.ghosts-done
ghosts-done g a = record { name = a.blank.name; parts = a.blank.parts }
