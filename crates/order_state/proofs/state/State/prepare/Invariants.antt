use Rattle.order_state.proofs.state.State.prepare.Given as goal

abbrev pub ghosts-decide : goal.ghosts-decide
ghosts-decide a = record { name = a.blank.name; parts = a.blank.parts }
