use Rattle.live_driver.proofs.EndsLemmas.{served_ends}
use Rattle.live_driver.proofs.live.kronos_live.Goals as goal

pub returns-clause-complete : goal.returns-clause-complete
returns-clause-complete g c =
    served_ends (record { bad_in_none = c.bad_live_lines_are_in_no_plan.ensures; one_bad = c.the_bad_live_line_is_one.ensures; bad_in_no_chain = c.bad_chain_lines_are_in_no_plan.ensures; one_bad_of_chain = c.the_bad_chain_line_is_one.ensures }) c.run_words.result _ _ _ c.run_words.ensures
