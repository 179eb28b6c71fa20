use Rattle.kronos_driver.proofs.EndsLemmas.{served_is_done, load_is_done}
use Rattle.kronos_driver.proofs.ImportLemmas.{import_is_done}
use Rattle.kronos_driver.proofs.script.kronos_script.Goals as goal

pub returns-clause-complete : goal.returns-clause-complete
returns-clause-complete g c = λ served. served_is_done c.bad_lines_are_in_no_script.ensures c.run_words.result _ _ _ c.run_words.ensures served

pub returns-clause-complete_load : goal.returns-clause-complete_load
returns-clause-complete_load g c = λ served. load_is_done c.run_words.result _ _ _ c.run_words.ensures served

pub returns-clause-complete_import : goal.returns-clause-complete_import
returns-clause-complete_import g c =
    import_is_done (record {
      bad_in_none = c.bad_lines_are_in_no_log.ensures;
      one_bad = c.the_bad_line_is_one.ensures;
      one_cycle = c.the_cyclic_line_is_one.ensures;
      cyclic_in_none = c.cycles_are_in_no_import.ensures;
    }) c.run_words.result _ _ _ c.run_words.ensures
