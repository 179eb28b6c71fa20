use Rattle.std.proofs.Common.{◌≡◌, ◌++◌, take}
use Rattle.std.specs.Prelude.{flat_map}
use Rattle.script_lang.specs.Line.{line}
use Rattle.live_driver.specs.Text.{seen_text}
use Rattle.live_driver.proofs.print.put_tolds.Given as goal

abbrev pub invariant-loop-told : goal.invariant-loop-told
invariant-loop-told l = l.out.items ≡ l.initial.out.items ++ flat_map (λ told. line (seen_text told)) (take l.told-index l.tolds)
