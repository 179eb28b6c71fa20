use Rattle.std.proofs.Common.{◌≡◌, map, take}
use Rattle.std.specs.Prelude.{string_bytes}
use Rattle.std.specs.Rc.{rc_str_bytes}
use Rattle.kronos.proofs.words_of.Given as goal

abbrev pub invariant-loop-argument : goal.invariant-loop-argument
invariant-loop-argument l = map rc_str_bytes l.words.items ≡ map string_bytes (take l.argument-index l.rest)
