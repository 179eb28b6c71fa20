-- What is printed of a load.
use Rattle.std.specs.Prelude.{ℕ, Bool, true, false, List, ◌++◌, length, codes, count_by}
use Rattle.std.specs.Fmt.{decimal}
use Rattle.kr_order.specs.History.{born_in}
use Rattle.kr_order.specs.Held.{held_events, held_pairs}
use Rattle.script_lang.specs.declared.script.Event.{Event}
use Rattle.script_lang.specs.declared.script.Event.TheVariants.{Call, Query}
use Rattle.script_lang.specs.declared.script.Script.{Script}
use Rattle.script_lang.specs.Line.{line}
use Rattle.kr_world.specs.World.{World, first_world}
use Rattle.kr_world.specs.Run.{run_of}
use Rattle.kr_world.specs.Counts.{befores_in, world_after}
use Rattle.load_gen.specs.declared.summary.Summary.{Summary}
use Rattle.load_gen.specs.Made.{made}

-- the event is a command or a query
abbrev pub is_call : Event → Bool
is_call (Call client command) = true
is_call (Query client server pairs) = true
is_call other = false

-- what is counted of a script's run, where this is the world after it
abbrev pub summary_in : Script → World → Summary
summary_in script world =
    record {
      calls = count_by is_call script.events;
      history = length world.history;
      packets = length world.bag;
      born = born_in world.history;
      held = length (held_events world.history);
      pairs = length (held_pairs world.history);
      before = befores_in (run_of script);
    }

abbrev pub summary_of : Script → Summary
summary_of script = summary_in script (world_after (first_world script.servers script.clients) (run_of script))

-- a word and a number
abbrev pub counted_line : List ℕ → ℕ → List ℕ
counted_line word n = line (word ++ decimal n)

abbrev pub summary_lines : Summary → List ℕ
summary_lines summary =
    counted_line (codes "calls ") summary.calls ++ counted_line (codes "history ") summary.history
    ++ counted_line (codes "packets ") summary.packets ++ counted_line (codes "born ") summary.born
    ++ counted_line (codes "held ") summary.held ++ counted_line (codes "pairs ") summary.pairs
    ++ counted_line (codes "before ") summary.before ++ line (codes "end")

-- the summary of the load of so many rounds
abbrev pub load_text : ℕ → List ℕ
load_text n = summary_lines (summary_of (made n))
