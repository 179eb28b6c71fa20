-- What the run of a load comes to.
use Rattle.std.specs.Prelude.{ℕ, length, false}
use Rattle.kr_order.specs.History.{born_in}
use Rattle.kr_order.specs.Held.{held_events, held_pairs}
use Rattle.script_lang.specs.declared.script.Script.{Script}
use Rattle.kr_world.specs.World.{first_world}
use Rattle.kr_world.specs.Run.{run_of}
use Rattle.kr_world.specs.Counts.{befores_in, world_after}
use Rattle.cluster_sim.specs.ClusterStanding.{ClusterStanding}
use Rattle.load_gen.specs.declared.summary.Summary.{Summary}

-- the cluster that a script begins with
abbrev pub first_cluster : Script → ClusterStanding
first_cluster script = record { world = first_world script.servers script.clients; failed = false; befores = 0 }

-- the cluster after all steps of the script
abbrev pub last_cluster : Script → ClusterStanding
last_cluster script =
    let run = run_of script in
    record { world = world_after (first_world script.servers script.clients) run; failed = false; befores = befores_in run }

-- what is counted of a cluster after so many calls
abbrev pub counts_of : ℕ → ClusterStanding → Summary
counts_of calls cluster =
    let history = cluster.world.history in
    record {
      calls = calls;
      history = length history;
      packets = length cluster.world.bag;
      born = born_in history;
      held = length (held_events history);
      pairs = length (held_pairs history);
      before = cluster.befores;
    }
