-- Which world the parts of a cluster stand for, and what is printed of a step.
use Rattle.std.specs.Prelude.{ℕ, ◌-◌, List, [], ◌∷◌, ◌++◌, length, drop, map, Option, None, Some}
use Rattle.kr_order.specs.declared.ids.ClientId.{ClientId}
use Rattle.kr_order.specs.declared.answer.ToldPart.{ToldPart}
use Rattle.kr_order.specs.declared.history.Entry.{Entry}
use Rattle.kr_order.specs.declared.history.DoneEntry.{DoneEntry}
use Rattle.kr_world.specs.World.{World}
use Rattle.kr_world.specs.Step.{Told, Part, parts_to}
use Rattle.kr_world.specs.Lines.{grown_line, told_lines, part_lines, shown_line, refused_line, packet_lines}
use Rattle.cluster_parts.specs.declared.parts.Parts.{Parts}
use Rattle.cluster_parts.specs.declared.parts.Telling.{Telling}
use Rattle.cluster_parts.specs.declared.parts.PartsTelling.{PartsTelling}
use Rattle.cluster_parts.specs.declared.parts.Noted.{Noted}

-- the history that a journal is of
abbrev pub history_of : List DoneEntry → List Entry
history_of journal = map (λ done. done.entry) journal

abbrev pub world_of : Parts → World
world_of parts =
    record {
      manager = parts.manager;
      servers = map (λ s. s.server) parts.servers.items;
      stopped = parts.stopped.items;
      clients = map (λ c. c.client) parts.clients.items;
      bag = parts.bag.packets;
      lost = parts.bag.lost;
      delivered = parts.bag.delivered;
      history = history_of parts.journal;
    }

-- the journal once a server, which had applied so many entries, has newly applied these: what is new to the history
-- comes behind it
abbrev pub noted : List DoneEntry → ℕ → List DoneEntry → List DoneEntry
noted journal before committed = journal ++ drop (length journal - before) committed

abbrev pub told_in : Option Telling → List Told
told_in None = []
told_in (Some telling) = record { client = telling.client; reply = telling.reply } ∷ []

-- a part that a client was told
abbrev pub part_told : ClientId → ToldPart → Part
part_told client part = record { client = client; part = part }

abbrev pub parts_in : Option PartsTelling → List Part
parts_in None = []
parts_in (Some telling) = parts_to telling.client telling.parts

-- the lines of a step, where the history had this many entries before it
abbrev pub lines_of : ℕ → Parts → Noted → List ℕ
lines_of entries parts noted =
    grown_line entries (length parts.journal) ++ told_lines (told_in noted.told) ++ part_lines (parts_in noted.parts)
    ++ shown_line noted.shown ++ refused_line noted.refused ++ packet_lines parts.bag.before (drop parts.bag.before parts.bag.packets)
