-- What a transcript says of a step, and of the history at the end.
use Rattle.std.specs.Prelude.{ℕ, ◌+◌, List, [], ◌∷◌, ◌++◌, length, drop, nat_lt, if◌then◌else◌, codes, Option, None, Some}
use Rattle.std.specs.Fmt.{decimal}
use Rattle.kr_order.specs.declared.history.Entry.{Entry}
use Rattle.kr_order.specs.declared.history.DoneEntry.{DoneEntry}
use Rattle.kr_order.specs.declared.message.Packet.{Packet}
use Rattle.kr_order.specs.Text.{client_text, server_text, node_text, reply_text, part_text, done_text, message_text}
use Rattle.kr_order.specs.Done.{done_of}
use Rattle.script_lang.specs.Line.{line}
use Rattle.kr_world.specs.declared.refusal.Refusal.{Refusal}
use Rattle.kr_world.specs.declared.shown.Shown.{Shown}
use Rattle.kr_world.specs.Refusal.{refusal_word}
use Rattle.kr_world.specs.World.{World}
use Rattle.kr_world.specs.Step.{Told, Part, Outcome}

-- the history has more entries than before
abbrev pub grown_line : ℕ → ℕ → List ℕ
grown_line before now = if nat_lt before now then line (codes "grown " ++ decimal now) else []

abbrev pub told_line : Told → List ℕ
told_line told =
    line (codes "told " ++ client_text told.client ++ codes " " ++ decimal told.reply.seq
    ++ codes " at " ++ decimal told.reply.placed.place ++ codes " " ++ reply_text told.reply.placed.reply)

abbrev pub told_lines : List Told → List ℕ
told_lines [] = []
told_lines (told ∷ more) = told_line told ++ told_lines more

abbrev pub part_line : Part → List ℕ
part_line part = line (codes "part " ++ client_text part.client ++ codes " " ++ part_text part.part)

abbrev pub part_lines : List Part → List ℕ
part_lines [] = []
part_lines (part ∷ more) = part_line part ++ part_lines more

-- what a server has: its view, its log, what is held of its order, and the queries that wait
abbrev pub shown_line : Option Shown → List ℕ
shown_line None = []
shown_line (Some shown) =
    line (codes "show " ++ server_text shown.server ++ codes " view " ++ decimal shown.view
    ++ codes " log " ++ decimal shown.log ++ codes " done " ++ decimal shown.done
    ++ codes " held " ++ decimal shown.held ++ codes " pairs " ++ decimal shown.pairs
    ++ codes " waiting " ++ decimal shown.waiting)

abbrev pub refused_line : Option Refusal → List ℕ
refused_line None = []
refused_line (Some why) = line (codes "refused " ++ refusal_word why)

abbrev pub packet_line : ℕ → Packet → List ℕ
packet_line k packet =
    line (codes "packet " ++ decimal k ++ codes " " ++ node_text packet.from ++ codes " " ++ node_text packet.to
    ++ codes " " ++ message_text packet.message)

-- the packets that follow the first `sent` ones
abbrev pub packet_lines : ℕ → List Packet → List ℕ
packet_lines sent [] = []
packet_lines sent (packet ∷ more) = packet_line (sent + 1) packet ++ packet_lines (sent + 1) more

-- what is printed of a step: how far the history has grown, what was told, what was shown of a server, why it
-- was refused, what was sent
abbrev pub step_lines : World → Outcome → List ℕ
step_lines before outcome =
    grown_line (length before.history) (length outcome.after.history)
    ++ told_lines outcome.told ++ part_lines outcome.parts ++ shown_line outcome.shown ++ refused_line outcome.refused
    ++ packet_lines (length before.bag) (drop (length before.bag) outcome.after.bag)

abbrev pub done_lines : List DoneEntry → List ℕ
done_lines [] = []
done_lines (done ∷ more) = line (done_text done) ++ done_lines more

-- what is printed after the last step
abbrev pub end_lines : List Entry → List ℕ
end_lines history =
    line (codes "history " ++ decimal (length history)) ++ done_lines (done_of history) ++ line (codes "end")
