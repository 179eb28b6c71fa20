-- The lines of one more packet, and of one more entry.
use Rattle.std.proofs.Common.{◌≡◌, ℕ, ◌+◌, ◌<◌, List, [], ◌∷◌, ◌++◌, length, get_or, take, sym, ap, ◌∙◌, arith, append_assoc}
use Rattle.std.proofs.lemmas.List.{append-nil, take_more, length-take}
use Rattle.kr_order.specs.declared.history.DoneEntry.{DoneEntry}
use Rattle.kr_order.specs.declared.message.Packet.{Packet}
use Rattle.kr_order.specs.Text.{done_text}
use Rattle.script_lang.specs.Line.{line}
use Rattle.kr_order.specs.declared.ids.ClientId.{ClientId}
use Rattle.kr_order.specs.declared.answer.ToldPart.{ToldPart}
use Rattle.kr_world.specs.Step.{parts_to}
use Rattle.cluster_parts.specs.PartsStanding.{part_told}
use Rattle.kr_world.specs.Lines.{packet_line, packet_lines, part_line, part_lines, done_lines}

packet_lines-push : (sent : ℕ) (packets : List Packet) (packet : Packet) → packet_lines sent (packets ++ packet ∷ []) ≡ packet_lines sent packets ++ packet_line (sent + length packets + 1) packet
packet_lines-push sent [] packet = append-nil (packet_line (sent + 1) packet) ∙ ap (λ k. packet_line k packet) (omega arith)
packet_lines-push sent (p ∷ packets) packet =
    ap (λ ls. packet_line (sent + 1) p ++ ls) (packet_lines-push (sent + 1) packets packet ∙ ap (λ k. packet_lines (sent + 1) packets ++ packet_line k packet) (omega arith)) ∙ sym (append_assoc (packet_line (sent + 1) p) (packet_lines (sent + 1) packets) (packet_line (sent + length (p ∷ packets) + 1) packet))

pub packet_lines-more : (sent i : ℕ) (packets : List Packet) (d : Packet) → i < length packets → packet_lines sent (take (i + 1) packets) ≡ packet_lines sent (take i packets) ++ packet_line (sent + i + 1) (get_or packets i d)
packet_lines-more sent i packets d within =
    ap (packet_lines sent) (take_more packets i d within) ∙ packet_lines-push sent (take i packets) (get_or packets i d) ∙ ap (λ n. packet_lines sent (take i packets) ++ packet_line (sent + n + 1) (get_or packets i d)) (length-take i packets ∙ omega arith)

done_lines-push : (dones : List DoneEntry) (done : DoneEntry) → done_lines (dones ++ done ∷ []) ≡ done_lines dones ++ line (done_text done)
done_lines-push [] done = append-nil (line (done_text done))
done_lines-push (d ∷ dones) done =
    ap (λ ls. line (done_text d) ++ ls) (done_lines-push dones done) ∙ sym (append_assoc (line (done_text d)) (done_lines dones) (line (done_text done)))

pub done_lines-more : (i : ℕ) (dones : List DoneEntry) (d : DoneEntry) → i < length dones → done_lines (take (i + 1) dones) ≡ done_lines (take i dones) ++ line (done_text (get_or dones i d))
done_lines-more i dones d within =
    ap done_lines (take_more dones i d within) ∙ done_lines-push (take i dones) (get_or dones i d)

part_lines-push : (client : ClientId) (parts : List ToldPart) (part : ToldPart) → part_lines (parts_to client (parts ++ part ∷ [])) ≡ part_lines (parts_to client parts) ++ part_line (part_told client part)
part_lines-push client [] part = append-nil (part_line (part_told client part))
part_lines-push client (p ∷ parts) part =
    ap (λ ls. part_line (part_told client p) ++ ls) (part_lines-push client parts part) ∙ sym (append_assoc (part_line (part_told client p)) (part_lines (parts_to client parts)) (part_line (part_told client part)))

pub part_lines-more : (client : ClientId) (i : ℕ) (parts : List ToldPart) (d : ToldPart) → i < length parts → part_lines (parts_to client (take (i + 1) parts)) ≡ part_lines (parts_to client (take i parts)) ++ part_line (part_told client (get_or parts i d))
part_lines-more client i parts d within =
    ap (λ ps. part_lines (parts_to client ps)) (take_more parts i d within) ∙ part_lines-push client (take i parts) (get_or parts i d)

-- the same where the item is known by an equation
pub packet_lines-at : (sent i : ℕ) (packets : List Packet) (packet : Packet) → i < length packets → packet ≡ get_or packets i packet → packet_lines sent (take (i + 1) packets) ≡ packet_lines sent (take i packets) ++ packet_line (sent + i + 1) packet
packet_lines-at sent i packets packet within is =
    packet_lines-more sent i packets packet within ∙ ap (λ p. packet_lines sent (take i packets) ++ packet_line (sent + i + 1) p) (sym is)

pub done_lines-at : (i : ℕ) (dones : List DoneEntry) (done : DoneEntry) → i < length dones → done ≡ get_or dones i done → done_lines (take (i + 1) dones) ≡ done_lines (take i dones) ++ line (done_text done)
done_lines-at i dones done within is =
    done_lines-more i dones done within ∙ ap (λ d. done_lines (take i dones) ++ line (done_text d)) (sym is)

-- a piece behind what was written
pub written_more : {item : Type 0} (old out new piece front lines : List item) → out ≡ old ++ front → new ≡ out ++ piece → lines ≡ front ++ piece → new ≡ old ++ lines
written_more old out new piece front lines so_far now is =
    now ∙ ap (λ o. o ++ piece) so_far ∙ append_assoc old front piece ∙ ap (λ l. old ++ l) (sym is)
