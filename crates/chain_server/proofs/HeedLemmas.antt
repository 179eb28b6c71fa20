-- One reaction after another.
use Rattle.std.proofs.Common.{◌≡◌, false, cond, eqb, ℕ, List, [], ◌∷◌, ◌++◌, length, refl, ap, sym, ◌∙◌, subst}
use Rattle.std.proofs.Math.Dec.{eqb-suc-zero}
use Rattle.std.specs.Prelude.{Result, Ok, Err, Some}
use Rattle.kr_order.specs.declared.ids.NoMemory.{NoMemory as OutOfMemory}
use Rattle.kr_order.specs.declared.ids.ServerId.{ServerId}
use Rattle.kr_order.specs.declared.history.Entry.{Entry}
use Rattle.kr_order.specs.Done.{done_of}
use Rattle.kr_protocol.specs.Reaction.{Reaction}
use Rattle.kr_protocol.specs.Server.{Server, acknowledged, appended, follows, sends, ack_to, passes_on, advances_at_tail, takes_entries, window}
use Rattle.chain_server.specs.declared.effects.Effects.{Effects}
use Rattle.chain_server.specs.ServerStanding.{ServerStanding}
use Rattle.chain_server.specs.Parts.{passed_on_by}
use Rattle.chain_server.specs.Calls.{Heeds, Does, AddsTo}

-- a reaction, and then what is added to it
pub Does-follows : (old middle : ServerStanding) (first : Reaction Server) (goes_on : Server → Reaction Server) (before : Effects) (result : Result Effects OutOfMemory) (new : ServerStanding) → Heeds old first before middle → AddsTo before middle (goes_on middle.server) result new → Does old (follows first goes_on) result new
Does-follows old middle first goes_on before (Err stop) new heeds adds = adds
Does-follows old middle first goes_on before (Ok effects) new heeds adds =
    let is : middle.server ≡ first.after = ap (λ (s : ServerStanding). s.server) heeds.after in
    let second : goes_on middle.server ≡ goes_on first.after = ap goes_on is in
    record {
      whole = heeds.whole;
      after = adds.after ∙ ap (λ (r : Reaction Server). record { server = r.after; failed = false }) second;
      sent = adds.packets ∙ ap (λ packets. packets ++ (goes_on middle.server).sent) heeds.sent ∙ ap (λ (r : Reaction Server). first.sent ++ r.sent) second;
      committed = ap (λ (r : Reaction Server). done_of (acknowledged r.after)) (sym second) ∙ ap done_of (adds.same ∙ ap acknowledged is) ∙ heeds.committed ∙ ap (λ c. done_of (acknowledged old.server) ++ c) (sym adds.committed);
    }

-- a reaction of the server with a longer log
pub Does-grown : (old grown : ServerStanding) (server : Server) (reacts : Server → Reaction Server) (result : Result Effects OutOfMemory) (new : ServerStanding) → old.failed ≡ false → grown ≡ record { server = server; failed = false } → acknowledged grown.server ≡ acknowledged old.server → Does grown (reacts grown.server) result new → Does old (reacts server) result new
Does-grown old grown server reacts (Err stop) new whole is same does = does
Does-grown old grown server reacts (Ok effects) new whole is same does =
    let at : grown.server ≡ server = ap (λ (s : ServerStanding). s.server) is in
    let reacted : reacts grown.server ≡ reacts server = ap reacts at in
    record {
      whole = whole;
      after = does.after ∙ ap (λ (r : Reaction Server). record { server = r.after; failed = false }) reacted;
      sent = does.sent ∙ ap (λ (r : Reaction Server). r.sent) reacted;
      committed = ap (λ (r : Reaction Server). done_of (acknowledged r.after)) (sym reacted) ∙ does.committed ∙ ap (λ h. done_of h ++ effects.committed) same;
    }

-- what is passed on goes by how many entries were taken
pub passes_on-count : (server : Server) (entries : List Entry) → passes_on server entries ≡ passed_on_by server (length entries)
passes_on-count server [] = refl
passes_on-count server (entry ∷ more) =
    let some : eqb (length (entry ∷ more)) 0 ≡ false = eqb-suc-zero (length more) in
    sym (ap (λ b. cond b [] (window server)) some)

-- entries were taken, acknowledged by the tail, and passed on
pub take_append-does : (old grown middle : ServerStanding) (from : ServerId) (entries : List Entry) (taken : ℕ) (before : Effects) (result : Result Effects OutOfMemory) (new : ServerStanding) → old.failed ≡ false → grown ≡ record { server = appended old.server entries; failed = false } → acknowledged grown.server ≡ acknowledged old.server → taken ≡ length entries → Heeds grown (advances_at_tail grown.server) before middle → AddsTo before middle (sends middle.server (ack_to middle.server (Some from) ++ passed_on_by middle.server taken)) result new → Does old (takes_entries old.server from entries) result new
take_append-does old grown middle from entries taken before result new whole is same count heeds adds =
    let grows = appended old.server entries in
    let first : Heeds old (advances_at_tail grows) before middle = Does-grown old grown grows advances_at_tail (Ok before) middle whole is same heeds in
    let passed : passed_on_by middle.server taken ≡ passes_on middle.server entries = ap (passed_on_by middle.server) count ∙ sym (passes_on-count middle.server entries) in
    let more : AddsTo before middle (sends middle.server (ack_to middle.server (Some from) ++ passes_on middle.server entries)) result new = subst (λ ps. AddsTo before middle (sends middle.server (ack_to middle.server (Some from) ++ ps)) result new) passed adds in
    Does-follows old middle (advances_at_tail grows) (λ after. sends after (ack_to after (Some from) ++ passes_on after entries)) before result new first more
