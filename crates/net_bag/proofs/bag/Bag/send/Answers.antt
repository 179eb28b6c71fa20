use Rattle.std.proofs.Common.{◌≡◌, ◌+◌, ◌-◌, ◌^◌, ◌<◌, ◌++◌, ◌∷◌, [], false, min, length, ap, ◌∙◌, arith}
use Rattle.kr_wire.specs.Decoding.{IsSpelling}
use Rattle.net_bag.specs.Index.{words_for}
use Rattle.net_bag.specs.Sent.{Sent, sent_after}
use Rattle.net_bag.proofs.KeptLemmas.{kept_push, kept_same, sent_same}
use Rattle.net_bag.proofs.bag.Bag.send.Goals as goal

pub invariant_of-self-2 : goal.invariant_of-self-2
invariant_of-self-2 c =
    let inside = c.self.inside in
    let one = c.in_ok-spelling.spelling in
    let e1 : c.push.new.self ≡ inside.spellings ++ one.items ∷ [] = c.in_ok-push.ensures.ok ∙ ap (λ xs. inside.spellings ++ xs ∷ []) c.deref.ensures.value in
    let e2 : c.push_reserved.new.self.items ≡ inside.lost.items ++ false ∷ [] = c.push_reserved.ensures.items ∙ ap (λ xs. xs ++ false ∷ []) c.reserve.ensures.items in
    let e3 : c.push_reserved-2.new.self.items ≡ inside.delivered.items ++ false ∷ [] = c.push_reserved-2.ensures.items ∙ ap (λ xs. xs ++ false ∷ []) c.reserve-2.ensures.items in
    let e4 : c.put_word.new.words.items ≡ words_for inside.closed.items (length inside.spellings) = c.put_word.ensures ∙ ap (words_for c.reserve-3.new.self.items) c.len-count.ensures ∙ ap (λ ws. words_for ws (length inside.spellings)) c.reserve-3.ensures.items in
    let e5 : c.saturating_add-self-inside.result ≡ min (inside.bytes + length one.items) (2 ^ 64 - 1) = omega arith in
    let spells : IsSpelling one.items = (c.args.packet.now, c.requires, c.in_ok-spelling.ensures) in
    let room : length inside.spellings < 2 ^ 56 = omega arith in
    kept_same _ _ _ _ _ _ _ _ _ _ e1 e2 e3 e4 e5 (kept_push inside.spellings inside.lost.items inside.delivered.items inside.closed.items inside.bytes one.items c.self.invariant spells room)

pub returns-clause-ok : goal.returns-clause-ok
returns-clause-ok c =
    let inside = c.self.inside in
    let one = c.in_ok-spelling.spelling in
    let before : Sent = record { spellings = inside.spellings; lost = inside.lost.items; delivered = inside.delivered.items } in
    let e1 : c.push.new.self ≡ before.spellings ++ one.items ∷ [] = c.in_ok-push.ensures.ok ∙ ap (λ xs. before.spellings ++ xs ∷ []) c.deref.ensures.value in
    let e2 : c.push_reserved.new.self.items ≡ before.lost ++ false ∷ [] = c.push_reserved.ensures.items ∙ ap (λ xs. xs ++ false ∷ []) c.reserve.ensures.items in
    let e3 : c.push_reserved-2.new.self.items ≡ before.delivered ++ false ∷ [] = c.push_reserved-2.ensures.items ∙ ap (λ xs. xs ++ false ∷ []) c.reserve-2.ensures.items in
    sent_same before one.items _ _ _ e1 e2 e3 ∙ ap (λ sent. sent_after sent one.items) c.self.view_is ∙ ap (sent_after c.args.self.now) c.in_ok-spelling.ensures
