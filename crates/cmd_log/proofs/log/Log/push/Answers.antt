use Rattle.std.proofs.Common.{◌≡◌, ◌++◌, ◌∷◌, [], ◌<◌, ◌^◌, length, arith, max, ap, sym, ◌∙◌, subst}
use Rattle.kr_order.specs.History.{highest_seq}
use Rattle.cmd_log.specs.Table.{IsTabled}
use Rattle.cmd_log.proofs.TableLemmas.{IsTabled-push}
use Rattle.cmd_log.proofs.log.Log.push.Goals as goal

pub invariant_of-self-2 : goal.invariant_of-self-2
invariant_of-self-2 c =
    let entry = c.args.entry in
    let log = c.self.inside.entries.items in
    let room : length log < 2 ^ 58 = omega arith in
    let pushed : c.push_reserved.new.self.items ≡ log ++ entry ∷ [] = c.push_reserved.ensures.items ∙ ap (λ items. items ++ entry ∷ []) c.reserve.ensures.items in
    let seq : c.highest_seq.result ≡ highest_seq entry.client log = c.highest_seq.ensures ∙ ap (highest_seq entry.client) (sym c.self.view_is) in
    let highest : c.max-highest.result ≡ max (highest_seq entry.client log) entry.seq = c.max-highest.ensures ∙ ap (λ n. max n entry.seq) seq in
    subst (λ entries. IsTabled entries c.insert.new.self) (sym pushed) (IsTabled-push log c.self.inside.highest c.insert.new.self entry c.max-highest.result room c.self.invariant highest c.in_ok-insert.ensures.updates)
