use Rattle.std.proofs.Common.{ℕ, List, ◌≡◌, ◌-◌, drop, length, Ok, sym, ap, ◌∙◌, subst, arith}
use Rattle.kr_order.specs.declared.history.Entry.{Entry}
use Rattle.kr_wire.specs.Valid.{IsEntry}
use Rattle.kr_wire.specs.Spelling.{entry_bytes}
use Rattle.kr_wire.specs.Reading.{entry_at, Fails}
use Rattle.kr_wire.specs.Taking.{entry_takes}
use Rattle.kr_wire.specs.Decoding.{ReadsAt}
use Rattle.kr_wire.proofs.ValueLemmas.{entry_read}
use Rattle.kr_wire.proofs.DecodeLemmas.{read_at, not_read_at, refused_nowhere, refused_at, lacks_nothing, lacks_only}
use Rattle.kr_wire.proofs.packets.entry_at.Goals as goal

pub returns-in-Ok-clause-reads : goal.returns-in-Ok-clause-reads
returns-in-Ok-clause-reads c =
    let bytes = c.args.bytes.now in
    let rest = c.in-Ok.rest.now in
    let place : c.saturating_sub.result ≡ length bytes - length rest = omega arith in
    let read : entry_at c.split_at.result.1.now ≡ Ok (c.in-Ok.entry, rest) = c.in-Ok.ensures in
    subst (λ n. ReadsAt entry_bytes IsEntry bytes c.args.at (Ok (c.in-Ok.entry, n))) (sym place) (read_at entry_at entry_bytes IsEntry entry_read bytes c.args.at c.in-Ok.entry rest c.requires (λ i. omega (arith, c.type_inv.bytes i)) (ap entry_at (sym c.split_at.ensures.back) ∙ read))

pub returns-in-Err-clause-reads : goal.returns-in-Err-clause-reads
returns-in-Err-clause-reads c =
    not_read_at (entry_takes (drop c.args.at c.args.bytes.now)) (length c.args.bytes.now) entry_at entry_bytes IsEntry entry_read c.args.bytes.now c.args.at c.in-Err.stop c.refused.result (subst (λ behind. Fails (entry_takes behind) c.in-Err.stop (entry_at behind)) c.split_at.ensures.back c.in-Err.ensures) c.refused.ensures

pub returns-in-Ok-clause-place : goal.returns-in-Ok-clause-place
returns-in-Ok-clause-place c =
    refused_nowhere {item = Entry × ℕ} {other = Entry × List ℕ} (length c.args.bytes.now) (entry_at (drop c.args.at c.args.bytes.now)) (c.in-Ok.entry, c.saturating_sub.result) (c.in-Ok.entry, c.in-Ok.rest.now) (ap entry_at (sym c.split_at.ensures.back) ∙ c.in-Ok.ensures)

pub returns-in-Err-clause-place : goal.returns-in-Err-clause-place
returns-in-Err-clause-place c =
    refused_at (Entry × ℕ) (entry_takes (drop c.args.at c.args.bytes.now)) (length c.args.bytes.now) (entry_at (drop c.args.at c.args.bytes.now)) c.in-Err.stop c.refused.result (subst (λ behind. Fails (entry_takes behind) c.in-Err.stop (entry_at behind)) c.split_at.ensures.back c.in-Err.ensures) c.refused.ensures

pub returns-in-Ok-clause-memory : goal.returns-in-Ok-clause-memory
returns-in-Ok-clause-memory c = lacks_nothing {item = Entry × ℕ} (entry_takes (drop c.args.at c.args.bytes.now)) (c.in-Ok.entry, c.saturating_sub.result)

pub returns-in-Err-clause-memory : goal.returns-in-Err-clause-memory
returns-in-Err-clause-memory c =
    lacks_only (Entry × ℕ) (entry_takes (drop c.args.at c.args.bytes.now)) (length c.args.bytes.now) (entry_at (drop c.args.at c.args.bytes.now)) c.in-Err.stop c.refused.result (subst (λ behind. Fails (entry_takes behind) c.in-Err.stop (entry_at behind)) c.split_at.ensures.back c.in-Err.ensures) c.refused.ensures
