use Rattle.std.proofs.Common.{◌≡◌, ℕ, ◌<◌, true, length, subst, rules}
use Rattle.std.proofs.lemmas.List.{nil_from_length}
use Rattle.clock_import.specs.Log.{is_good}
use Rattle.clock_import.specs.Reading.{IsReadTo}
use Rattle.clock_import.specs.Messages.{TellsFirsts}
use Rattle.clock_import.proofs.ReadLemmas.{all_read, all_parsed}
use Rattle.clock_import.proofs.read.read_log.Goals as goal

pub returns-else-not-is_empty : goal.returns-else-not-is_empty
returns-else-not-is_empty c =
    let none : length c.in_ok-lines.rest.now ≡ 0 = search rules in
    let read = all_read c.args.bytes.now c.in-Some.processes c.in-Some.rest.now c.in_ok-lines.lines.items c.in_ok-lines.rest.now c.in-Some.ensures.some c.in_ok-lines.ensures in
    let whole = subst (IsReadTo c.args.bytes.now c.in-Some.processes c.in_ok-lines.lines.items) (nil_from_length c.in_ok-lines.rest.now none) read in
    let good = subst (λ l. (i : ℕ) → i < length l → is_good l i ≡ true) c.as_slice-2.ensures.value c.in-None.ensures in
    record {
      parses = all_parsed c.args.bytes.now c.in-Some.processes c.in_ok-lines.lines.items whole good;
      messages = subst (λ l. TellsFirsts l c.in_ok-messages.messages) c.as_slice.ensures.value c.in_ok-messages.ensures;
    }
