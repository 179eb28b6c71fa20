use Rattle.std.proofs.Common.{subst, rules}
use Rattle.std.specs.Str.Parse.{ParsesUnsigned}
use Rattle.kr_text.proofs.Numbers.{begins_plain_if_number, parsed_none, parsed_some, utf8_if_number}
use Rattle.kr_text.proofs.number.parse_plain.Goals as goal

pub returns-then-not-begins_plain-clause-none : goal.returns-then-not-begins_plain-clause-none
returns-then-not-begins_plain-clause-none c n small is_text =
    let front = begins_plain_if_number c.args.text.now n small is_text in
    let is_plain = c.begins_plain.ensures.1 front in
    cc

pub returns-in_default-clause-none : goal.returns-in_default-clause-none
returns-in_default-clause-none c n small is_text =
    c.in_default.ensures.cases.0 (utf8_if_number c.args.text.now n small is_text)

pub returns-clause-some : goal.returns-clause-some
returns-clause-some c =
    let parses = subst (λ bs. ParsesUnsigned 64 10 bs c.parse.result) c.in-Ok.ensures.cases.0 c.parse.ensures.value.0 in
    let front = c.begins_plain.ensures.0 (search rules) in
    rw c.ok.ensures.value (parsed_some c.args.text.now c.parse.result front parses)

pub returns-clause-none : goal.returns-clause-none
returns-clause-none c =
    let parses = subst (λ bs. ParsesUnsigned 64 10 bs c.parse.result) c.in-Ok.ensures.cases.0 c.parse.ensures.value.0 in
    rw c.ok.ensures.value (parsed_none c.args.text.now c.parse.result parses)
