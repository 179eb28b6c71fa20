use Rattle.std.proofs.Common.{◌≡◌, ◌≢◌, ℕ, ◌+◌, List, ◌++◌, true, false, nat_eq, length, Option, None, Some, MatchOption, IfSome, IfNone}
use Rattle.std.specs.Prelude.{take, drop}
use denote.Bor.{Bor}
use lib.Pointwise.{pointwise}
use Rattle.script_lang.proofs.LineLemmas.{front_found, front_missed}
use Rattle.clock_import.proofs.cut.behind.Goals as goal

abbrev Strips : List ℕ → List ℕ → Option (Bor (List ℕ)) → Type 0
Strips bytes front o = MatchOption o (pointwise nat_eq (take (length front) bytes) front ≡ false) (λ x. (pointwise nat_eq (take (length front) bytes) front ≡ true) × (x.now ≡ drop (length front) bytes) × (length x.now + length front ≡ length bytes))

some_of : (bytes front : List ℕ) (o : Option (Bor (List ℕ))) → Strips bytes front o → IfSome o (λ rest. bytes ≡ front ++ rest.now)
some_of bytes front None h = tt
some_of bytes front (Some rest) h = front_found bytes front rest.now h.0 h.1

none_of : (bytes front : List ℕ) (o : Option (Bor (List ℕ))) → Strips bytes front o → IfNone o ((rest : List ℕ) → bytes ≢ front ++ rest)
none_of bytes front None h = front_missed bytes front h
none_of bytes front (Some rest) h = tt

pub returns-clause-some : goal.returns-clause-some
returns-clause-some c = some_of c.args.bytes.now c.args.front.now c.strip_prefix.result c.strip_prefix.ensures.cases

pub returns-clause-none : goal.returns-clause-none
returns-clause-none c = none_of c.args.bytes.now c.args.front.now c.strip_prefix.result c.strip_prefix.ensures.cases
