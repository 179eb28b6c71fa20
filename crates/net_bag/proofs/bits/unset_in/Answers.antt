use Rattle.std.proofs.Common.{◌≡◌, ◌-◌, ◌*◌, ◌%◌, ◌^◌, ◌<◌, ap, sym, ◌∙◌, subst, arith}
use Rattle.std.specs.Int.{w64, trailing_ones}
use Rattle.std.specs.Int.RustNames.{bit_or}
use Rattle.std.proofs.lemmas.Nat.{one_shl, or_lt, pow_below}
use Rattle.net_bag.specs.Index.{IsFirstUnset}
use Rattle.net_bag.proofs.BitLemmas.{masked_from, unset_found, unset_missed}
use Rattle.net_bag.proofs.bits.unset_in.Goals as goal

pub returns-then-masked-clause-none : goal.returns-then-masked-clause-none
returns-then-masked-clause-none c =
    let same : bit_or c.args.word (1 * 2 ^ c.args.low % 2 ^ 64 - 1) ≡ masked_from c.args.word c.args.low = ap (λ n. bit_or c.args.word (n - 1)) (one_shl c.args.low 64 c.requires) in
    unset_missed c.args.word c.args.low (sym same ∙ c.if-masked.true)

pub returns-else-masked-clause-some : goal.returns-else-masked-clause-some
returns-else-masked-clause-some c =
    let word = c.args.word in
    let low = c.args.low in
    let same : bit_or word (1 * 2 ^ low % 2 ^ 64 - 1) ≡ masked_from word low = ap (λ n. bit_or word (n - 1)) (one_shl low 64 c.requires) in
    let fits : masked_from word low < 2 ^ 64 = or_lt 64 word (2 ^ low - 1) c.ranges.word.fits (omega (arith, pow_below low 64 c.requires)) in
    subst (IsFirstUnset word low) (sym (c.trailing_ones.ensures ∙ ap (trailing_ones w64) same)) (unset_found word low c.requires fits (λ all. c.if-masked.false (same ∙ all)))
