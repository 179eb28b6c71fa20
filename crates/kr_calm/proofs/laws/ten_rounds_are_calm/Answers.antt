use Rattle.kr_calm.proofs.RowLemmas.{ten_are_calm}
use Rattle.kr_calm.proofs.laws.ten_rounds_are_calm.Goals as goal

pub returns : goal.returns
returns c = ten_are_calm
