use Rattle.std.proofs.Common.{◌∙◌}
use Rattle.live_chain.specs.Lawful.{queries_of}
use Rattle.live_chain.proofs.ToldLemmas.{told_longer}
use Rattle.live_chain.proofs.stage.Stage.end.Goals as goal

pub returns : goal.returns
returns g c = (
  c.if-failed.false,
  c.from_vec.ensures ∙ c.requires.run.journal c.if-failed.false,
  told_longer c.args.self.teller.reader.list c.args.self.node.writer.list 0 (queries_of c.args.self.teller.node c.args.queries.now) c.args.self.teller.told
      c.settle.ensures (c.requires.run.answered c.if-unanswered.false).told,
)
