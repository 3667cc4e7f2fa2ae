use Rattle.register.specs.Tables.{tables}
use Rattle.register.proofs.Law.{judge_law}
use Rattle.register.proofs.register.Register.judge.Goals as goal

pub returns-clause-season : goal.returns-clause-season
returns-clause-season g c = judge_law c.args.request.now (g.L.MemberList.pairs c.args.members.now) (tables c.args.self.now) _ c.decide.ensures
