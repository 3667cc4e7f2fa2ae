use Rattle.std.proofs.Common.{is_some, ap, ◌∙◌}
use Rattle.register.specs.Tables.{tables}
use Rattle.register.proofs.Calls.{found_stands}
use Rattle.register.proofs.register.Register.has_rule.Goals as goal

pub returns : goal.returns
returns c = c.is_some.ensures ∙ ap is_some c.find_rule.ensures ∙ found_stands (tables c.args.self.now) c.args.name.policy c.args.name.number
