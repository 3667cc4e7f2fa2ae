use Rattle.std.proofs.Common.{arith}
use Rattle.notes.proofs.CarefulRules.{careful_rule}
use Rattle.notes.proofs.refusals.refusals_name_the_first_field.Goals as goal

pub returns : goal.returns
returns c = λ ds e bad. let h = careful_rule.cut ds 0 e (omega arith) bad in (h.1, h.2)
