use Rattle.admission.proofs.Misread.{one_context}
use Rattle.admission.proofs.Worked.{two_contexts_apart}
use Rattle.admission.proofs.laws.contexts_are_not_mixed.Goals as goal

pub returns : goal.returns
returns c = record { every = one_context; example = two_contexts_apart }
