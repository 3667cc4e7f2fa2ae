use Rattle.admission.proofs.Worked.{midnight, block_example, matching_example}
use Rattle.admission.proofs.laws.examples_hold.Goals as goal

pub returns : goal.returns
returns c = record { midnight = midnight; block = block_example; patterns = matching_example }
