use Rattle.texts.proofs.Grammars.{identity_grammar}
use Rattle.texts.proofs.identity.grammar_of_identities.Goals as goal

pub returns : goal.returns
returns c = identity_grammar
