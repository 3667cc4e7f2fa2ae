use Rattle.std.proofs.Common.{rules}
use borrow.Author.Tests.{tests}
use Rattle.std.specs.Str.{bytes_eq}
use Rattle.std.proofs.lemmas.Iterator.{YieldsList-from_slice}
use Rattle.std.proofs.lemmas.Iterator.Search.{find_from_yields_List}
use Rattle.std.proofs.lemmas.Iterator.Consumers.{YieldsList-from_copied}
use Rattle.journal.specs.declared.name.TheConstants.{ALL}
use Rattle.journal.specs.Names.{spelling}
use Rattle.journal.proofs.Names.{name_of}
use Rattle.journal.proofs.name.CallNameTryFromRefSliceU8.try_from.Goals as goal

pub returns : goal.returns
returns c =
    let e = find_from_yields_List (λ name. bytes_eq (spelling name) c.args.word.now) _ _ c.find.result c.find.ensures.ran (YieldsList-from_copied (YieldsList-from_slice ALL (search rules))) (λ x b q k. search (rules, tests)) in
    rw c.ok_or.ensures.value (name_of _ c.find.result _ e)
