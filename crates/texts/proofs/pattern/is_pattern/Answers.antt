use Rattle.std.proofs.Common.{rules}
use Rattle.texts.specs.Texts.{starred}
use Rattle.texts.proofs.Paths.{no_path}
use Rattle.texts.proofs.pattern.is_pattern.Goals as goal

pub returns-in-Some-behind_slash : goal.returns-in-Some-behind_slash
returns-in-Some-behind_slash c =
    let none = no_path starred 1 2 c.in-Some-behind_slash.path.now in
    search rules
