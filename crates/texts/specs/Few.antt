-- Lists held in place. Assumes nothing.
use Rattle.std.specs.Prelude.{ℕ, List, take}
use Rattle.texts.specs.declared.few.Few.{Few}

-- the items
abbrev pub listed : {T : Type 0} {N : ℕ} → Few T N → List T
listed f = take f.len f.items
