-- What covers another admits at least as much. Assumes nothing.
use Rattle.std.specs.Prelude.{◌≡◌, ℕ, true, List}
use Rattle.members.specs.Pairs.{Pairs, LacksNone}
use Rattle.notes.specs.Originators.{OriginatorValue, originator_lawful}
use Rattle.notes.specs.Rules.{RuleValue, rule_lawful}
use Rattle.admission.specs.Admitting.{originator_matches, rule_admits}
use Rattle.admission.specs.Covering.{originator_covers, rule_covers}
use Rattle.admission.specs.Requests.{RequestValue}

-- an entry that covers another matches each identity that the other matches, also where the other has a member list with
-- fewer pairs
abbrev pub EntriesSound : Type 0
EntriesSound =
    (home : List ℕ) (o p : OriginatorValue) → originator_lawful o ≡ true → originator_covers home o p ≡ true
    → (few more : Pairs) → LacksNone few more
    → (identity : List ℕ) → originator_matches home few identity p ≡ true → originator_matches home more identity o ≡ true

-- a rule that covers another admits each request that the other admits, also where the other has a member list with
-- fewer pairs
abbrev pub RulesSound : Type 0
RulesSound =
    (home : List ℕ) (r s : RuleValue) → rule_lawful r ≡ true → rule_covers home r s ≡ true
    → (few more : Pairs) → LacksNone few more
    → (q : RequestValue) → rule_admits home few s q ≡ true → rule_admits home more r q ≡ true
