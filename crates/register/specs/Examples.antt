-- A worked decision. Assumes nothing.
use Rattle.std.specs.Prelude.{◌≡◌, ℕ, Bool, true, [], ◌∷◌, count_by}
use Rattle.notes.specs.Rules.{RuleValue}
use Rattle.register.specs.Answers.{permitted, Decision}
use Rattle.register.specs.Entries.{Entry}

abbrev pub under : ℕ → ℕ → RuleValue → Entry
under p n r = record { policy = p; number = n; rule = r }

-- rule 9 of policy 1 and rule 5 of policy 3 pass: policy 1, rule 9, number 2, in whichever order they stand
abbrev pub TwoPolicies : Type 0
TwoPolicies =
    (r s : RuleValue) (f : Entry → Bool) → f (under 1 9 r) ≡ true → f (under 3 5 s) ≡ true
    → Decision (λ g. count_by g (under 1 9 r ∷ under 3 5 s ∷ [])) f (permitted 1 9 2)
    × Decision (λ g. count_by g (under 3 5 s ∷ under 1 9 r ∷ [])) f (permitted 1 9 2)
