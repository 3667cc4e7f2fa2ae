-- When a rule covers another. Assumes nothing.
use Rattle.std.specs.Prelude.{ℕ, Bool, true, false, not, ◌&&◌, ◌||◌, List, nat_eq}
use Rattle.texts.specs.Covering.{pattern_covers, domain_covers}
use Rattle.std.specs.List.{list_any, list_all}
use Rattle.texts.specs.Same.{same}
use Rattle.notes.specs.Constraints.{list_covers}
use Rattle.notes.specs.Contexts.{context_covers}
use Rattle.notes.specs.Originators.{OriginatorValue}
use Rattle.notes.specs.Rules.{RuleValue, same_side}
use Rattle.notes.specs.Sets.{contains}
use Rattle.notes.specs.declared.originator.EntryKind.{EntryKind}
use Rattle.notes.specs.declared.originator.EntryKind.TheVariants.{All, Pattern, Domain, Standing}

-- `all` covers every entry; a pattern covers patterns; a domain covers patterns and itself; a standing covers itself
abbrev pub kind_covers : EntryKind → EntryKind → List ℕ → List ℕ → List ℕ → Bool
kind_covers All k home t u = true
kind_covers Pattern All home t u = false
kind_covers Pattern Pattern home t u = pattern_covers home t u
kind_covers Pattern Domain home t u = false
kind_covers Pattern Standing home t u = false
kind_covers Domain All home t u = false
kind_covers Domain Pattern home t u = domain_covers home t u
kind_covers Domain Domain home t u = same t u
kind_covers Domain Standing home t u = false
kind_covers Standing All home t u = false
kind_covers Standing Pattern home t u = false
kind_covers Standing Domain home t u = false
kind_covers Standing Standing home t u = same t u

abbrev pub originator_covers : List ℕ → OriginatorValue → OriginatorValue → Bool
originator_covers home o p = kind_covers o.kind p.kind home o.text p.text

-- each entry there is covered by one here
abbrev pub originators_cover : List ℕ → List OriginatorValue → List OriginatorValue → Bool
originators_cover home os ps = list_all (λ p. list_any (λ o. originator_covers home o p) os) ps

-- the child types and the contexts: each list is empty, or the other's is not and each item there is covered by one here
abbrev pub lists_cover : RuleValue → RuleValue → Bool
lists_cover r s = list_covers nat_eq r.types s.types && list_covers context_covers r.contexts s.contexts

-- a rule covers another, at a home domain: the sides are the same, its flag is off or both are on, and its operations,
-- originators, child types and contexts cover the other's
unfoldable pub rule_covers : List ℕ → RuleValue → RuleValue → Bool
rule_covers home r s =
    same_side r.side s.side
    && ((not r.authenticated || s.authenticated)
    && (contains r.operations s.operations && (originators_cover home r.originators s.originators && lists_cover r s)))
