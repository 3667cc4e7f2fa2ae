-- When a rule admits a request. Assumes nothing.
use Rattle.std.specs.Prelude.{ℕ, Bool, true, not, ◌&&◌, ◌||◌, List, Some, Option, nat_eq}
use Rattle.calendar.specs.Civil.{civil_of}
use Rattle.std.specs.List.{list_any}
use Rattle.texts.specs.Matching.{matches, in_domain}
use Rattle.texts.specs.Texts.{full}
use Rattle.members.specs.Pairs.{Pairs}
use Rattle.notes.specs.Constraints.{list_admits_option}
use Rattle.notes.specs.Contexts.{ContextValue, context_admits}
use Rattle.notes.specs.Operations.{has_operation}
use Rattle.notes.specs.Originators.{OriginatorValue}
use Rattle.notes.specs.Rules.{RuleValue}
use Rattle.notes.specs.declared.operation.Operation.{Operation}
use Rattle.notes.specs.declared.operation.Operation.TheVariants.{Create, Retrieve, Update, Delete, Discover, Notify}
use Rattle.notes.specs.declared.originator.EntryKind.{EntryKind}
use Rattle.notes.specs.declared.originator.EntryKind.TheVariants.{All, Pattern, Domain, Standing}
use Rattle.admission.specs.Requests.{RequestValue}

-- `all` matches every identity, a pattern those that its full form matches, a domain those that begin with it, and a
-- standing those that the member list pairs with it
abbrev pub kind_matches : EntryKind → List ℕ → Pairs → List ℕ → List ℕ → Bool
kind_matches All home pairs identity text = true
kind_matches Pattern home pairs identity text = matches (full home text) identity
kind_matches Domain home pairs identity text = in_domain text identity
kind_matches Standing home pairs identity text = pairs identity text

abbrev pub originator_matches : List ℕ → Pairs → List ℕ → OriginatorValue → Bool
originator_matches home pairs identity o = kind_matches o.kind home pairs identity o.text

-- Create: the rule has no child types, or the request's type is one of them; the other operations look at no type
abbrev pub types_admit : Operation → List ℕ → Option ℕ → Bool
types_admit Create types t = list_admits_option nat_eq types t
types_admit Retrieve types t = true
types_admit Update types t = true
types_admit Delete types t = true
types_admit Discover types t = true
types_admit Notify types t = true

abbrev pub in_context : ContextValue → RequestValue → Bool
in_context c q = context_admits c (civil_of q.instant) q.address q.country

-- no contexts, or one context admits
abbrev pub contexts_admit : List ContextValue → RequestValue → Bool
contexts_admit cs q = list_admits_option in_context cs (Some q)

-- the rule's flag is off or the request is authenticated, the operation is in the set, and the child type is in order
abbrev pub rule_is_for : RuleValue → RequestValue → Bool
rule_is_for r q =
    (not r.authenticated || q.authenticated)
    && (has_operation r.operations q.operation && types_admit q.operation r.types q.child_type_of)

-- a rule admits a request, at a home domain and with the pairs of a member list: it is for such requests, its contexts
-- admit, and some originator entry matches
unfoldable pub rule_admits : List ℕ → Pairs → RuleValue → RequestValue → Bool
rule_admits home pairs r q = rule_is_for r q && (contexts_admit r.contexts q && list_any (originator_matches home pairs q.identity) r.originators)
