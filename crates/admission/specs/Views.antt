-- The rule that a view shows, and its entries. Assumes nothing.
use Rattle.notes.specs.Rules.{RuleValue, rule_of}
use Rattle.notes.specs.Originators.{OriginatorValue}
use Rattle.admission.specs.declared.view.EntryView.{EntryView}
use Rattle.admission.specs.declared.view.RuleView.{RuleView}

abbrev pub rule_in : RuleView → RuleValue
rule_in v = rule_of v.note.now v.parts.now

abbrev pub entry_in : EntryView → OriginatorValue
entry_in v = record { kind = v.kind; text = v.text.now }
