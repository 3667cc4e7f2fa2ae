-- Rules, and the notes that they are written as. Assumes nothing.
use Rattle.std.specs.Prelude.{ℕ, ◌+◌, ◌-◌, ◌/◌, ◌^◌, Bool, true, false, cond, ◌&&◌, List, ◌++◌, map, length, drop, replicate, Ok, Err, Result, ◌==◌, nat_eq, nat_lt}
use Rattle.std.specs.List.{flat_map, list_all}
use Rattle.bits.specs.Digits.{digits, bits}
use Rattle.bits.specs.Codec.{Reads, field, bytes_of}
use Rattle.bits.specs.declared.fault.Report.{Report}
use Rattle.notes.specs.Faults.{broken}
use Rattle.texts.specs.Few.{listed}
use Rattle.notes.specs.Readings.{seq, made, times}
use Rattle.notes.specs.Contexts.{ContextValue, within, count_reads, context_of, context_lawful, context_form, context_reads}
use Rattle.notes.specs.Originators.{OriginatorValue, originator_of, originator_lawful, originator_form, originator_reads}
use Rattle.notes.specs.Sets.{spelt}
use Rattle.notes.specs.declared.rule.Side.{Side}
use Rattle.notes.specs.declared.rule.Side.TheVariants.{Privileges, SelfPrivileges}
use Rattle.notes.specs.declared.rule.Head.{Head}
use Rattle.notes.specs.declared.rule.RuleParts.{RuleParts}

-- what a rule says; the operations are a set of the numbers 0 to 5
pub record RuleValue : Type 0 where
  pub side : Side
  pub authenticated : Bool
  pub operations : ℕ
  pub originators : List OriginatorValue
  pub types : List ℕ
  pub contexts : List ContextValue

-- a rule by its parts, with the texts that stand in the note
abbrev pub rule_of : List ℕ → RuleParts → RuleValue
rule_of note p = record {
  side = p.side;
  authenticated = p.authenticated;
  operations = p.operations.bits;
  originators = map (originator_of note) (listed p.originators);
  types = listed p.child_types;
  contexts = map context_of (listed p.contexts);
}

abbrev pub same_side : Side → Side → Bool
same_side Privileges Privileges = true
same_side Privileges SelfPrivileges = false
same_side SelfPrivileges Privileges = false
same_side SelfPrivileges SelfPrivileges = true

abbrev pub side_code : Side → ℕ
side_code Privileges = 0
side_code SelfPrivileges = 1

abbrev pub side_coded : ℕ → Side
side_coded n = cond (n == 0) Privileges SelfPrivileges

abbrev pub flag_code : Bool → ℕ
flag_code true = 1
flag_code false = 0

-- 1 to 4 originators, at most 2 contexts and at most 4 child types
abbrev pub counts_lawful : RuleValue → Bool
counts_lawful r = within 1 4 (length r.originators) && (within 0 2 (length r.contexts) && within 0 4 (length r.types))

abbrev pub type_lawful : ℕ → Bool
type_lawful t = nat_lt t (2 ^ 16)

-- every count is within its limits, and every part is lawful
unfoldable pub rule_lawful : RuleValue → Bool
rule_lawful r =
    nat_lt r.operations (2 ^ 6)
    && (counts_lawful r && (list_all originator_lawful r.originators && (list_all type_lawful r.types && list_all context_lawful r.contexts)))

-- the head of a rule counts its lists
abbrev pub head_of : RuleValue → Head
head_of r = record {
  side = r.side;
  authenticated = r.authenticated;
  operations = spelt r.operations;
  originators = length r.originators;
  contexts = length r.contexts;
  child_types = length r.types;
}

abbrev pub head_form : Head → List ℕ
head_form h =
    digits 1 (side_code h.side) ++ (digits 1 (flag_code h.authenticated) ++ (digits 6 h.operations.bits
    ++ (digits 3 h.originators ++ (digits 2 h.contexts ++ digits 3 h.child_types))))

-- head, originators, child types, contexts
abbrev pub rule_form : RuleValue → List ℕ
rule_form r = head_form (head_of r) ++ (flat_map originator_form r.originators ++ (flat_map (digits 16) r.types ++ flat_map context_form r.contexts))

abbrev pub head_reads : Reads Head
head_reads =
    made (λ z. record { side = side_coded z.0; authenticated = (z.1.0 == 1); operations = spelt z.1.1.0; originators = z.1.1.1.0; contexts = z.1.1.1.1.0; child_types = z.1.1.1.1.1 })
    (seq (field 1) (λ _. seq (field 1) (λ _. seq (field 6) (λ _. seq (count_reads 3 1 4) (λ _. seq (count_reads 2 0 2) (λ _. count_reads 3 0 4))))))

abbrev pub rule_reads : Reads RuleValue
rule_reads =
    made (λ z. record { side = z.0.side; authenticated = z.0.authenticated; operations = z.0.operations.bits; originators = z.1.0; types = z.1.1.0; contexts = z.1.1.1 })
    (seq head_reads (λ h. seq (times h.originators originator_reads) (λ _. seq (times h.child_types (field 16)) (λ _. times h.contexts context_reads))))

-- behind the last field stand fewer than 8 bits, all zero
abbrev pub padded : List ℕ → ℕ → Bool
padded ds q = nat_lt (length ds - q) 8 && list_all (λ d. nat_eq d 0) (drop q ds)

abbrev pub finished : List ℕ → Result (RuleValue × ℕ) Report → Result RuleValue Report
finished ds (Ok x) = cond (padded ds x.1) (Ok x.0) (Err (broken 7 x.1))
finished ds (Err e) = Err e

-- the rule of a note; fault 7 at the bit behind the last field where anything but padding follows
unfoldable pub note_reads : List ℕ → Result RuleValue Report
note_reads note = finished (bits note) (rule_reads (bits note) 0)

-- the note of a rule: its form, with zero bits up to a whole byte
unfoldable pub note_of : RuleValue → List ℕ
note_of r = bytes_of ((length (rule_form r) + 7) / 8) (rule_form r ++ replicate 7 0)
