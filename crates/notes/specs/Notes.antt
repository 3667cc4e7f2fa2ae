-- The laws of notes. Assumes nothing.
use Rattle.std.specs.Prelude.{◌≡◌, ℕ, ◌<◌, ◌≤◌, true, List, length, take, drop, Ok, slice_index_or}
use Rattle.bits.specs.Codec.{Bytes}
use Rattle.texts.specs.Few.{listed}
use Rattle.notes.specs.Rules.{RuleValue, rule_of, rule_lawful, note_reads, note_of}
use Rattle.notes.specs.Originators.{OriginatorValue}
use Rattle.notes.specs.declared.rule.PlainRule.{PlainRule}
use Rattle.notes.specs.declared.rule.Rule.{Rule}

abbrev pub plain_note : PlainRule → List ℕ
plain_note r = listed r.note

abbrev pub plain_value : PlainRule → RuleValue
plain_value r = rule_of (plain_note r) r.parts

-- the note that a rule was read from
abbrev pub rule_note : Rule → List ℕ
rule_note r = plain_note r.plain

-- what a rule says
abbrev pub rule_value : Rule → RuleValue
rule_value r = plain_value r.plain

-- the front of a buffer is filled with the note, of length n, and the rest is as it was
pub record Filled (note before after : List ℕ) (n : ℕ) : Type 0 where
  pub size : n ≡ length note
  pub front : take n after ≡ note
  pub behind : drop n after ≡ drop n before

-- a note that reads as a rule is the note of that rule, and so it reads as no other; and the rule is lawful
abbrev pub WrittenBack : Type 0
WrittenBack = (note : List ℕ) → Bytes note → (r : RuleValue) → note_reads note ≡ Ok r → (rule_lawful r ≡ true) × (note_of r ≡ note)

-- every lawful rule has a note of at most 615 bytes, and it reads as that rule
abbrev pub ReadBack : Type 0
ReadBack = (r : RuleValue) → rule_lawful r ≡ true → Bytes (note_of r) × (length (note_of r) ≤ 615) × (note_reads (note_of r) ≡ Ok r)

-- rules with equal notes are equal
abbrev pub NoteDecides : Type 0
NoteDecides = (r s : RuleValue) → rule_lawful r ≡ true → rule_lawful s ≡ true → note_of r ≡ note_of s → r ≡ s

-- t is the text of the originator i of the note's rule, and stands in the note at a place
abbrev pub TextOf : List ℕ → ℕ → List ℕ → Type 0
TextOf note i t =
    (r : RuleValue) × (place : ℕ) × (note_reads note ≡ Ok r) × (i < length r.originators) × ((o : OriginatorValue) → (slice_index_or r.originators i o).text ≡ t)
    × (t ≡ take (length t) (drop place note))

-- the note's rule has no originator i
abbrev pub NoText : List ℕ → ℕ → Type 0
NoText note i = (r : RuleValue) × (note_reads note ≡ Ok r) × (length r.originators ≤ i)
