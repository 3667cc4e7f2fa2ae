-- Originator entries. Assumes nothing.
use Rattle.std.specs.Prelude.{ℕ, ◌^◌, Bool, true, cond, ◌&&◌, List, [], ◌++◌, length, take, drop, ◌==◌, nat_lt}
use Rattle.std.specs.List.{list_all}
use Rattle.bits.specs.Digits.{digits, bits}
use Rattle.bits.specs.Codec.{Reads, field, text}
use Rattle.notes.specs.Contexts.{within}
use Rattle.notes.specs.Readings.{guard, seq, made}
use Rattle.texts.specs.Texts.{pattern, domain, standing}
use Rattle.notes.specs.declared.originator.EntryKind.{EntryKind}
use Rattle.notes.specs.declared.originator.EntryKind.TheVariants.{All, Pattern, Domain, Standing}
use Rattle.notes.specs.declared.originator.Entry.{Entry}
use Rattle.notes.specs.declared.originator.Entry.TheVariants.{All as AllEntry, Pattern as PatternEntry, Domain as DomainEntry, Standing as StandingEntry}
use Rattle.notes.specs.declared.originator.Originator.{Originator}

-- what an originator entry says: `all` has the empty text
pub record OriginatorValue : Type 0 where
  pub kind : EntryKind
  pub text : List ℕ

-- a text by its place and length in a note
abbrev pub part : List ℕ → ℕ → ℕ → List ℕ
part note place len = take len (drop place note)

abbrev pub entry_kind : Entry → EntryKind
entry_kind AllEntry = All
entry_kind (PatternEntry place len) = Pattern
entry_kind (DomainEntry place len) = Domain
entry_kind (StandingEntry place len) = Standing

abbrev pub entry_text : List ℕ → Entry → List ℕ
entry_text note AllEntry = []
entry_text note (PatternEntry place len) = part note place len
entry_text note (DomainEntry place len) = part note place len
entry_text note (StandingEntry place len) = part note place len

abbrev pub kind_entry : EntryKind → ℕ → ℕ → Entry
kind_entry All place len = AllEntry
kind_entry Pattern place len = PatternEntry place len
kind_entry Domain place len = DomainEntry place len
kind_entry Standing place len = StandingEntry place len

abbrev pub originator_of : List ℕ → Originator → OriginatorValue
originator_of note o = record { kind = entry_kind o.entry; text = entry_text note o.entry }

-- the number of a kind in its field
abbrev pub code : EntryKind → ℕ
code All = 0
code Pattern = 1
code Domain = 2
code Standing = 3

abbrev pub coded : ℕ → EntryKind
coded n = cond (n == 0) All (cond (n == 1) Pattern (cond (n == 2) Domain Standing))

-- `all` has length 0, and every other text 1 to 40
abbrev pub length_lawful : EntryKind → ℕ → Bool
length_lawful All n = n == 0
length_lawful Pattern n = within 1 40 n
length_lawful Domain n = within 1 40 n
length_lawful Standing n = within 1 40 n

-- a text keeps the rules of its kind
abbrev pub text_lawful : EntryKind → List ℕ → Bool
text_lawful All t = true
text_lawful Pattern t = pattern t
text_lawful Domain t = domain t
text_lawful Standing t = standing t

abbrev pub is_byte : ℕ → Bool
is_byte b = nat_lt b (2 ^ 8)

abbrev pub originator_lawful : OriginatorValue → Bool
originator_lawful o = length_lawful o.kind (length o.text) && (text_lawful o.kind o.text && list_all is_byte o.text)

abbrev pub originator_form : OriginatorValue → List ℕ
originator_form o = digits 2 (code o.kind) ++ (digits 6 (length o.text) ++ bits o.text)

abbrev pub kind_reads : Reads EntryKind
kind_reads = made coded (field 2)

-- fault 2 at a length outside its limits
abbrev pub length_reads : EntryKind → Reads ℕ
length_reads k = guard (length_lawful k) 2 (field 6)

-- fault 3 at a text that breaks the rules of its kind
abbrev pub text_reads : EntryKind → ℕ → Reads (List ℕ)
text_reads k n = guard (text_lawful k) 3 (text n)

abbrev pub originator_reads : Reads OriginatorValue
originator_reads = made (λ z. record { kind = z.0; text = z.1.1 }) (seq kind_reads (λ k. seq (length_reads k) (text_reads k)))
