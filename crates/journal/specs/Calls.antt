-- The words of each call. Assumes nothing.
use Rattle.std.specs.Prelude.{◌≡◌, ℕ, ◌⊎◌, List, [], ◌∷◌, Ok, Err, Result}
use Rattle.std.specs.Borrow.{Bor}
use Rattle.journal.specs.declared.call.Call.{Call}
use Rattle.journal.specs.declared.call.Call.TheVariants as call
use Rattle.journal.specs.declared.name.CallName.{CallName}
use Rattle.journal.specs.declared.name.CallName.TheVariants.{Open, Add, Withdraw, Link, Unlink, Member, Present, Clear, Leave, Readmit, Judge, Role, Request, Read, Write, Cover, When}
use Rattle.journal.specs.declared.unreadable.Kind.{Kind}
use Rattle.journal.specs.declared.unreadable.Kind.TheVariants.{Name, Instant, Note, End}
use Rattle.journal.specs.declared.unreadable.Unreadable.{Unreadable}
use Rattle.journal.specs.declared.unreadable.Unreadable.TheVariants.{NotServed}
use Rattle.journal.specs.Fields.{field_at, fault, FaultAt}
use Rattle.journal.specs.Names.{spelling}
use Rattle.journal.specs.Notes.{Noted}
use Rattle.journal.specs.Numbers.{Decimal}

-- the words after the name, and no others, make the call; none do where the name is not served
abbrev pub Makes : CallName → List (List ℕ) → Call → Type 0
Makes Open words c = ⊥
Makes Add words c = ⊥
Makes Withdraw words c = ⊥
Makes Link words c = ⊥
Makes Unlink words c = ⊥
Makes Member words c = ⊥
Makes Present words c = ⊥
Makes Clear words c = ⊥
Makes Leave words c = ⊥
Makes Readmit words c = ⊥
Makes Judge words c = ⊥
Makes Role words c = ⊥
Makes Request words c = ⊥
Makes Read words c = (word : List ℕ) × (note : Bor (List ℕ)) × (words ≡ word ∷ []) × Noted word note × (c ≡ call.Read note)
Makes Write words c = (word : List ℕ) × (note : Bor (List ℕ)) × (words ≡ word ∷ []) × Noted word note × (c ≡ call.Write note)
Makes Cover words c = ⊥
Makes When words c = (instant : List ℕ) × (n : ℕ) × (words ≡ instant ∷ []) × Decimal instant n × (c ≡ call.When n)

-- the words of the line are a name, and words that make its call
abbrev pub Spells : List (List ℕ) → Call → Type 0
Spells line c = (name : CallName) × (words : List (List ℕ)) × (line ≡ spelling name ∷ words) × Makes name words c

-- what is expected after the name; nothing where the name is not served
abbrev pub layout : CallName → List Kind
layout Open = []
layout Add = []
layout Withdraw = []
layout Link = []
layout Unlink = []
layout Member = []
layout Present = []
layout Clear = []
layout Leave = []
layout Readmit = []
layout Judge = []
layout Role = []
layout Request = []
layout Read = Note ∷ End ∷ []
layout Write = Note ∷ End ∷ []
layout Cover = []
layout When = Instant ∷ End ∷ []

-- why the words after the name make no call
abbrev pub Faulty : CallName → List (List ℕ) → Unreadable → Type 0
Faulty name words e = elim (layout name) [ [] ↦ e ≡ NotServed name | kind ∷ kinds ↦ FaultAt 2 (kind ∷ kinds) words e ]

-- the call that the words after the name make, and an error where they make none
abbrev pub ReadsCall : CallName → List (List ℕ) → Result Call Unreadable → Type 0
ReadsCall name words (Ok c) = Makes name words c
ReadsCall name words (Err e) = ((c : Call) → Makes name words c → ⊥) × Faulty name words e

-- the call that the words of the line spell, and an error where they spell none
abbrev pub ReadsLine : List (List ℕ) → Result Call Unreadable → Type 0
ReadsLine line (Ok c) = Spells line c
ReadsLine line (Err e) = ((c : Call) → Spells line c → ⊥) × ((e ≡ fault (field_at 1 Name) line) ⊎ ((name : CallName) × (words : List (List ℕ)) × (line ≡ spelling name ∷ words) × Faulty name words e))
