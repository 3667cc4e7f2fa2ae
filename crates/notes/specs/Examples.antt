-- Worked notes. Assumes nothing.
use Rattle.std.specs.Prelude.{◌≡◌, ℕ, true, false, List, [], ◌∷◌, Ok, Err, codes}
use Rattle.bits.specs.Faults.{ended}
use Rattle.notes.specs.Faults.{broken}
use Rattle.notes.specs.Rules.{RuleValue, note_reads}
use Rattle.notes.specs.Sets.{spelt}
use Rattle.notes.specs.declared.originator.EntryKind.TheVariants.{All, Pattern}
use Rattle.notes.specs.declared.family.Family.TheVariants.{Four}
use Rattle.notes.specs.declared.rule.Side.TheVariants.{Privileges}

-- privileges, Retrieve and Notify, for all
abbrev pub open_rule : RuleValue
open_rule = record {
  side = Privileges;
  authenticated = false;
  operations = 0b010001;
  originators = record { kind = All; text = [] } ∷ [];
  types = [];
  contexts = [];
}

-- authenticated Create and Retrieve of content instances by `/myCSE*/C98*`, at hour 22, minutes 15 to 59, Monday to
-- Friday, from 88.77.0.0/16, in CL
abbrev pub night_rule : RuleValue
night_rule = record {
  side = Privileges;
  authenticated = true;
  operations = 0b110000;
  originators = record { kind = Pattern; text = codes "/myCSE*/C98*" } ∷ [];
  types = 4 ∷ [];
  contexts = record {
    windows = record {
      clock = record { seconds = spelt 0xfffffffffffffff; minutes = spelt 0x1fffffffffff; hours = spelt 0b10 };
      date = record { days = spelt 0x7fffffff; months = spelt 0xfff; weekdays = spelt 0b0111110; years = spelt 0xfffffffffffffffffffffffff };
    } ∷ [];
    blocks = record { family = Four; prefix = 16; address = 0x584d0000 } ∷ [];
    countries = record { first = 67; second = 76 } ∷ [];
  } ∷ [];
}

abbrev pub night_note : List ℕ
night_note =
    0x70 ∷ 0x29 ∷ 0x4c ∷ 0x2f ∷ 0x6d ∷ 0x79 ∷ 0x43 ∷ 0x53 ∷ 0x45 ∷ 0x2a ∷ 0x2f ∷ 0x43 ∷ 0x39 ∷ 0x38 ∷ 0x2a ∷ 0x00
    ∷ 0x04 ∷ 0x25 ∷ 0xff ∷ 0xff ∷ 0xff ∷ 0xff ∷ 0xff ∷ 0xff ∷ 0xff ∷ 0xf0 ∷ 0x00 ∷ 0x1f ∷ 0xff ∷ 0xff ∷ 0xff ∷ 0xff
    ∷ 0xff ∷ 0x00 ∷ 0x00 ∷ 0x02 ∷ 0xff ∷ 0xff ∷ 0xff ∷ 0xff ∷ 0xff ∷ 0xef ∷ 0xbf ∷ 0xff ∷ 0xff ∷ 0xff ∷ 0xff ∷ 0xff
    ∷ 0xff ∷ 0xff ∷ 0xff ∷ 0xff ∷ 0xff ∷ 0xff ∷ 0xfc ∷ 0x20 ∷ 0xb0 ∷ 0x9a ∷ 0x00 ∷ 0x00 ∷ 0x86 ∷ 0x98 ∷ []

-- two notes, and three faults: a note that ends early, a byte too many, a count of originators of 0
pub record Examples : Type 0 where
  pub three_bytes : note_reads (0x11 ∷ 0x20 ∷ 0x00 ∷ []) ≡ Ok open_rule
  pub sixty_two_bytes : note_reads night_note ≡ Ok night_rule
  pub cut : note_reads (0x11 ∷ 0x20 ∷ []) ≡ Err (ended 16)
  pub excess : note_reads (0x11 ∷ 0x20 ∷ 0x00 ∷ 0x00 ∷ []) ≡ Err (broken 7 24)
  pub no_originator : note_reads (0x11 ∷ 0x00 ∷ []) ≡ Err (broken 2 8)
