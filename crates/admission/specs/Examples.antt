-- Worked examples of admitting, covering and matching. Assumes nothing.
use Rattle.std.specs.Prelude.{◌≡◌, ℕ, true, false, List, [], ◌∷◌, Some, codes}
use Rattle.calendar.specs.Civil.{civil_of}
use Rattle.texts.specs.Matching.{matches}
use Rattle.texts.specs.Texts.{full}
use Rattle.notes.specs.Blocks.{block_admits, block_covers}
use Rattle.notes.specs.Constraints.{list_admits_option}
use Rattle.notes.specs.Sets.{spelt}
use Rattle.notes.specs.Windows.{window_admits}
use Rattle.notes.specs.declared.block.Block.{Block}
use Rattle.notes.specs.declared.family.Family.TheVariants.{Four}
use Rattle.notes.specs.declared.window.Window.{Window}

-- every day in these hours and minutes
abbrev pub daily : ℕ → ℕ → Window
daily h m = record {
  clock = record { seconds = spelt 0xfffffffffffffff; minutes = spelt m; hours = spelt h };
  date = record { days = spelt 0x7fffffff; months = spelt 0xfff; weekdays = spelt 0b1111111; years = spelt 0xfffffffffffffffffffffffff };
}

-- 22:15 to 0:30: hour 22 with minutes 15 to 59, hour 23, and hour 0 with minutes 0 to 29
abbrev pub over_midnight : List Window
over_midnight = daily 0b10 0x1fffffffffff ∷ daily 0b1 0xfffffffffffffff ∷ daily 0x800000 0xfffffffc0000000 ∷ []

-- 22:15:00 and 0:29:59, and neither 22:14:59 nor 0:30:00
abbrev pub Midnight : Type 0
Midnight =
    (list_admits_option window_admits over_midnight (Some (civil_of 80100)) ≡ true)
    × (list_admits_option window_admits over_midnight (Some (civil_of 1799)) ≡ true)
    × (list_admits_option window_admits over_midnight (Some (civil_of 80099)) ≡ false)
    × (list_admits_option window_admits over_midnight (Some (civil_of 1800)) ≡ false)

-- 88.77.0.0/16
abbrev pub network : Block
network = record { family = Four; prefix = 16; address = 0x584d0000 }

-- it admits 88.77.255.1 and not 88.78.0.0, and covers 88.77.12.0/24
abbrev pub BlockExample : Type 0
BlockExample =
    (block_admits network (record { family = Four; bits = 0x584dff01 }) ≡ true)
    × (block_admits network (record { family = Four; bits = 0x584e0000 }) ≡ false)
    × (block_covers network (record { family = Four; prefix = 24; address = 0x584d0c00 }) ≡ true)

-- `/myCSE*/C98*` at m2msp.org matches `//m2msp.org/myCSE7/C9886`, and `//*/myCSE*` does not
abbrev pub MatchingExample : Type 0
MatchingExample =
    (matches (full (codes "m2msp.org") (codes "/myCSE*/C98*")) (codes "//m2msp.org/myCSE7/C9886") ≡ true)
    × (matches (full (codes "m2msp.org") (codes "//*/myCSE*")) (codes "//m2msp.org/myCSE7/C9886") ≡ false)
