-- Two misreadings that are shut out. Assumes nothing.
use Rattle.std.specs.Prelude.{◌≡◌, ℕ, ◌-◌, ◌<◌, Bool, true, false, List, [], ◌∷◌, length, Some, None, Option, slice_index_or}
use Rattle.calendar.specs.Civil.{civil_of}
use Rattle.calendar.specs.declared.civil.CivilTime.{CivilTime}
use Rattle.notes.specs.Blocks.{block_admits}
use Rattle.notes.specs.Constraints.{list_admits_option}
use Rattle.notes.specs.Contexts.{ContextValue, context_admits}
use Rattle.notes.specs.Countries.{country_same}
use Rattle.notes.specs.Sets.{spelt, member}
use Rattle.notes.specs.Windows.{window_admits}
use Rattle.notes.specs.declared.block.Address.{Address}
use Rattle.notes.specs.declared.country.Country.{Country}
use Rattle.notes.specs.declared.family.Family.TheVariants.{Four}
use Rattle.notes.specs.declared.window.Window.{Window}
use Rattle.admission.specs.Examples.{daily}

-- day and weekday as alternatives: what a window admits has its day of the month and its weekday in their sets, both
abbrev pub DayAndWeekday : Type 0
DayAndWeekday = (w : Window) (t : CivilTime) → window_admits w t ≡ true → (member 31 w.date.days.bits (t.day - 1) ≡ true) × (member 7 w.date.weekdays.bits t.weekday ≡ true)

-- day 1 and Monday
abbrev pub first_monday : Window
first_monday = record {
  clock = record { seconds = spelt 0xfffffffffffffff; minutes = spelt 0xfffffffffffffff; hours = spelt 0xffffff };
  date = record { days = spelt 0x40000000; months = spelt 0xfff; weekdays = spelt 0b0100000; years = spelt 0xfffffffffffffffffffffffff };
}

-- Monday 1 May 2000, and neither Monday 3 January nor Tuesday 1 February 2000
abbrev pub MayDay : Type 0
MayDay =
    (window_admits first_monday (civil_of 10454400) ≡ true)
    × (window_admits first_monday (civil_of 172800) ≡ false)
    × (window_admits first_monday (civil_of 2678400) ≡ false)

-- one of the contexts admits, or there is none
abbrev pub some_context : List ContextValue → CivilTime → Option Address → Option Country → Bool
some_context cs t a k = list_admits_option (λ c (_ : Unit {0}). context_admits c t a k) cs (Some tt)

-- a time of one context joined to an address of another: where contexts admit, one of them admits the time, the address
-- and the country
abbrev pub OneContext : Type 0
OneContext =
    (cs : List ContextValue) (t : CivilTime) (a : Option Address) (k : Option Country) → 0 < length cs
    → some_context cs t a k ≡ true
    → (i : ℕ) × (i < length cs)
    × ((d : ContextValue) →
    (list_admits_option window_admits (slice_index_or cs i d).windows (Some t) ≡ true)
    × (list_admits_option block_admits (slice_index_or cs i d).blocks a ≡ true)
    × (list_admits_option country_same (slice_index_or cs i d).countries k ≡ true))

-- hour 22 from 88.77.0.0/16, and hour 4 from 116.27.123.0/24
abbrev pub two_contexts : List ContextValue
two_contexts =
    record { windows = daily 0b10 0xfffffffffffffff ∷ []; blocks = record { family = Four; prefix = 16; address = 0x584d0000 } ∷ []; countries = [] }
    ∷ record { windows = daily 0x80000 0xfffffffffffffff ∷ []; blocks = record { family = Four; prefix = 24; address = 0x741b7b00 } ∷ []; countries = [] } ∷ []

abbrev pub from_address : ℕ → Option Address
from_address bits = Some (record { family = Four; bits = bits })

-- at 22:15:00 from 88.77.255.1, and not from 116.27.123.9
abbrev pub TwoContexts : Type 0
TwoContexts =
    (some_context two_contexts (civil_of 80100) (from_address 0x584dff01) None ≡ true)
    × (some_context two_contexts (civil_of 80100) (from_address 0x741b7b09) None ≡ false)
