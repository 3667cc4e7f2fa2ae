-- Windows of time. Assumes nothing.
use Rattle.std.specs.Prelude.{ℕ, ◌-◌, Bool, ◌&&◌, List, ◌++◌}
use Rattle.bits.specs.Digits.{digits}
use Rattle.bits.specs.Codec.{Reads}
use Rattle.calendar.specs.declared.civil.CivilTime.{CivilTime}
use Rattle.notes.specs.Readings.{seq, made}
use Rattle.notes.specs.Sets.{spelt, member, contains, set_lawful, set_reads}
use Rattle.notes.specs.declared.window.ClockSets.{ClockSets}
use Rattle.notes.specs.declared.window.DateSets.{DateSets}
use Rattle.notes.specs.declared.window.Window.{Window}

abbrev pub clock_lawful : ClockSets → Bool
clock_lawful c = set_lawful 60 c.seconds.bits && (set_lawful 60 c.minutes.bits && set_lawful 24 c.hours.bits)

abbrev pub date_lawful : DateSets → Bool
date_lawful d = set_lawful 31 d.days.bits && (set_lawful 12 d.months.bits && (set_lawful 7 d.weekdays.bits && set_lawful 100 d.years.bits))

-- seven sets, none of them empty
abbrev pub window_lawful : Window → Bool
window_lawful w = clock_lawful w.clock && date_lawful w.date

abbrev pub clock_form : ClockSets → List ℕ
clock_form c = digits 60 c.seconds.bits ++ (digits 60 c.minutes.bits ++ digits 24 c.hours.bits)

abbrev pub date_form : DateSets → List ℕ
date_form d = digits 31 d.days.bits ++ (digits 12 d.months.bits ++ (digits 7 d.weekdays.bits ++ digits 100 d.years.bits))

abbrev pub window_form : Window → List ℕ
window_form w = clock_form w.clock ++ date_form w.date

abbrev pub clock_reads : Reads ClockSets
clock_reads = made (λ z. record { seconds = spelt z.0; minutes = spelt z.1.0; hours = spelt z.1.1 }) (seq (set_reads 60) (λ _. seq (set_reads 60) (λ _. set_reads 24)))

abbrev pub date_reads : Reads DateSets
date_reads =
    made (λ z. record { days = spelt z.0; months = spelt z.1.0; weekdays = spelt z.1.1.0; years = spelt z.1.1.1 })
    (seq (set_reads 31) (λ _. seq (set_reads 12) (λ _. seq (set_reads 7) (λ _. set_reads 100))))

abbrev pub window_reads : Reads Window
window_reads = made (λ z. record { clock = z.0; date = z.1 }) (seq clock_reads (λ _. date_reads))

abbrev pub clock_admits : ClockSets → CivilTime → Bool
clock_admits c t = member 60 c.seconds.bits t.second && (member 60 c.minutes.bits t.minute && member 24 c.hours.bits t.hour)

-- days and months count from 1, years from 2000
abbrev pub date_admits : DateSets → CivilTime → Bool
date_admits d t =
    member 31 d.days.bits (t.day - 1)
    && (member 12 d.months.bits (t.month - 1) && (member 7 d.weekdays.bits t.weekday && member 100 d.years.bits (t.year - 2000)))

-- every value of the instant lies in its set
abbrev pub window_admits : Window → CivilTime → Bool
window_admits w t = clock_admits w.clock t && date_admits w.date t

abbrev pub clock_contains : ClockSets → ClockSets → Bool
clock_contains c d = contains c.seconds.bits d.seconds.bits && (contains c.minutes.bits d.minutes.bits && contains c.hours.bits d.hours.bits)

abbrev pub date_contains : DateSets → DateSets → Bool
date_contains c d =
    contains c.days.bits d.days.bits && (contains c.months.bits d.months.bits && (contains c.weekdays.bits d.weekdays.bits && contains c.years.bits d.years.bits))

-- each set contains the other's
abbrev pub window_covers : Window → Window → Bool
window_covers v w = clock_contains v.clock w.clock && date_contains v.date w.date
