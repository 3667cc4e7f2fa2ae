-- Civil time, and the instants that it names. An instant is a number of seconds since 2000-01-01 00:00:00 UTC, without
-- leap seconds.
use Rattle.std.specs.Prelude.{◌≡◌, ℕ, ◌+◌, ◌-◌, ◌*◌, ◌/◌, ◌%◌, ◌<◌, ◌≤◌}
use Rattle.calendar.specs.Gregorian.{month_length, first_day, month_of}
use Rattle.calendar.specs.declared.civil.CivilTime.{CivilTime}

-- the last instant of 2099
abbrev pub last_second : ℕ
last_second = 3155759999

-- the month of c, counted from January 2000
abbrev pub month_index : CivilTime → ℕ
month_index c = 12 * (c.year - 2000) + (c.month - 1)

-- the day of c, counted from 1 January 2000
abbrev pub day_number : CivilTime → ℕ
day_number c = first_day (month_index c) + (c.day - 1)

-- how many seconds after the start c lies
abbrev pub seconds_since : CivilTime → ℕ
seconds_since c = ((day_number c * 24 + c.hour) * 60 + c.minute) * 60 + c.second

-- c is a time of a day that the calendar has from 2000 to 2099, with that day's weekday. Weekdays count from Sunday, 0,
-- and 1 January 2000 was a Saturday, 6
pub record Valid (c : CivilTime) : Type 0 where
  pub seconds : c.second < 60
  pub minutes : c.minute < 60
  pub hours : c.hour < 24
  pub years : (2000 ≤ c.year) × (c.year ≤ 2099)
  pub months : (1 ≤ c.month) × (c.month ≤ 12)
  pub days : (1 ≤ c.day) × (c.day ≤ month_length (month_index c))
  pub weekdays : c.weekday ≡ (6 + day_number c) % 7

-- c is a valid civil time that lies t seconds after the start
pub record Reads (t : ℕ) (c : CivilTime) : Type 0 where
  pub valid : Valid c
  pub same : seconds_since c ≡ t

-- the civil time of the day d, in the month k, with the time of day of t
abbrev pub civil_in : ℕ → ℕ → ℕ → CivilTime
civil_in t d k = record {
  second = t % 60;
  minute = t / 60 % 60;
  hour = t / 3600 % 24;
  day = d - first_day k + 1;
  month = k % 12 + 1;
  weekday = (6 + d) % 7;
  year = 2000 + k / 12;
}

-- the civil time of the instant t
unfoldable pub civil_of : ℕ → CivilTime
civil_of t = civil_in t (t / 86400) (month_of (t / 86400))

-- c is the only civil time that t reads as
abbrev pub OnlyReading : ℕ → CivilTime → Type 0
OnlyReading t c = (d : CivilTime) → Reads t d → d ≡ c

-- t is the only instant that reads as c
abbrev pub OnlyInstant : ℕ → CivilTime → Type 0
OnlyInstant t c = (s : ℕ) → Reads s c → s ≡ t

-- each valid civil time is the reading of an instant up to the last
abbrev pub EveryValidInRange : Type 0
EveryValidInRange = (c : CivilTime) → Valid c → seconds_since c ≤ last_second

-- Tuesday, 29 February 2000, 00:00:00, and the last second of Thursday, 31 December 2099
abbrev pub Examples : Type 0
Examples =
    (civil_of 5097600 ≡ record { second = 0; minute = 0; hour = 0; day = 29; month = 2; weekday = 2; year = 2000 })
    × (civil_of 3155759999
    ≡ record { second = 59; minute = 59; hour = 23; day = 31; month = 12; weekday = 4; year = 2099 })
