-- Civil times and instants determine each other.
use Rattle.std.proofs.Common.{◌≡◌, ℕ, suc, ◌+◌, ◌-◌, ◌*◌, ◌/◌, ◌%◌, ◌<◌, ◌≤◌, sym, ap, ◌∙◌, arith}
use Rattle.calendar.specs.Gregorian.{first_day, month_length, month_of}
use Rattle.calendar.specs.Civil.{civil_in, civil_of, day_number, Examples, last_second, month_index, Reads, Valid, EveryValidInRange}
use Rattle.calendar.specs.declared.civil.CivilTime.{CivilTime}
use Rattle.calendar.proofs.FirstDays.{first_day_end, first_day_mono, first_day_suc, same_month}
use Rattle.calendar.proofs.MonthOf.{Has, month_has}

reads_in : (t k : ℕ) → Has (t / 86400) 1199 k → Reads t (civil_in t (t / 86400) k)
reads_in t k has =
    let index : month_index (civil_in t (t / 86400) k) ≡ k = omega arith in
    let number : day_number (civil_in t (t / 86400) k) ≡ t / 86400 = omega (arith, ap first_day index) in
    record {
      valid = record {
        seconds = omega arith;
        minutes = omega arith;
        hours = omega arith;
        years = omega arith;
        months = omega arith;
        days = omega (arith, ap month_length index, first_day_suc k);
        weekdays = ap (λ n. (6 + n) % 7) (sym number);
      };
      same = omega (arith, number);
    }

pub reads_of : (t : ℕ) → t ≤ last_second → Reads t (civil_of t)
unfolding civil_of
reads_of t h = reads_in t (month_of (t / 86400)) (month_has (t / 86400) (omega arith))

-- the day of a valid civil time is in its month
valid_has : (c : CivilTime) → Valid c → Has (day_number c) 1199 (month_index c)
valid_has c v = (omega arith, omega (arith, first_day_suc (month_index c)), omega arith)

day_below : (c : CivilTime) → Valid c → day_number c < 36525
day_below c v = omega (arith, valid_has c v, first_day_mono (suc (month_index c)) 1200 (omega arith), first_day_end)

pub every_valid_in_range : EveryValidInRange
every_valid_in_range c v = omega (arith, day_below c v)

pub only_reading : (t : ℕ) (c : CivilTime) → Reads t c → c ≡ civil_of t
unfolding civil_of
only_reading t c r =
    let number : t / 86400 ≡ day_number c = omega arith in
    let has = month_has (t / 86400) (omega (arith, day_below c r.valid)) in
    let within = valid_has c r.valid in
    let index : month_of (t / 86400) ≡ month_index c =
    same_month (t / 86400) _ _ has.0 has.1 (omega arith) (omega arith) in
    let hours : t / 3600 ≡ day_number c * 24 + c.hour = omega arith in
    let minutes : t / 60 ≡ (day_number c * 24 + c.hour) * 60 + c.minute = omega arith in
    let second : c.second ≡ t % 60 = omega arith in
    let minute : c.minute ≡ t / 60 % 60 = omega arith in
    let hour : c.hour ≡ t / 3600 % 24 = omega arith in
    let day : c.day ≡ t / 86400 - first_day (month_of (t / 86400)) + 1 = omega (arith, ap first_day index) in
    let month : c.month ≡ month_of (t / 86400) % 12 + 1 = omega arith in
    let weekday : c.weekday ≡ (6 + t / 86400) % 7 = r.valid.weekdays ∙ ap (λ n. (6 + n) % 7) (sym number) in
    let year : c.year ≡ 2000 + month_of (t / 86400) / 12 = omega arith in
    λ i. record {
      second = second i;
      minute = minute i;
      hour = hour i;
      day = day i;
      month = month i;
      weekday = weekday i;
      year = year i;
    }

pub examples : Examples
unfolding first_day month_length
examples = (sym (only_reading 5097600 _ (omega arith)), sym (only_reading 3155759999 _ (omega arith)))
