-- Windows read back. Assumes nothing.
use Rattle.std.specs.Prelude.{◌≡◌, ◌-◌, true, length, refl}
use Rattle.std.proofs.Common.{arith, length-append}
use Rattle.bits.specs.Codec.{Lawful}
use Rattle.bits.proofs.DigitLaws.{length_digits}
use Rattle.calendar.specs.declared.civil.CivilTime.{CivilTime}
use Rattle.notes.specs.Sets.{spelt, member, contains, set_lawful}
use Rattle.notes.specs.Windows.{clock_lawful, date_lawful, window_lawful, clock_form, date_form, window_form, clock_reads, date_reads, window_reads}
use Rattle.notes.specs.Windows.{clock_admits, date_admits, window_admits, clock_contains, date_contains, window_covers}
use Rattle.notes.specs.declared.window.ClockSets.{ClockSets}
use Rattle.notes.specs.declared.window.DateSets.{DateSets}
use Rattle.notes.specs.declared.window.Window.{Window}
use Rattle.texts.proofs.Bools.{both_true, and_true}
use Rattle.notes.specs.ReadingsLemmas.{lawful_made, lawful_seq}
use Rattle.notes.specs.SetsLemmas.{lawful_set, contains_member}

lawful_clock : Lawful (λ c. clock_lawful c ≡ true) clock_form clock_reads
lawful_clock =
    lawful_made (λ c. clock_lawful c ≡ true) (λ z. record { seconds = spelt z.0; minutes = spelt z.1.0; hours = spelt z.1.1 }) (λ c. (c.seconds.bits, (c.minutes.bits, c.hours.bits)))
    (λ c h. let a = both_true (set_lawful 60 c.seconds.bits) _ h in ((a.0, both_true (set_lawful 60 c.minutes.bits) (set_lawful 24 c.hours.bits) a.1), refl))
    (λ z h. (and_true _ _ h.0 (and_true _ _ h.1.0 h.1.1), refl))
    (lawful_seq (lawful_set 60 (omega arith)) (λ _ _. lawful_seq (lawful_set 60 (omega arith)) (λ _ _. lawful_set 24 (omega arith))))

lawful_date : Lawful (λ d. date_lawful d ≡ true) date_form date_reads
lawful_date =
    lawful_made (λ d. date_lawful d ≡ true) (λ z. record { days = spelt z.0; months = spelt z.1.0; weekdays = spelt z.1.1.0; years = spelt z.1.1.1 }) (λ d. (d.days.bits, (d.months.bits, (d.weekdays.bits, d.years.bits))))
    (λ d h.
    let a = both_true (set_lawful 31 d.days.bits) _ h in
    let b = both_true (set_lawful 12 d.months.bits) _ a.1 in
    ((a.0, (b.0, both_true (set_lawful 7 d.weekdays.bits) (set_lawful 100 d.years.bits) b.1)), refl))
    (λ z h. (and_true _ _ h.0 (and_true _ _ h.1.0 (and_true _ _ h.1.1.0 h.1.1.1)), refl))
    (lawful_seq (lawful_set 31 (omega arith)) (λ _ _. lawful_seq (lawful_set 12 (omega arith)) (λ _ _. lawful_seq (lawful_set 7 (omega arith)) (λ _ _. lawful_set 100 (omega arith)))))

pub lawful_window : Lawful (λ w. window_lawful w ≡ true) window_form window_reads
lawful_window =
    lawful_made (λ w. window_lawful w ≡ true) (λ z. record { clock = z.0; date = z.1 }) (λ w. (w.clock, w.date))
    (λ w h. (both_true (clock_lawful w.clock) (date_lawful w.date) h, refl))
    (λ z h. (and_true _ _ h.0 h.1, refl))
    (lawful_seq lawful_clock (λ _ _. lawful_date))

pub clock_long : (c : ClockSets) → length (clock_form c) ≡ 144
clock_long c = simp (length-append, length_digits) refl

pub date_long : (d : DateSets) → length (date_form d) ≡ 150
date_long d = simp (length-append, length_digits) refl

pub window_long : (w : Window) → length (window_form w) ≡ 294
window_long w = simp (length-append, length_digits) refl

-- a window that contains each set of another admits what that admits
clock_sound : (c d : ClockSets) (t : CivilTime) → clock_contains c d ≡ true → clock_admits d t ≡ true → clock_admits c t ≡ true
clock_sound c d t h a =
    let h1 = both_true (contains c.seconds.bits d.seconds.bits) _ h in
    let h2 = both_true (contains c.minutes.bits d.minutes.bits) (contains c.hours.bits d.hours.bits) h1.1 in
    let a1 = both_true (member 60 d.seconds.bits t.second) _ a in
    let a2 = both_true (member 60 d.minutes.bits t.minute) (member 24 d.hours.bits t.hour) a1.1 in
    and_true _ _ (contains_member 60 c.seconds.bits d.seconds.bits t.second h1.0 a1.0)
    (and_true _ _ (contains_member 60 c.minutes.bits d.minutes.bits t.minute h2.0 a2.0) (contains_member 24 c.hours.bits d.hours.bits t.hour h2.1 a2.1))

date_sound : (c d : DateSets) (t : CivilTime) → date_contains c d ≡ true → date_admits d t ≡ true → date_admits c t ≡ true
date_sound c d t h a =
    let h1 = both_true (contains c.days.bits d.days.bits) _ h in
    let h2 = both_true (contains c.months.bits d.months.bits) _ h1.1 in
    let h3 = both_true (contains c.weekdays.bits d.weekdays.bits) (contains c.years.bits d.years.bits) h2.1 in
    let a1 = both_true (member 31 d.days.bits (t.day - 1)) _ a in
    let a2 = both_true (member 12 d.months.bits (t.month - 1)) _ a1.1 in
    let a3 = both_true (member 7 d.weekdays.bits t.weekday) (member 100 d.years.bits (t.year - 2000)) a2.1 in
    and_true _ _ (contains_member 31 c.days.bits d.days.bits (t.day - 1) h1.0 a1.0)
    (and_true _ _ (contains_member 12 c.months.bits d.months.bits (t.month - 1) h2.0 a2.0)
    (and_true _ _ (contains_member 7 c.weekdays.bits d.weekdays.bits t.weekday h3.0 a3.0) (contains_member 100 c.years.bits d.years.bits (t.year - 2000) h3.1 a3.1)))

pub window_sound : (v w : Window) (t : CivilTime) → window_covers v w ≡ true → window_admits w t ≡ true → window_admits v t ≡ true
window_sound v w t h a =
    let h1 = both_true (clock_contains v.clock w.clock) (date_contains v.date w.date) h in
    let a1 = both_true (clock_admits w.clock t) (date_admits w.date t) a in
    and_true _ _ (clock_sound v.clock w.clock t h1.0 a1.0) (date_sound v.date w.date t h1.1 a1.1)
