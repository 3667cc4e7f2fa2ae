-- The Gregorian calendar from January 2000 on. Months are counted from January 2000, and days from 1 January 2000,
-- both from 0.
use Rattle.std.specs.Prelude.{ℕ, zero, suc, ◌+◌, ◌/◌, ◌%◌, Bool, true, cond, not, ◌&&◌, ◌||◌, List, [], ◌∷◌, ◌==◌, nat_lt}

-- whether a year has a 29 February
abbrev pub leap : ℕ → Bool
leap y = (y % 4 == 0 && not (y % 100 == 0)) || y % 400 == 0

-- the days of a month of a year, where 0 is January, by whether the year is leap
abbrev pub days_in : Bool → ℕ → ℕ
days_in l m = cond (m == 1) (cond l 29 28) (cond (m == 3 || (m == 5 || (m == 8 || m == 10))) 30 31)

-- the days of the month k
unfoldable pub month_length : ℕ → ℕ
month_length k = days_in (leap (2000 + k / 12)) (k % 12)

-- the first day of the month k: the sum of the lengths of the months before it
unfoldable pub first_day : ℕ → ℕ
first_day zero = 0
first_day (suc k) = first_day k + month_length k

-- of the month k and the n months after it, the first whose successor begins after the day d, else the last
unfoldable pub month_from : ℕ → ℕ → ℕ → ℕ
month_from zero k d = k
month_from (suc n) k d = cond (nat_lt d (first_day (suc k))) k (month_from n (suc k) d)

-- the month that has the day d, of the 1200 months until the end of 2099
unfoldable pub month_of : ℕ → ℕ
month_of d = month_from 1199 0 d

-- whether a table begins with the day d at the month k, and grows by each month's length
unfoldable pub rises : ℕ → ℕ → List ℕ → Bool
rises k d [] = true
rises k d (x ∷ xs) = x == d && rises (suc k) (d + month_length k) xs
