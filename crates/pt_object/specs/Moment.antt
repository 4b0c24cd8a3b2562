-- Moments to the second, as an inventory has them: `YYYY-MM-DDTHH:MM:SS` with `Z` or an offset.
use Rattle.std.specs.Prelude.{
  ℕ,
  ◌+◌,
  ◌-◌,
  ◌*◌,
  ◌==◌,
  ◌&&◌,
  ◌||◌,
  nat_le,
  nat_lt,
  Bool,
  false,
  cond,
  codes,
  List,
  [],
  ◌∷◌,
  length,
  Option,
  Some,
  None,
  pos,
  slice_index,
  slice_range,
  drop,
}
use Rattle.std.specs.Char.{is_ascii_digit}
use Rattle.std.specs.Str.{bytes_eq}
use Rattle.jiff.specs.Words.{days_in_month}

-- the number that two digits write
abbrev pub two_digits : List ℕ → Option ℕ
two_digits (tens ∷ ones ∷ []) =
    cond (is_ascii_digit tens && is_ascii_digit ones) (Some ((tens - 48) * 10 + (ones - 48))) None
two_digits _ = None

-- it is a number below the limit
abbrev pub is_some_below : ℕ → Option ℕ → Bool
is_some_below limit None = false
is_some_below limit (Some n) = nat_lt n limit

-- two digits of a number below the limit
abbrev pub is_below : ℕ → List ℕ → Bool
is_below limit text = is_some_below limit (two_digits text)

-- the calendar has this day: the months have their days, and each fourth year a leap day, but of the centuries only each fourth
abbrev pub is_day : ℕ → ℕ → ℕ → Bool
is_day year month day =
    nat_le 1 month && nat_le month 12 && nat_le 1 day && nat_le day (days_in_month (pos year) month)

-- these numbers are a day of the calendar
abbrev pub is_day_written : Option ℕ → Option ℕ → Option ℕ → Option ℕ → Bool
is_day_written (Some century) (Some year) (Some month) (Some day) = is_day (century * 100 + year) month day
is_day_written _ _ _ _ = false

-- `YYYY-MM-DD`, of a day that the calendar has
abbrev pub is_date : List ℕ → Bool
is_date text =
    slice_index text 4 == 45 && slice_index text 7 == 45
    && is_day_written (two_digits (slice_range text 0 2)) (two_digits (slice_range text 2 4))
    (two_digits (slice_range text 5 7)) (two_digits (slice_range text 8 10))

-- `HH:MM`, up to 23:59
abbrev pub is_clock : List ℕ → Bool
is_clock text = length text == 5 && slice_index text 2 == 58 && is_below 24 (slice_range text 0 2)
    && is_below 60 (slice_range text 3 5)

-- `HH:MM:SS`, up to 23:59:59
abbrev pub is_time : List ℕ → Bool
is_time text = length text == 8 && slice_index text 5 == 58 && is_clock (slice_range text 0 5)
    && is_below 60 (slice_range text 6 8)

-- `Z`, or `+HH:MM` or `-HH:MM`
abbrev pub is_offset : List ℕ → Bool
is_offset text =
    bytes_eq text (codes "Z") || (slice_index text 0 == 43 || slice_index text 0 == 45)
    && is_clock (drop 1 text)

-- a date, `T` and a time
abbrev pub is_date_time : List ℕ → Bool
is_date_time text =
    slice_index text 10 == 84 && is_date (slice_range text 0 10) && is_time (slice_range text 11 19)

-- a moment of RFC 3339 to the second: a date and a time, and `Z` or an offset
abbrev pub is_moment : List ℕ → Bool
is_moment text = nat_lt 19 (length text) && is_date_time (slice_range text 0 19) && is_offset (drop 19 text)
