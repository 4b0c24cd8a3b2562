-- Numbers as people read them.
use Rattle.std.specs.Prelude.{ℕ, ◌+◌, ◌/◌, ◌%◌, List, [], ◌∷◌, ◌++◌, ◌==◌, ◌&&◌, codes, decimal, if◌then◌else◌, length, nat_lt}

-- digits with a comma (44) behind each that has three more behind it, or six, or any multiple of three
abbrev pub with_commas : List ℕ → List ℕ
with_commas [] = []
with_commas (digit ∷ more) = digit ∷ ((if nat_lt 0 (length more) && (length more % 3 == 0) then 44 ∷ [] else []) ++ with_commas more)

-- a number as `1,560`
abbrev pub grouped : ℕ → List ℕ
grouped number = with_commas (decimal number)

-- so many of what is called `one` where there is one, and else `more`: `1 file`, `1,560 files`
abbrev pub counted_text : ℕ → List ℕ → List ℕ → List ℕ
counted_text count one more = grouped count ++ 32 ∷ (if count == 1 then one else more)

-- a number below 100 with two digits
abbrev pub two_digits : ℕ → List ℕ
two_digits n = (48 + n / 10) ∷ (48 + n % 10) ∷ []

-- a time in whole seconds: `1:05`, minutes and seconds, and from an hour on `9 h 10 min`
abbrev pub time_of_seconds : ℕ → List ℕ
time_of_seconds seconds = if nat_lt seconds 3600
    then decimal (seconds / 60) ++ (codes ":" ++ two_digits (seconds % 60))
    else decimal (seconds / 3600) ++ (codes " h " ++ (decimal (seconds / 60 % 60) ++ codes " min"))

-- a time of so many milliseconds
abbrev pub time_text : ℕ → List ℕ
time_text millis = time_of_seconds (millis / 1000)

-- so many tenths of a unit: `7.1 MB`
abbrev pub tenths_text : ℕ → List ℕ → List ℕ
tenths_text tenths unit = grouped (tenths / 10) ++ (codes "." ++ (decimal (tenths % 10) ++ (codes " " ++ unit)))

-- so many bytes: whole ones below a thousand, and from there on the largest unit that they fill, with one decimal, which isn't rounded up
abbrev pub size_text : ℕ → List ℕ
size_text bytes = if nat_lt bytes 1000 then counted_text bytes (codes "byte") (codes "bytes")
    else (if nat_lt bytes 1_000_000 then tenths_text (bytes / 100) (codes "kB")
    else (if nat_lt bytes 1_000_000_000 then tenths_text (bytes / 100_000) (codes "MB")
    else (if nat_lt bytes 1_000_000_000_000 then tenths_text (bytes / 100_000_000) (codes "GB")
    else tenths_text (bytes / 100_000_000_000) (codes "TB"))))
