-- The second of a Date field's value (RFC 5322 3.3 and 4.3).
use Rattle.std.specs.Prelude.{ℕ, zero, suc, List, [], ◌∷◌, Bool, false, ◌&&◌, ◌||◌, not, nat_le, nat_lt, ◌==◌, ◌+◌, ◌*◌}
use Rattle.std.specs.Prelude.{length, take, drop, filter, if◌then◌else◌, codes, Option, Some, None, position}
use Rattle.std.specs.Prelude.{ℤ, pos, neg_ℤ, ◌+ℤ◌, ◌-ℤ◌, ◌*ℤ◌}
use Rattle.std.specs.List.{slice_split}
use Rattle.std.specs.Option.{option_map, option_and_then}
use Rattle.std.specs.Str.{str_eq_ignore_ascii_case, all_ascii_digits}
use Rattle.std.specs.Str.Parse.{digits_value}
use Rattle.jiff_core.specs.Calendar.{days_from_civil, days_in_month}
use Rattle.tap_base.specs.Bytes.{is_blank}
use Rattle.tap_base.specs.Numbers.{checked_moment}

-- the bytes with each comment as one blank, if `depth` comments are open before them; one that isn't closed goes to the end
abbrev pub without_comments : ℕ → List ℕ → List ℕ
without_comments depth [] = []
without_comments zero (b ∷ bytes) = if b == 40 then 32 ∷ without_comments 1 bytes else b ∷ without_comments zero bytes
without_comments (suc depth) (b ∷ bytes) =
    if b == 40 then without_comments (suc (suc depth)) bytes
    else (if b == 41 then without_comments depth bytes else without_comments (suc depth) bytes)

-- a byte between the parts of a date
abbrev pub separates : ℕ → Bool
separates b = is_blank b || b == 44

-- the parts of a date
abbrev pub date_parts : List ℕ → List (List ℕ)
date_parts bytes = filter (λ part. not (length part == 0)) (slice_split separates bytes)

-- an ASCII letter
abbrev pub is_letter : ℕ → Bool
is_letter b = (nat_le 65 b && nat_le b 90) || (nat_le 97 b && nat_le b 122)

-- does the part begin with an ASCII letter?
abbrev pub begins_with_letter : List ℕ → Bool
begins_with_letter [] = false
begins_with_letter (b ∷ bytes) = is_letter b

-- the parts without a weekday
abbrev pub without_weekday : List (List ℕ) → List (List ℕ)
without_weekday [] = []
without_weekday (part ∷ parts) = if begins_with_letter part then parts else part ∷ parts

-- the number of a part of `least` to `most` digits
abbrev pub digits_within : ℕ → ℕ → List ℕ → Option ℕ
digits_within least most part =
    if nat_le least (length part) && nat_le (length part) most && all_ascii_digits part then Some (digits_value 10 part) else None

-- the names of the months, from January on
abbrev pub months : List (List ℕ)
months =
    codes "jan" ∷ codes "feb" ∷ codes "mar" ∷ codes "apr" ∷ codes "may" ∷ codes "jun"
    ∷ codes "jul" ∷ codes "aug" ∷ codes "sep" ∷ codes "oct" ∷ codes "nov" ∷ codes "dec" ∷ []

-- the month of a part, from 1, without regard to ASCII case
abbrev pub month_of : List ℕ → Option ℕ
month_of part = option_map (λ i. i + 1) (position (λ month. str_eq_ignore_ascii_case part month) months)

-- the year that a number of that many digits means (RFC 5322 4.3)
abbrev pub full_year : ℕ → ℕ → ℕ
full_year digits n = if digits == 4 then n else (if digits == 2 && nat_lt n 50 then n + 2000 else n + 1900)

-- the year of a part of two to four digits
abbrev pub year_of : List ℕ → Option ℕ
year_of part = option_map (full_year (length part)) (digits_within 2 4 part)

-- the number of a part of one or two digits, if it is at most `most`
abbrev pub clock_number : ℕ → List ℕ → Option ℕ
clock_number most part = option_and_then (λ n. if nat_le n most then Some n else None) (digits_within 1 2 part)

-- the second of an hour, a minute and a second; 60 counts as 59
abbrev pub clock_second : Option ℕ → Option ℕ → Option ℕ → Option ℕ
clock_second (Some h) (Some m) (Some s) = Some (h * 3600 + m * 60 + (if s == 60 then 59 else s))
clock_second (Some h) (Some m) None = None
clock_second (Some h) None s = None
clock_second None m s = None

-- the second of the day of two or three numbers: hour, minute, second
abbrev pub second_of_day : List (List ℕ) → Option ℕ
second_of_day (h ∷ m ∷ []) = clock_second (clock_number 23 h) (clock_number 59 m) (Some 0)
second_of_day (h ∷ m ∷ s ∷ []) = clock_second (clock_number 23 h) (clock_number 59 m) (clock_number 60 s)
second_of_day [] = None
second_of_day (h ∷ []) = None
second_of_day (h ∷ m ∷ s ∷ x ∷ more) = None

-- the second of the day of a part: its numbers are joined by colons
abbrev pub time_of : List ℕ → Option ℕ
time_of part = second_of_day (slice_split (λ b. b == 58) part)

-- how many hours west of Greenwich a zone of this name is (RFC 5322 4.3); a name that isn't known is Greenwich
abbrev pub hours_west : List ℕ → ℕ
hours_west name =
    if str_eq_ignore_ascii_case name (codes "EDT") then 4
    else (if str_eq_ignore_ascii_case name (codes "EST") || str_eq_ignore_ascii_case name (codes "CDT") then 5
    else (if str_eq_ignore_ascii_case name (codes "CST") || str_eq_ignore_ascii_case name (codes "MDT") then 6
    else (if str_eq_ignore_ascii_case name (codes "MST") || str_eq_ignore_ascii_case name (codes "PDT") then 7
    else (if str_eq_ignore_ascii_case name (codes "PST") then 8 else 0))))

-- the seconds of four digits HHMM
abbrev pub offset_of : List ℕ → Option ℕ
offset_of digits =
    if length digits == 4 && all_ascii_digits digits && nat_le (digits_value 10 (drop 2 digits)) 59
    then Some (digits_value 10 (take 2 digits) * 3600 + digits_value 10 (drop 2 digits) * 60) else None

-- how many seconds east of Greenwich a zone is
abbrev pub zone_of : List ℕ → Option ℤ
zone_of [] = None
zone_of (b ∷ bytes) =
    if b == 43 then option_map pos (offset_of bytes)
    else (if b == 45 then option_map (λ n. neg_ℤ (pos n)) (offset_of bytes)
    else (if is_letter b then Some (neg_ℤ (pos (hours_west (b ∷ bytes) * 3600))) else None))

-- the zone of the parts after the time: the first of them, or Greenwich if there is none
abbrev pub first_zone : List (List ℕ) → Option ℤ
first_zone [] = Some (pos 0)
first_zone (part ∷ parts) = zone_of part

-- does the month of the year have such a day?
abbrev pub has_day : ℕ → ℕ → ℕ → Bool
has_day year month day = nat_le 1 day && nat_le day (days_in_month (pos year) month)

-- the second of a civil date, a second of the day and a zone, if it is a moment's
abbrev pub second_of : ℕ → ℕ → ℕ → ℕ → ℤ → Option ℤ
second_of year month day time zone =
    if has_day year month day then checked_moment (pos 86400 *ℤ days_from_civil (pos year) month day +ℤ pos time -ℤ zone) else None

-- the second of the parts of a date, if each part has its form
abbrev pub second_of_parts : Option ℕ → Option ℕ → Option ℕ → Option ℕ → Option ℤ → Option ℤ
second_of_parts (Some day) (Some month) (Some year) (Some time) (Some zone) = second_of year month day time zone
second_of_parts (Some day) (Some month) (Some year) (Some time) None = None
second_of_parts (Some day) (Some month) (Some year) None offset = None
second_of_parts (Some day) (Some month) None time offset = None
second_of_parts (Some day) None year time offset = None
second_of_parts None month year time offset = None

-- the second of the parts from the day on
abbrev pub date_from : List (List ℕ) → Option ℤ
date_from (day ∷ month ∷ year ∷ time ∷ more) =
    second_of_parts (digits_within 1 2 day) (month_of month) (year_of year) (time_of time) (first_zone more)
date_from [] = None
date_from (day ∷ []) = None
date_from (day ∷ month ∷ []) = None
date_from (day ∷ month ∷ year ∷ []) = None

-- the second of a Date value, if it is a moment: its day, month, year, time and zone, without weekday and comments; no zone means
-- Greenwich
abbrev pub date_of : List ℕ → Option ℤ
date_of value = date_from (without_weekday (date_parts (without_comments 0 value)))
