-- Windows of seconds.
use Rattle.std.specs.Prelude.{ℤ, pos, ◌+ℤ◌, ◌-ℤ◌, Bool, ◌&&◌, int_le, int_lt}
use Rattle.jiff_core.specs.Calendar.{IsWithin}
use Rattle.tql_core.specs.Values.{round_up_to_day}
use Rattle.time_marks.specs.declared.window.Window.{Window}

-- is the second in the window? The window has its low end, and not its high one
abbrev pub is_within : Window → ℤ → Bool
is_within w x = int_le w.low x && int_lt x w.high

-- both ends moved
abbrev pub moved : Window → ℤ → Window
moved w by = record { low = w.low +ℤ by; high = w.high +ℤ by }

-- the window of the seconds whose next start of a day is in a window
abbrev pub days_window : Window → Window
days_window w = record { low = round_up_to_day w.low -ℤ pos 86399; high = round_up_to_day w.high -ℤ pos 86399 }

-- the window's ends lie within 500,000,000,000 seconds of 1970-01-01T00:00:00Z: twice the last moment, so that an end stays an
-- i64 when it is moved
pub record WindowFits (w : Window) : Type 0 where
  pub low : IsWithin 500000000000 w.low
  pub high : IsWithin 500000000000 w.high
