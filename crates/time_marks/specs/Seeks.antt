-- Marks solved for the stored second of their driving row.
use Rattle.std.specs.Prelude.{◌≡◌, ℤ, pos, ◌+ℤ◌, neg_ℤ, Bool, true, false, Option, Some, None}
use Rattle.tql_core.specs.declared.term.Base.{Base}
use Rattle.tql_core.specs.declared.term.Base.TheVariants as B
use Rattle.tql_core.specs.declared.term.Term.{Term}
use Rattle.tql_core.specs.Bounds.{is_bounded, is_near}
use Rattle.tql_core.specs.Row.{arrival, date}
use Rattle.tql_core.specs.Values.{Env, lookup, on_row, round_up_to_day, value}
use Rattle.time_marks.specs.declared.seek.Seek.{Seek}
use Rattle.time_marks.specs.declared.seek.Seek.TheVariants.{Arrived, Dated, Fixed, ArrivedDay, DatedDay}
use Rattle.time_marks.specs.declared.window.Window.{Window}
use Rattle.time_marks.specs.Windows.{is_within, moved, days_window, WindowFits}

-- the seek of a mark with this base
abbrev pub seek_from : Base → ℤ → Seek
seek_from (B.Arrival v) plus = Arrived v plus
seek_from (B.Date v) plus = Dated v plus
seek_from B.Fixed plus = Fixed plus
seek_from (B.ArrivalDay v n) plus = ArrivedDay v n
seek_from (B.DateDay v n) plus = DatedDay v n

-- a mark solved for the stored second of its driving row: the arrival or date, of a fixed mark its moment
abbrev pub seek_of : Term → Seek
seek_of e = seek_from e.base e.plus

-- the seconds that a seek adds to the stored second
abbrev pub seek_plus : Seek → ℤ
seek_plus (Arrived v n) = n
seek_plus (Dated v n) = n
seek_plus (Fixed moment) = pos 0
seek_plus (ArrivedDay v n) = n
seek_plus (DatedDay v n) = n

-- the second that a driving row has; a fixed mark's is its moment
abbrev pub driving_second : Seek → Env → Option ℤ
driving_second (Arrived v n) env = on_row (lookup v.0 env) (λ r. Some (arrival r))
driving_second (Dated v n) env = on_row (lookup v.0 env) date
driving_second (Fixed moment) env = Some moment
driving_second (ArrivedDay v n) env = on_row (lookup v.0 env) (λ r. Some (arrival r))
driving_second (DatedDay v n) env = on_row (lookup v.0 env) date

-- the mark of a stored second
abbrev pub marked_at : Seek → ℤ → ℤ
marked_at (Arrived v n) x = x +ℤ n
marked_at (Dated v n) x = x +ℤ n
marked_at (Fixed moment) x = x
marked_at (ArrivedDay v n) x = round_up_to_day (x +ℤ n)
marked_at (DatedDay v n) x = round_up_to_day (x +ℤ n)

-- the window of the stored seconds whose marks lie in the window
abbrev pub seek_window : Window → Seek → Window
seek_window w (Arrived v n) = moved w (neg_ℤ n)
seek_window w (Dated v n) = moved w (neg_ℤ n)
seek_window w (Fixed moment) = w
seek_window w (ArrivedDay v n) = moved (days_window w) (neg_ℤ n)
seek_window w (DatedDay v n) = moved (days_window w) (neg_ℤ n)

-- what solving a window for a seek needs: the seconds that are added are those of typed times, and the window fits
pub record CanSeek (seek : Seek) (w : Window) : Type 0 where
  pub plus : is_near (seek_plus seek) ≡ true
  pub window : WindowFits w

-- is the second there, and in the window?
abbrev pub lies_in : Window → Option ℤ → Bool
lies_in w None = false
lies_in w (Some x) = is_within w x

-- a mark lies in a window if and only if the stored second lies in the seek's window
abbrev pub SeeksSolveMarks : Type 0
SeeksSolveMarks =
    (e : Term) (w : Window) (env : Env) → is_bounded e ≡ true
    → lies_in w (value e env) ≡ lies_in (seek_window w (seek_of e)) (driving_second (seek_of e) env)
