-- The windows in which the next mark is looked for.
use Rattle.std.specs.Prelude.{◌≡◌, ◌≤ℤ◌, ℤ, pos, Option, Some, None, List}
use Rattle.tap_rows.specs.declared.tables.Tables.{Tables}
use Rattle.tap_rows.specs.declared.results.Hit.{Hit}
use Rattle.tap_rows.specs.declared.results.Entry.{Entry}
use Rattle.time_marks.specs.declared.window.Window.{Window}
use Rattle.time_marks.specs.declared.ranged_query.RangedQuery.{RangedQuery}
use Rattle.time_marks.specs.Probes.{meaning_without}
use Rattle.time_marks.specs.NextWake.{after_mark, least_mark}
use Rattle.time_marks.specs.Views.{ranged_probes}
use Rattle.probe_eval.specs.Nested.{was_seen}

-- all windows end here
abbrev pub windows_end : ℤ
windows_end = pos 250000000000

-- the second after a mark, or the last moment if there is none
abbrev pub end_after : Option ℤ → ℤ
end_after None = windows_end
end_after (Some b) = after_mark b

-- the window up to and with the least mark of the hits; the whole window if there is none
abbrev pub wake_window : ℤ → List Hit → Window
wake_window last hits = record { low = last; high = end_after (least_mark hits) }

-- the hits from the last run on, of documents that aren't in the box
abbrev pub hits_ahead : List Entry → RangedQuery → Tables → ℤ → List Hit
hits_ahead entries q T last = meaning_without (was_seen entries) (ranged_probes q) T (record { low = last; high = windows_end })

-- the second window begins like the first and ends no later
pub record IsUpTo (w u : Window) : Type 0 where
  pub low : u.low ≡ w.low
  pub high : u.high ≤ℤ w.high
