-- The law of the next moment, as a contract names it.
use Rattle.std.specs.Prelude.{◌≡◌, ◌≤ℤ◌, ◌<ℤ◌, ℤ, Bool, None, List, [], IfSome}
use Rattle.tap_rows.specs.declared.rows.Doc.{Doc}
use Rattle.tap_rows.specs.declared.tables.Tables.{Tables}
use Rattle.tap_rows.specs.declared.results.Hit.{Hit}
use Rattle.time_marks.specs.Probes.{Probe, meaning_without}
use Rattle.time_marks.specs.NextWake.{next_wake}
use Rattle.wake_plan.specs.Wakes.{windows_end}

module _ (seen : Doc → Bool) (X : List Probe) (T : Tables) (last : ℤ) where
  -- what a run at a moment delivers: the window query since the last run, without what is in the box
  abbrev pub delivered_at : ℤ → List Hit
  delivered_at t = meaning_without seen X T (record { low = last; high = t })

  -- the least moment from now on, up to the last one, at which a run delivers
  pub record IsNextWake (now t : ℤ) : Type 0 where
    pub from : now ≤ℤ t
    pub to : t ≤ℤ windows_end
    pub some : delivered_at t ≡ [] → ⊥
    pub none_before : (s : ℤ) → now ≤ℤ s → s <ℤ t → delivered_at s ≡ []

-- if now is no later than the last moment, `next_wake` is the least moment at which a run delivers; if there is none, no run up
-- to the last moment delivers
abbrev pub WakesAreNext : Type 0
WakesAreNext =
    (seen : Doc → Bool) (X : List Probe) (T : Tables) (last now : ℤ) → now ≤ℤ windows_end
    → IfSome (next_wake now (delivered_at seen X T last windows_end)) (IsNextWake seen X T last now)
    × (next_wake now (delivered_at seen X T last windows_end) ≡ None → (s : ℤ) → s ≤ℤ windows_end → delivered_at seen X T last s ≡ [])
