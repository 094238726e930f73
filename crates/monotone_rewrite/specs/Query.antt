-- The window query of a condition.
use Rattle.std.specs.Prelude.{◌≡◌, ℤ, pos, ◌≤ℤ◌, Bool, true, not, List, map}
use Rattle.std.specs.List.{filter}
use Rattle.tql_core.specs.Bounds.{are_bounded}
use Rattle.tql_core.specs.Condition.{Condition}
use Rattle.tql_core.specs.Scope.{IsQuery}
use Rattle.time_marks.specs.declared.mark.Mark.{Mark}
use Rattle.time_marks.specs.Marks.{rising_from, body}
use Rattle.time_marks.specs.Probes.{Probe}
use Rattle.monotone_rewrite.specs.Folding.{known, is_no, fold}

-- the probe with its body folded
abbrev pub fold_probe : Probe → Probe
fold_probe p = record { path = p.path; at = p.at; body = fold p.at p.body }

-- the body isn't False
abbrev pub can_find : Probe → Bool
can_find p = not (is_no (known p.body))

-- the probe of a mark, before folding
abbrev pub probe_of : Condition → Mark → Probe
probe_of c mark = record { path = mark.path; at = mark.at; body = body c mark.at }

-- the window query of the seconds from a on, before folding
abbrev pub unfolded : Condition → ℤ → List Probe
unfolded c a = map (probe_of c) (rising_from c a)

-- the window query: one probe for each rising mark, folded, without those whose body has become FALSE
abbrev pub window : Condition → ℤ → List Probe
window c a = filter can_find (map fold_probe (unfolded c a))

-- the condition is a query as typing gives it: it names no variable but m and those that its EXISTS bind, and its times are bounded
pub record CanRewrite (c : Condition) : Type 0 where
  pub scoped : IsQuery c
  pub bounded : are_bounded c ≡ true

-- what the rewriting needs: the condition is a query with bounded times, and the start is a moment
pub record CanRewriteFrom (c : Condition) (start : ℤ) : Type 0 where
  pub query : CanRewrite c
  pub from_zero : pos 0 ≤ℤ start
  pub to_last : start ≤ℤ pos 250000000000
