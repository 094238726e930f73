-- The conjuncts of a condition that name a variable, and those that don't.
use Rattle.std.specs.Prelude.{Bool, false, not, ◌||◌, if◌then◌else◌}
use Rattle.tql_core.specs.declared.term.Var.{Var}
use Rattle.tql_core.specs.Condition.{Condition, Always, Never, Plain, NowAtLeast, NowBefore, All, Either, Not, Exists}
use Rattle.access_plan.specs.Accesses.{is_other}
use Rattle.probe_eval.specs.Open.{base_known, atom_known}

-- does the condition name v? Inside an EXISTS that binds v again it counts too
abbrev pub mentions : Var → Condition → Bool
mentions v Always = false
mentions v Never = false
mentions v (Plain a) = not (atom_known (is_other v) a)
mentions v (NowAtLeast e) = not (base_known (is_other v) e.base)
mentions v (NowBefore e) = not (base_known (is_other v) e.base)
mentions v (All l r) = mentions v l || mentions v r
mentions v (Either l r) = mentions v l || mentions v r
mentions v (Not x) = mentions v x
mentions v (Exists w t x) = mentions v x

-- of the inner condition of an EXISTS, the conjuncts that don't name its variable, which have one truth for all of its rows
abbrev pub fixed_part : Var → Condition → Condition
fixed_part v (All l r) = All (fixed_part v l) (fixed_part v r)
fixed_part v x = if mentions v x then Always else x

-- of the inner condition of an EXISTS, the conjuncts that name its variable
abbrev pub own_part : Var → Condition → Condition
own_part v (All l r) = All (own_part v l) (own_part v r)
own_part v x = if mentions v x then x else Always
