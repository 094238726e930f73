-- The variables that a condition may name.
use Rattle.std.specs.Prelude.{ℕ, ◌≤◌, List, [], ◌∷◌}
use Rattle.tap_rows.specs.Kept.{In}
use Rattle.tql_core.specs.declared.term.Base.{Base}
use Rattle.tql_core.specs.declared.term.Base.TheVariants.{Arrival, Date, Fixed, ArrivalDay, DateDay}
use Rattle.tql_core.specs.declared.atom.NumExpr.{NumExpr}
use Rattle.tql_core.specs.declared.atom.NumExpr.TheVariants.{Literal, Field}
use Rattle.tql_core.specs.declared.atom.Atom.{Atom}
use Rattle.tql_core.specs.declared.atom.Atom.TheVariants.{Numbers, Texts, Times, Has}
use Rattle.tql_core.specs.declared.atom.TextExpr.{TextExpr}
use Rattle.tql_core.specs.declared.atom.TextExpr.TheVariants as X
use Rattle.tql_core.specs.Condition.{Condition, Always, Never, Plain, NowAtLeast, NowBefore, All, Either, Not, Exists}

-- the variable of a base is in scope
abbrev pub BaseIn : List ℕ → Base → Type 0
BaseIn scope (Arrival v) = In v.0 scope
BaseIn scope (Date v) = In v.0 scope
BaseIn scope Fixed = Unit {0}
BaseIn scope (ArrivalDay v n) = In v.0 scope
BaseIn scope (DateDay v n) = In v.0 scope

-- the variable of a number is in scope
abbrev pub NumIn : List ℕ → NumExpr → Type 0
NumIn scope (Literal n) = Unit {0}
NumIn scope (Field v f) = In v.0 scope

-- the variable of a text is in scope
abbrev pub TextIn : List ℕ → TextExpr → Type 0
TextIn scope (X.Literal t) = Unit {0}
TextIn scope (X.Field v f) = In v.0 scope

-- each variable of an atom is in scope
abbrev pub AtomIn : List ℕ → Atom → Type 0
AtomIn scope (Numbers x op y) = NumIn scope x × NumIn scope y
AtomIn scope (Texts x op y) = TextIn scope x × TextIn scope y
AtomIn scope (Times x op y) = BaseIn scope x.base × BaseIn scope y.base
AtomIn scope (Has v f y) = In v.0 scope × TextIn scope y

-- each variable is in scope where it stands, and each EXISTS binds one of 1 to 5 that isn't in scope there
abbrev pub Scoped : List ℕ → Condition → Type 0
Scoped scope Always = Unit {0}
Scoped scope Never = Unit {0}
Scoped scope (Plain a) = AtomIn scope a
Scoped scope (NowAtLeast e) = BaseIn scope e.base
Scoped scope (NowBefore e) = BaseIn scope e.base
Scoped scope (All l r) = Scoped scope l × Scoped scope r
Scoped scope (Either l r) = Scoped scope l × Scoped scope r
Scoped scope (Not x) = Scoped scope x
Scoped scope (Exists v t x) = (1 ≤ v.0) × (v.0 ≤ 5) × (In v.0 scope → ⊥) × Scoped (v.0 ∷ scope) x

-- `m` alone is free, and each EXISTS binds a variable from 1 to 5 that isn't in scope there
abbrev pub IsQuery : Condition → Type 0
IsQuery c = Scoped (0 ∷ []) c

-- the variable of a base is at most 5
abbrev pub BaseFits : Base → Type 0
BaseFits (Arrival v) = v.0 ≤ 5
BaseFits (Date v) = v.0 ≤ 5
BaseFits Fixed = Unit {0}
BaseFits (ArrivalDay v n) = v.0 ≤ 5
BaseFits (DateDay v n) = v.0 ≤ 5

-- the variable of a number is at most 5
abbrev pub NumFits : NumExpr → Type 0
NumFits (Literal n) = Unit {0}
NumFits (Field v f) = v.0 ≤ 5

-- the variable of a text is at most 5
abbrev pub TextFits : TextExpr → Type 0
TextFits (X.Literal t) = Unit {0}
TextFits (X.Field v f) = v.0 ≤ 5

-- each variable of an atom is at most 5
abbrev pub AtomFits : Atom → Type 0
AtomFits (Numbers x op y) = NumFits x × NumFits y
AtomFits (Texts x op y) = TextFits x × TextFits y
AtomFits (Times x op y) = BaseFits x.base × BaseFits y.base
AtomFits (Has v f y) = (v.0 ≤ 5) × TextFits y

-- each variable of a condition is at most 5
abbrev pub CondFits : Condition → Type 0
CondFits Always = Unit {0}
CondFits Never = Unit {0}
CondFits (Plain a) = AtomFits a
CondFits (NowAtLeast e) = BaseFits e.base
CondFits (NowBefore e) = BaseFits e.base
CondFits (All l r) = CondFits l × CondFits r
CondFits (Either l r) = CondFits l × CondFits r
CondFits (Not x) = CondFits x
CondFits (Exists v t x) = (v.0 ≤ 5) × CondFits x
