-- Probes that ask only what their driving row makes true: a condition that was true before was found before.
use Rattle.std.specs.Prelude.{ℤ, pos, Bool, true, false, not, List, [], ◌∷◌, ◌++◌, map, filter, nat_eq, int_lt, if◌then◌else◌}
use Rattle.std.specs.List.{list_any}
use Rattle.tap_base.specs.declared.numbers.Op.TheVariants.{Le}
use Rattle.tql_tree.specs.declared.table.Table.{Table}
use Rattle.tql_tree.specs.declared.table.Table.TheVariants.{Docs}
use Rattle.tql_core.specs.declared.term.Var.{Var}
use Rattle.tql_core.specs.declared.term.Base.{Base}
use Rattle.tql_core.specs.declared.term.Base.TheVariants.{Arrival, Date, Fixed, ArrivalDay, DateDay}
use Rattle.tql_core.specs.declared.term.Term.{Term}
use Rattle.tql_core.specs.declared.atom.NumExpr.{NumExpr}
use Rattle.tql_core.specs.declared.atom.NumExpr.TheVariants.{Literal, Field}
use Rattle.tql_core.specs.declared.atom.TextExpr.{TextExpr}
use Rattle.tql_core.specs.declared.atom.TextExpr.TheVariants as X
use Rattle.tql_core.specs.declared.atom.Atom.{Atom}
use Rattle.tql_core.specs.declared.atom.Atom.TheVariants.{Numbers, Texts, Times, Has}
use Rattle.tql_core.specs.contracts.atom.AtomPartialEq.TheImpl as atom
use Rattle.tql_core.specs.Condition.{Condition, Always, Never, Plain, NowAtLeast, NowBefore, All, Either, Not, Exists}
use Rattle.time_marks.specs.declared.mark.Step.{Step}
use Rattle.time_marks.specs.Found.{base_vars}
use Rattle.time_marks.specs.Marks.{copied, copy, copy_term, arrival_term, step_of, document_var, fixed_term, body}
use Rattle.time_marks.specs.Probes.{Probe}
use Rattle.monotone_rewrite.specs.Folding.{fold}
use Rattle.monotone_rewrite.specs.Query.{fold_probe, can_find}

-- one variable in the place of another
module _ (v w : Var) where
  abbrev pub renamed_var : Var → Var
  renamed_var u = if nat_eq u.0 v.0 then w else u

  abbrev pub renamed_base : Base → Base
  renamed_base (Arrival u) = Arrival (renamed_var u)
  renamed_base (Date u) = Date (renamed_var u)
  renamed_base Fixed = Fixed
  renamed_base (ArrivalDay u n) = ArrivalDay (renamed_var u) n
  renamed_base (DateDay u n) = DateDay (renamed_var u) n

  abbrev pub renamed_term : Term → Term
  renamed_term e = record { base = renamed_base e.base; plus = e.plus }

  abbrev pub renamed_number : NumExpr → NumExpr
  renamed_number (Literal n) = Literal n
  renamed_number (Field u f) = Field (renamed_var u) f

  abbrev pub renamed_text : TextExpr → TextExpr
  renamed_text (X.Literal t) = X.Literal t
  renamed_text (X.Field u f) = X.Field (renamed_var u) f

  abbrev pub renamed_atom : Atom → Atom
  renamed_atom (Numbers x op y) = Numbers (renamed_number x) op (renamed_number y)
  renamed_atom (Texts x op y) = Texts (renamed_text x) op (renamed_text y)
  renamed_atom (Times x op y) = Times (renamed_term x) op (renamed_term y)
  renamed_atom (Has u f y) = Has (renamed_var u) f (renamed_text y)

  -- the condition with w in the place of v where v is free
  abbrev pub renamed : Condition → Condition
  renamed Always = Always
  renamed Never = Never
  renamed (Plain a) = Plain (renamed_atom a)
  renamed (NowAtLeast e) = NowAtLeast (renamed_term e)
  renamed (NowBefore e) = NowBefore (renamed_term e)
  renamed (All l r) = All (renamed l) (renamed r)
  renamed (Either l r) = Either (renamed l) (renamed r)
  renamed (Not x) = Not (renamed x)
  renamed (Exists u t x) = if nat_eq u.0 v.0 then Exists u t x else Exists u t (renamed x)

-- the probe with one more step before its path
abbrev pub under_probe : Step → Probe → Probe
under_probe step p = record { path = step ∷ p.path; at = p.at; body = p.body }

-- the probe with another body
abbrev pub asking : Probe → Condition → Probe
asking p c = record { path = p.path; at = p.at; body = c }

-- does the mark speak of the row of the variable's copy?
abbrev pub is_driver : Var → Term → Bool
is_driver v at = list_any (λ k. nat_eq k (copied v.0)) (base_vars at.base)

-- what an EXISTS asks at a mark of its inner condition: of the row that drives it alone, or of some row that has come by then
abbrev pub some_row : Var → Table → Term → Condition → Condition
some_row v t at x = if is_driver v at then renamed v (copy v) x else Exists v t (All (Plain (Times (arrival_term v) Le at)) x)

-- a probe with no path yet, if the flag is set
abbrev pub probe_if : Bool → Term → Condition → List Probe
probe_if true at c = record { path = []; at = at; body = c } ∷ []
probe_if false at c = []

-- the marks of a condition, each with what has to hold there for the condition to become true (sign plus) or false (sign minus)
-- by it
abbrev pub delta : Condition → Bool → List Probe
delta Always up = []
delta Never up = []
delta (Plain a) up = []
delta (NowAtLeast e) up = probe_if up (copy_term e) Always
delta (NowBefore e) up = probe_if (not up) (copy_term e) Always
delta (All l r) true =
    map (λ p. asking p (All p.body (body r p.at))) (delta l true) ++ map (λ p. asking p (All (body l p.at) p.body)) (delta r true)
delta (All l r) false = delta l false ++ delta r false
delta (Either l r) true = delta l true ++ delta r true
delta (Either l r) false =
    map (λ p. asking p (All p.body (Not (body r p.at)))) (delta l false)
    ++ map (λ p. asking p (All (Not (body l p.at)) p.body)) (delta r false)
delta (Not x) up = delta x (not up)
delta (Exists v t x) true =
    map (under_probe (step_of v t x))
    (probe_if true (arrival_term (copy v)) (renamed v (copy v) (body x (arrival_term (copy v))))
    ++ map (λ p. asking p (some_row v t p.at p.body)) (delta x true))
delta (Exists v t x) false =
    map (under_probe (step_of v t x)) (map (λ p. asking p (Not (body (Exists v t x) p.at))) (delta x false))

-- the probes of a condition for the seconds from a on: the document's arrival, the marks that make it true, and the start if it is
-- above 0
abbrev pub unsettled : Condition → ℤ → List Probe
unsettled c a =
    map (under_probe (step_of document_var Docs c))
    ((probe_if true (arrival_term document_var) (body c (arrival_term document_var)) ++ delta c true)
    ++ probe_if (int_lt (pos 0) a) (fixed_term a) (body c (fixed_term a)))

-- is the atom a guard of the path?
abbrev pub is_guard : List Step → Atom → Bool
is_guard path a = list_any (λ step. list_any (λ guard. atom.ghosts.eq a guard) step.guards) path

-- the condition with each guard of the path true
abbrev pub settled : List Step → Condition → Condition
settled path Always = Always
settled path Never = Never
settled path (Plain a) = if is_guard path a then Always else Plain a
settled path (NowAtLeast e) = NowAtLeast e
settled path (NowBefore e) = NowBefore e
settled path (All l r) = All (settled path l) (settled path r)
settled path (Either l r) = Either (settled path l) (settled path r)
settled path (Not x) = Not (settled path x)
settled path (Exists v t x) = Exists v t (settled path x)

-- the probe with its body folded and the guards of its path true
abbrev pub settle_probe : Probe → Probe
settle_probe p = asking p (settled p.path (fold p.at p.body))

-- the window query: one probe for each rising mark, which asks what its row makes true, without those whose body has become FALSE
abbrev pub delta_window : Condition → ℤ → List Probe
delta_window c a = filter can_find (map fold_probe (map settle_probe (unsettled c a)))
