-- A condition in scope names variables up to 5.
use Rattle.std.proofs.Common.{ℕ, ◌≤◌, List, [], ◌∷◌, inl, inr, arith}
use Rattle.tql_core.specs.declared.term.Base.{Base}
use Rattle.tql_core.specs.declared.term.Base.TheVariants.{Arrival, Date, Fixed, ArrivalDay, DateDay}
use Rattle.tql_core.specs.declared.atom.NumExpr.{NumExpr}
use Rattle.tql_core.specs.declared.atom.NumExpr.TheVariants.{Literal, Field}
use Rattle.tql_core.specs.declared.atom.Atom.{Atom}
use Rattle.tql_core.specs.declared.atom.Atom.TheVariants.{Numbers, Texts, Times, Has}
use Rattle.tql_core.specs.declared.atom.TextExpr.{TextExpr}
use Rattle.tql_core.specs.declared.atom.TextExpr.TheVariants as X
use Rattle.tql_core.specs.Condition.{Condition, Always, Never, Plain, NowAtLeast, NowBefore, All, Either, Not, Exists}
use Rattle.tql_core.specs.Scope.{BaseIn, NumIn, TextIn, AtomIn, Scoped, IsQuery, BaseFits, NumFits, TextFits, AtomFits, CondFits}
use Rattle.tap_rows.specs.Kept.{In}

base_fits : (scope : List ℕ) → ((k : ℕ) → In k scope → k ≤ 5) → (b : Base) → BaseIn scope b → BaseFits b
base_fits scope h (Arrival v) i = h v.0 i
base_fits scope h (Date v) i = h v.0 i
base_fits scope h Fixed i = tt
base_fits scope h (ArrivalDay v n) i = h v.0 i
base_fits scope h (DateDay v n) i = h v.0 i

num_fits : (scope : List ℕ) → ((k : ℕ) → In k scope → k ≤ 5) → (x : NumExpr) → NumIn scope x → NumFits x
num_fits scope h (Literal n) i = tt
num_fits scope h (Field v f) i = h v.0 i

text_fits : (scope : List ℕ) → ((k : ℕ) → In k scope → k ≤ 5) → (x : TextExpr) → TextIn scope x → TextFits x
text_fits scope h (X.Literal t) i = tt
text_fits scope h (X.Field v f) i = h v.0 i

atom_fits : (scope : List ℕ) → ((k : ℕ) → In k scope → k ≤ 5) → (a : Atom) → AtomIn scope a → AtomFits a
atom_fits scope h (Numbers x op y) i = (num_fits scope h x i.0, num_fits scope h y i.1)
atom_fits scope h (Texts x op y) i = (text_fits scope h x i.0, text_fits scope h y i.1)
atom_fits scope h (Has v f y) i = (h v.0 i.0, text_fits scope h y i.1)
atom_fits scope h (Times x op y) i = (base_fits scope h x.base i.0, base_fits scope h y.base i.1)

lower : (v : ℕ) (scope : List ℕ) → v ≤ 5 → ((k : ℕ) → In k scope → k ≤ 5) → (k : ℕ) → In k (v ∷ scope) → k ≤ 5
lower v scope h low k (inl e) = omega arith
lower v scope h low k (inr i) = low k i

cond_fits : (c : Condition) (scope : List ℕ) → ((k : ℕ) → In k scope → k ≤ 5) → Scoped scope c → CondFits c
cond_fits Always scope h s = tt
cond_fits Never scope h s = tt
cond_fits (Plain a) scope h s = atom_fits scope h a s
cond_fits (NowAtLeast e) scope h s = base_fits scope h e.base s
cond_fits (NowBefore e) scope h s = base_fits scope h e.base s
cond_fits (All l r) scope h s = (cond_fits l scope h s.0, cond_fits r scope h s.1)
cond_fits (Either l r) scope h s = (cond_fits l scope h s.0, cond_fits r scope h s.1)
cond_fits (Not x) scope h s = cond_fits x scope h s
cond_fits (Exists v t x) scope h s = (s.1, cond_fits x (v.0 ∷ scope) (lower v.0 scope s.1 h) s.3)

pub query_fits : (c : Condition) → IsQuery c → CondFits c
query_fits c s = cond_fits c (0 ∷ []) (λ k i. elim i [ inl e ↦ omega arith | inr n ↦ absurd n ]) s
