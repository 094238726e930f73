-- What an environment has after a variable was bound in it.
use Rattle.std.proofs.Common.{◌≡◌, refl, ℕ, Some}
use Rattle.std.proofs.lemmas.Bool.{eq-eqb, ne_eqb}
use Rattle.tql_core.specs.declared.term.Var.{Var}
use Rattle.tql_core.specs.Row.{Row}
use Rattle.tql_core.specs.Values.{Env, bind, lookup}

pub bind_same : (v : Var) (r : Row) (env : Env) → lookup v.0 (bind v r env) ≡ Some r
bind_same v r env = rw (eq-eqb v.0 v.0 refl)

pub bind_other : (k : ℕ) (v : Var) (r : Row) (env : Env) → (k ≡ v.0 → ⊥) → lookup k (bind v r env) ≡ lookup k env
bind_other k v r env h = rw (ne_eqb k v.0 h)
