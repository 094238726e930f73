-- The form in which a condition is evaluated: an EXISTS stands only around what names its variable, and alternatives that each have a
-- key of the index have an EXISTS each.
use Rattle.std.specs.Prelude.{ℕ, ◌+◌, ◌*◌, Bool, true, false, not, ◌&&◌, ◌||◌, nat_eq, nat_le, if◌then◌else◌}
use Rattle.tap_base.specs.declared.numbers.Op.TheVariants as O
use Rattle.tql_tree.specs.declared.table.Table.{Table}
use Rattle.tql_core.specs.declared.term.Var.{Var}
use Rattle.tql_core.specs.declared.term.Base.{Base}
use Rattle.tql_core.specs.declared.term.Base.TheVariants.{Arrival, Date, Fixed, ArrivalDay, DateDay}
use Rattle.tql_core.specs.declared.atom.ListField.{ListField}
use Rattle.tql_core.specs.declared.atom.ListField.TheVariants as L
use Rattle.tql_core.specs.declared.atom.NumExpr.{NumExpr}
use Rattle.tql_core.specs.declared.atom.NumExpr.TheVariants.{Literal, Field}
use Rattle.tql_core.specs.declared.atom.TextExpr.{TextExpr}
use Rattle.tql_core.specs.declared.atom.TextExpr.TheVariants as X
use Rattle.tql_core.specs.declared.atom.Atom.{Atom}
use Rattle.tql_core.specs.declared.atom.Atom.TheVariants.{Numbers, Texts, Times, Has}
use Rattle.tql_core.specs.Condition.{Condition, Always, Never, Plain, NowAtLeast, NowBefore, All, Either, Not, Exists}
use Rattle.query_form.specs.declared.place.Place.{Place}
use Rattle.query_form.specs.declared.place.Place.TheVariants.{Before, Inside, After}

-- does a time count from the variable's row?
abbrev pub base_names : Var → Base → Bool
base_names v (Arrival w) = nat_eq w.0 v.0
base_names v (Date w) = nat_eq w.0 v.0
base_names v Fixed = false
base_names v (ArrivalDay w n) = nat_eq w.0 v.0
base_names v (DateDay w n) = nat_eq w.0 v.0

-- is a number a field of the variable's row?
abbrev pub number_names : Var → NumExpr → Bool
number_names v (Literal n) = false
number_names v (Field w f) = nat_eq w.0 v.0

-- is a text a field of the variable's row?
abbrev pub text_names : Var → TextExpr → Bool
text_names v (X.Literal t) = false
text_names v (X.Field w f) = nat_eq w.0 v.0

-- does an atom name the variable?
abbrev pub atom_names : Var → Atom → Bool
atom_names v (Numbers x op y) = number_names v x || number_names v y
atom_names v (Texts x op y) = text_names v x || text_names v y
atom_names v (Times x op y) = base_names v x.base || base_names v y.base
atom_names v (Has w f y) = nat_eq w.0 v.0 || text_names v y

-- does a condition name the variable?
abbrev pub names : Var → Condition → Bool
names v Always = false
names v Never = false
names v (Plain a) = atom_names v a
names v (NowAtLeast e) = base_names v e.base
names v (NowBefore e) = base_names v e.base
names v (All l r) = names v l || names v r
names v (Either l r) = names v l || names v r
names v (Not x) = names v x
names v (Exists w t x) = names v x

-- does an EXISTS stand in a condition?
abbrev pub has_exists : Condition → Bool
has_exists (All l r) = has_exists l || has_exists r
has_exists (Either l r) = has_exists l || has_exists r
has_exists (Not x) = has_exists x
has_exists (Exists w t x) = true
has_exists _ = false

-- does one side name the variable, and the other not?
abbrev pub is_of_one : Bool → Bool → Bool
is_of_one x y = (x && not y) || (y && not x)

-- is a text the variable's, looked for in a list of another row that isn't its words?
abbrev pub is_each_key : Var → ListField → TextExpr → Bool
is_each_key v L.Words y = false
is_each_key v _ y = text_names v y

-- does the index find the variable's rows by an atom?
abbrev pub is_index_key : Var → Atom → Bool
is_index_key v (Numbers x O.Eq y) = is_of_one (number_names v x) (number_names v y)
is_index_key v (Numbers x _ y) = false
is_index_key v (Texts x O.Eq y) = is_of_one (text_names v x) (text_names v y)
is_index_key v (Texts x _ y) = false
is_index_key v (Times x op y) = false
is_index_key v (Has w f y) = if nat_eq w.0 v.0 then not (text_names v y) else is_each_key v f y

-- does each alternative have a key of the variable?
abbrev pub has_key : Var → Condition → Bool
has_key v (Plain a) = is_index_key v a
has_key v (All l r) = has_key v l || has_key v r
has_key v (Either l r) = has_key v l && has_key v r
has_key v _ = false

-- a number, or the limit if the number is greater
abbrev pub at_most : ℕ → ℕ → ℕ
at_most limit n = if nat_le n limit then n else limit

-- how many alternatives with a key there are: 17 if there are more than 16
abbrev pub alternatives : Var → Condition → ℕ
alternatives v (All l r) = at_most 17 (alternatives v l * alternatives v r)
alternatives v (Either l r) = if has_key v l && has_key v r then at_most 17 (alternatives v l + alternatives v r) else 1
alternatives v _ = 1

-- a conjunction, without a side that is TRUE
abbrev pub conjoined : Condition → Condition → Condition
conjoined Always r = r
conjoined l Always = l
conjoined l r = All l r

-- where a conjunct stands: inside the EXISTS if it names the variable; otherwise after it if an EXISTS stands in it, too, else before it
abbrev pub place_of : Var → Condition → Place
place_of v x = if names v x then Inside else (if has_exists x then After else Before)

-- are the places the same?
abbrev pub same_place : Place → Place → Bool
same_place Before Before = true
same_place Inside Inside = true
same_place After After = true
same_place _ _ = false

-- a condition if the flag is set, else TRUE
abbrev pub only_if : Bool → Condition → Condition
only_if true x = x
only_if false x = Always

-- the conjuncts that stand in a place
abbrev pub conjuncts : Var → Place → Condition → Condition
conjuncts v p (All l r) = conjoined (conjuncts v p l) (conjuncts v p r)
conjuncts v p x = only_if (same_place p (place_of v x)) x

-- a conjunction, distributed over the alternatives of its second side
abbrev pub cross_right : Var → Condition → Condition → Condition
cross_right v l (Either a b) = if has_key v a && has_key v b then Either (cross_right v l a) (cross_right v l b) else All l (Either a b)
cross_right v l r = All l r

-- a conjunction, distributed over the alternatives of both sides
abbrev pub cross : Var → Condition → Condition → Condition
cross v (Either a b) r = if has_key v a && has_key v b then Either (cross v a r) (cross v b r) else cross_right v (Either a b) r
cross v l r = cross_right v l r

-- a condition with each AND distributed over the alternatives
abbrev pub distributed : Var → Condition → Condition
distributed v (All l r) = cross v (distributed v l) (distributed v r)
distributed v (Either l r) = Either (distributed v l) (distributed v r)
distributed v x = x

-- what replaces an EXISTS, between the conjuncts before and after it
abbrev pub beside : Var → Condition → Condition → Condition
beside v x made = conjoined (conjuncts v Before x) (conjoined made (conjuncts v After x))

-- an EXISTS around the conjuncts that name its variable, with the others beside it
abbrev pub narrowed : Var → Table → Condition → Condition
narrowed v t x = beside v x (Exists v t (conjuncts v Inside x))

-- an EXISTS for each alternative
abbrev pub exists_each : Var → Table → Condition → Condition
exists_each v t (Either l r) =
    if has_key v l && has_key v r then Either (exists_each v t l) (exists_each v t r) else narrowed v t (Either l r)
exists_each v t x = narrowed v t x

-- how many nodes a condition has
abbrev pub node_count : Condition → ℕ
node_count (All l r) = 1 + node_count l + node_count r
node_count (Either l r) = 1 + node_count l + node_count r
node_count (Not x) = 1 + node_count x
node_count (Exists v t x) = 1 + node_count x
node_count _ = 1

-- what an EXISTS was split into, or the EXISTS if that has more than 128 nodes
abbrev pub small_or_whole : Var → Table → Condition → Condition → Condition
small_or_whole v t x made = if nat_le (node_count made) 128 then made else Exists v t x

-- may an EXISTS be split? Into at most 16, which have at most 128 nodes together
abbrev pub may_split : Var → Table → Condition → Bool
may_split v t x = nat_le (alternatives v x) 16 && nat_le (node_count (exists_each v t (distributed v x))) 128

-- an EXISTS for each alternative, or one for all if it may not be split
abbrev pub split : Var → Table → Condition → Condition
split v t x = if may_split v t x then exists_each v t (distributed v x) else Exists v t x

-- the form of an EXISTS whose condition is in the form
abbrev pub formed_exists : Var → Table → Condition → Condition
formed_exists v t x = beside v x (split v t (conjuncts v Inside x))

-- the form, however many nodes it has
abbrev pub formed : Condition → Condition
formed Always = Always
formed Never = Never
formed (Plain a) = Plain a
formed (NowAtLeast e) = NowAtLeast e
formed (NowBefore e) = NowBefore e
formed (All l r) = All (formed l) (formed r)
formed (Either l r) = Either (formed l) (formed r)
formed (Not x) = Not (formed x)
formed (Exists v t x) = formed_exists v t (formed x)

-- how many EXISTS replace one in this condition
abbrev pub exists_count : Var → Condition → ℕ
exists_count v (Either l r) = if has_key v l && has_key v r then exists_count v l + exists_count v r else 1
exists_count v x = 1

-- the form of a condition: the condition itself if the form has more than 128 nodes
abbrev pub form_of : Condition → Condition
form_of c = if nat_le (node_count (formed c)) 128 then formed c else c
