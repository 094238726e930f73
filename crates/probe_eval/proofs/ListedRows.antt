-- A probe that goes by a posting list finds each row that is walked, at each mark that isn't before it.
use Rattle.std.proofs.Common.{◌≡◌, ◌∙◌, ℕ, ℤ, pos, Bool, true, false, Option, Some, None, List, [], ◌∷◌, ◌++◌, refl, sym, ap, subst, inl}
use Rattle.std.proofs.Common.{inr}
use Rattle.std.specs.Prelude.{◌&&◌, ◌||◌, not, is_some, int_le, nat_eq, fold, option_to_list}
use Rattle.std.specs.List.{flat_map}
use Rattle.std.proofs.lemmas.Bool.{cases_Bool, and_parts, false≢true, eqb-true}
use Rattle.tap_rows.specs.Kept.{In}
use Rattle.tap_rows.specs.declared.tables.Tables.{Tables}
use Rattle.tap_rows.specs.declared.results.Entry.{Entry}
use Rattle.tap_rows.proofs.Tests.{and_end}
use Rattle.tql_tree.specs.declared.table.Table.{Table}
use Rattle.tql_tree.specs.declared.table.Table.TheVariants.{Docs, Notes}
use Rattle.tql_core.specs.declared.term.Var.{Var}
use Rattle.tql_core.specs.declared.atom.Atom.{Atom}
use Rattle.tql_core.specs.Condition.{Condition, Always, Plain}
use Rattle.tql_core.specs.Exact.{atom_is}
use Rattle.tql_core.specs.Holds.{truth}
use Rattle.tql_core.specs.Row.{Row, OfDoc, OfNote, arrival}
use Rattle.tql_core.specs.Values.{Env, bind, lookup, value, true_atom}
use Rattle.tql_core.proofs.Bound.{bind_same}
use Rattle.time_marks.specs.declared.mark.Step.{Step}
use Rattle.time_marks.specs.declared.seek.Seek.{Seek}
use Rattle.time_marks.specs.declared.seek.Seek.TheVariants.{Arrived, ArrivedDay}
use Rattle.time_marks.specs.declared.window.Window.{Window}
use Rattle.time_marks.specs.Probes.{Probe, come_by}
use Rattle.access_plan.specs.Accesses.{is_held}
use Rattle.access_plan.specs.Nearest.{nearest}
use Rattle.access_plan.specs.declared.reach.Reach.{Reach}
use Rattle.probe_eval.specs.Drivers.{driving, walked, mark_in, marked_hits, hits_at}
use Rattle.probe_eval.specs.Listed.{is_by_arrival, is_docs, is_implied, asks_literal, guard_goes_by_list, path_goes_by_list, goes_by_list}
use Rattle.probe_eval.specs.Listed.{listed_hit, marked_hit, listed_hits}
use Rattle.probe_eval.specs.Literals.{literal_kind, rarer, rarest, chosen, rows_where}
use Rattle.probe_eval.specs.Nested.{hit_if, new_doc, holds_here, hits_over}
use Rattle.probe_eval.specs.Open.{atom_held, may_hold, are_open, path_open, may_go}
use Rattle.probe_eval.specs.Rests.{rest_of, all_or}
use Rattle.probe_eval.specs.Tables.{table_in}
use Rattle.probe_eval.proofs.HitSteps.{doc_hits, note_hits}
use Rattle.probe_eval.proofs.Members.{in_filter}
use Rattle.probe_eval.proofs.OpenLaws.{held_same}

or_true : (b : Bool) → (b || true) ≡ true
or_true true = refl
or_true false = refl

docs_is : (t : Table) → is_docs t ≡ true → t ≡ Docs
docs_is Docs h = refl
docs_is Notes h = absurd (false≢true h)

-- the table of a path of one step over documents
table_one : (step : Step) (k : ℕ) → step.table ≡ Docs → table_in (step ∷ []) k ≡ Docs
table_one step k t = elim (cases_Bool (nat_eq step.var.0 k)) [
  | inl e ↦ rw e t
  | inr e ↦ rw e refl
]

module _ (T : Tables) (v : Var) where
  -- driven by their arrival, documents are those of the shortest posting list
  chosen_by : (path : List Step) (seek : Seek) → is_by_arrival seek ≡ true → chosen T v path seek Docs ≡ rarest T v path
  chosen_by path (Arrived u n) h = refl
  chosen_by path (ArrivedDay u n) h = refl
  chosen_by path _ h = absurd (false≢true h)

  rarer_one : (a : Atom) → is_some (literal_kind v a) ≡ true → rarer T v None a ≡ Some a
  rarer_one a h = rw h refl

  rarest_one : (step : Step) (a : Atom) → step.guards ≡ a ∷ [] → is_some (literal_kind v a) ≡ true → rarest T v (step ∷ []) ≡ Some a
  rarest_one step a g h = ap (λ guards. fold (rarer T v) None guards) g ∙ rarer_one a h

module _ (env : Env) (a : Atom) (t : true_atom a env ≡ true) where
  open_atom : may_hold env a ≡ true
  open_atom = ap (λ b. not (atom_held env a) || b) t ∙ or_true (not (atom_held env a))

  -- a guard that is true is open
  open_one : (step : Step) → step.guards ≡ a ∷ [] → path_open (step ∷ []) env ≡ true
  open_one step g = ap (λ guards. are_open env guards && true) g ∙ ap (λ b. (b && true) && true) open_atom

  -- a body that the guard implies is true
  implied_true : (T : Tables) (body : Condition) → is_implied a body ≡ true → truth T (pos 0) body env ≡ true
  implied_true T Always h = refl
  implied_true T (Plain b) h = subst (λ c. true_atom c env ≡ true) (atom_is a b h) t
  implied_true T _ h = absurd (false≢true h)

-- nothing is looked for if the one step has a row
none_left : (step : Step) (env : Env) → is_held env step.var.0 ≡ true → nearest (step ∷ []) env ≡ None
none_left step env h = rw h refl

rest_is : (T : Tables) (path : List Step) (b : ℤ) (order : List Reach) (env : Env) → nearest path env ≡ None
    → rest_of T path b order env ≡ may_go path b env
rest_is T path b [] env n = ap (λ o. may_go path b env && all_or o (λ r. false)) n ∙ and_end (may_go path b env)
rest_is T path b (x ∷ xs) env n = rw n (and_end (may_go path b env))

-- the parts of such a probe
abbrev Parts : Probe → Var → Type 0
Parts p v = (step : Step) × (a : Atom) × (p.path ≡ step ∷ []) × (step.guards ≡ a ∷ []) × (asks_literal v step a ≡ true)
    × (is_implied a p.body ≡ true)

guard_parts : (v : Var) (body : Condition) (step : Step) (guards : List Atom) → guard_goes_by_list v body step guards ≡ true
    → (a : Atom) × (guards ≡ a ∷ []) × (asks_literal v step a ≡ true) × (is_implied a body ≡ true)
guard_parts v body step [] h = absurd (false≢true h)
guard_parts v body step (a ∷ []) h = let k = and_parts _ _ h in (a, refl, k.0, k.1)
guard_parts v body step (a ∷ b ∷ guards) h = absurd (false≢true h)

path_parts : (v : Var) (body : Condition) (path : List Step) → path_goes_by_list v body path ≡ true
    → (step : Step) × (a : Atom) × (path ≡ step ∷ []) × (step.guards ≡ a ∷ []) × (asks_literal v step a ≡ true) × (is_implied a body ≡ true)
path_parts v body [] h = absurd (false≢true h)
path_parts v body (step ∷ []) h = let k = guard_parts v body step step.guards h in (step, k.0, refl, k.1, k.2, k.3)
path_parts v body (step ∷ other ∷ path) h = absurd (false≢true h)

module _ (T : Tables) (w : Window) (p : Probe) (seek : Seek) (v : Var) (step : Step) (a : Atom) (path : p.path ≡ step ∷ [])
    (guards : step.guards ≡ a ∷ [])
    (table : step.table ≡ Docs) (is : step.var.0 ≡ v.0) (by : is_by_arrival seek ≡ true) (literal : is_some (literal_kind v a) ≡ true)
    (body : is_implied a p.body ≡ true) where
  chosen_one : chosen T v p.path seek (table_in p.path v.0) ≡ Some a
  chosen_one =
      ap (λ x. chosen T v x seek (table_in x v.0)) path ∙ ap (chosen T v (step ∷ []) seek) (table_one step v.0 table)
      ∙ chosen_by T v (step ∷ []) seek by
      ∙ rarest_one T v step a guards literal

  walked_true : (row : Row) → In row (walked T w p seek v) → true_atom a (bind v row []) ≡ true
  walked_true row i = (in_filter (λ row. true_atom a (bind v row [])) (driving T w p seek v) row
      (subst (λ o. In row (rows_where v o (driving T w p seek v))) chosen_one i)).1

  may_go_is : (row : Row) → true_atom a (bind v row []) ≡ true → (b : ℤ) → may_go p.path b (bind v row []) ≡ int_le (arrival row) b
  may_go_is row t b =
      let o : path_open p.path (bind v row []) ≡ true = ap (λ x. path_open x (bind v row [])) path
      ∙ open_one (bind v row []) a t step guards in
      ap (λ c. come_by b (bind v row []) && c) o ∙ and_end (come_by b (bind v row [])) ∙ and_end (int_le (arrival row) b)

  holds_is : (row : Row) → In row (walked T w p seek v) → (b : ℤ) (order : List Reach)
      → holds_here T p b order (bind v row []) ≡ int_le (arrival row) b
  holds_is row i b order =
      let t = walked_true row i in
      let h : is_held (bind v row []) step.var.0 ≡ true = ap (is_held (bind v row [])) is ∙ held_same [] v row in
      let n : nearest p.path (bind v row []) ≡ None = ap (λ x. nearest x (bind v row [])) path ∙ none_left step (bind v row []) h in
      ap (λ c. c && truth T (pos 0) p.body (bind v row [])) (rest_is T p.path b order (bind v row []) n ∙ may_go_is row t b)
      ∙ ap (λ c. int_le (arrival row) b && c) (implied_true (bind v row []) a t T p.body body)
      ∙ and_end (int_le (arrival row) b)

-- such a probe finds each row that is walked, at each mark that isn't before it
list_holds : (T : Tables) (w : Window) (p : Probe) (seek : Seek) (v : Var) → goes_by_list p seek v ≡ true
    → (v.0 ≡ 0) × ((row : Row) → In row (walked T w p seek v) → (b : ℤ) (order : List Reach)
    → holds_here T p b order (bind v row []) ≡ int_le (arrival row) b)
list_holds T w p seek v h =
    let k = and_parts _ _ h in
    let q = path_parts v p.body p.path k.1 in
    let l = and_parts _ _ q.4 in
    let m = and_parts _ _ l.0 in
    let n = and_parts _ _ m.0 in
    let z = eqb-true v.0 0 m.1 in
    (z, holds_is T w p seek v q.0 q.1 q.2 q.3 (docs_is q.0.table n.0) (eqb-true q.0.var.0 0 n.1 ∙ sym z) k.0 l.1 q.5)

flat_same : {A B : Type 0} (f g : A → List B) (xs : List A) → ((x : A) → In x xs → f x ≡ g x) → flat_map f xs ≡ flat_map g xs
flat_same f g [] h = refl
flat_same f g (x ∷ xs) h = ap (λ z. z ++ flat_map f xs) (h x (inl refl)) ∙ ap (λ z. g x ++ z) (flat_same f g xs (λ y i. h y (inr i)))

module _ (entries : List Entry) (T : Tables) (w : Window) (p : Probe) (order : List Reach) (v : Var) where
  -- the hits over the document's row
  over_row : (b : ℤ) (row : Row) → lookup 0 (bind v row []) ≡ Some row → holds_here T p b order (bind v row []) ≡ int_le (arrival row) b
      → hits_over entries T p b order (bind v row []) ≡ listed_hit entries b row
  over_row b (OfDoc d) l h = doc_hits entries T p b order (bind v (OfDoc d) []) d l
      ∙ ap (λ c. option_to_list (hit_if c b (new_doc entries d))) h
  over_row b (OfNote n) l h = note_hits entries T p b order (bind v (OfNote n) []) (OfNote n) l (λ d e. no_doc d e)
    where
      no_doc : (d : _) → OfNote n ≡ OfDoc d → ⊥
      no_doc d e = cc

  at_row : (row : Row) → lookup 0 (bind v row []) ≡ Some row → ((b : ℤ) → holds_here T p b order (bind v row []) ≡ int_le (arrival row) b)
      → (o : Option ℤ) → marked_hits entries T w p order (bind v row []) o ≡ marked_hit entries row o
  at_row row l h None = refl
  at_row row l h (Some b) = over_row b row l (h b)

  -- the hits of the rows that are walked need no test but that of their marks
  pub listed_rows : (seek : Seek) → goes_by_list p seek v ≡ true
      → flat_map (λ row. hits_at entries T w p order (bind v row [])) (walked T w p seek v)
      ≡ flat_map (listed_hits entries w p v) (walked T w p seek v)
  listed_rows seek h =
      let k = list_holds T w p seek v h in
      flat_same (λ row. hits_at entries T w p order (bind v row [])) (listed_hits entries w p v) (walked T w p seek v)
      (λ row i. at_row row (subst (λ n. lookup n (bind v row []) ≡ Some row) k.0 (bind_same v row [])) (λ b. k.1 row i b order)
      (mark_in w (value p.at (bind v row []))))
