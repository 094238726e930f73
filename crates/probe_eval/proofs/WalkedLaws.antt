-- The driving rows that are walked lead to the same hits as all driving rows.
use Rattle.std.proofs.Common.{◌≡◌, ◌∙◌, ℕ, ◌≤◌, ℤ, Bool, true, false, List, [], ◌∷◌, ◌++◌, Option, Some, None, refl, sym, ap, inl, inr}
use Rattle.std.proofs.Common.{arith, map}
use Rattle.std.specs.Prelude.{◌&&◌, filter, is_some, option_to_list}
use Rattle.std.specs.List.{flat_map, list_all}
use Rattle.std.proofs.lemmas.Bool.{cases_Bool, false≢true}
use Rattle.std.proofs.lemmas.Option.{none-some}
use Rattle.tap_base.specs.declared.numbers.DocNum.{DocNum}
use Rattle.tap_base.specs.declared.numbers.Op.TheVariants.{Eq}
use Rattle.tap_rows.specs.declared.tables.Tables.{Tables}
use Rattle.tap_rows.specs.declared.results.Entry.{Entry}
use Rattle.tap_rows.specs.Kept.{In}
use Rattle.tql_core.specs.declared.term.Var.{Var}
use Rattle.tql_core.specs.declared.atom.TextExpr.TheVariants.{Literal, Field}
use Rattle.tql_core.specs.declared.atom.Atom.{Atom}
use Rattle.tql_core.specs.declared.atom.Atom.TheVariants.{Texts, Has}
use Rattle.tql_core.specs.Row.{Row, OfDoc, OfNote}
use Rattle.tql_core.specs.Values.{Env, bind, lookup, value, true_atom}
use Rattle.row_index.specs.declared.text_kind.TextKind.{TextKind}
use Rattle.row_index.specs.Orders.{in_window, doc_arrival}
use Rattle.time_marks.specs.declared.mark.Step.{Step}
use Rattle.time_marks.specs.declared.seek.Seek.{Seek}
use Rattle.time_marks.specs.declared.window.Window.{Window}
use Rattle.time_marks.specs.Seeks.{seek_window}
use Rattle.time_marks.specs.Probes.{Probe, come_by}
use Rattle.time_marks.proofs.Lists.{all_in}
use Rattle.access_plan.specs.declared.reach.Reach.{Reach}
use Rattle.probe_eval.specs.Drivers.{driving, walked, mark_in, marked_hits, hits_at}
use Rattle.probe_eval.specs.Kinds.{field_kind, of_docs, list_kind}
use Rattle.probe_eval.specs.Literals.{literal_kind, chosen, rows_where}
use Rattle.probe_eval.specs.Nested.{hit_if, new_doc, over_rows, holds_here, asked_or, hits_over}
use Rattle.probe_eval.specs.Open.{atom_held, may_hold, are_open, path_open, may_go}
use Rattle.probe_eval.specs.Rests.{further}
use Rattle.probe_eval.specs.Tables.{table_in}
use Rattle.probe_eval.specs.Work.{total}
use Rattle.probe_eval.proofs.Costs.{total_filter}
use Rattle.probe_eval.proofs.LiteralLaws.{kind_parts, chosen_is, chosen_rows}
use Rattle.probe_eval.proofs.Members.{in_filter}
use Rattle.probe_eval.proofs.RestSteps.{stopped}

-- a guard by a literal can be evaluated once its variable has a row
held_of : (v : Var) (a : Atom) (kind : TextKind) (row : Row) → literal_kind v a ≡ Some kind → atom_held (bind v row []) a ≡ true
held_of v (Texts (Field u f) Eq (Literal t)) kind row h = let k = kind_parts v u (of_docs (field_kind f)) kind h in rw k.0 refl
held_of v (Texts (Literal t) Eq (Field u f)) kind row h = let k = kind_parts v u (of_docs (field_kind f)) kind h in rw k.0 refl
held_of v (Has u f (Literal t)) kind row h = let k = kind_parts v u (Some (list_kind f)) kind h in rw k.0 refl
held_of v _ kind row h = absurd (none-some kind h)

some_kind : {A : Type 0} (o : Option A) → is_some o ≡ true → (x : A) × (o ≡ Some x)
some_kind None h = absurd (false≢true h)
some_kind (Some x) h = (x, refl)

not_all : {A : Type 0} (f : A → Bool) (xs : List A) (x : A) → In x xs → f x ≡ false → list_all f xs ≡ false
not_all f xs x i h = elim (cases_Bool (list_all f xs)) [
  | inl e ↦ absurd (false≢true (sym h ∙ all_in f xs x e i))
  | inr e ↦ e
]

-- a row of which a guard by a literal is false may not go on
refused : (path : List Step) (b : ℤ) (v : Var) (row : Row) (a : Atom) (step : Step) → In step path → In a step.guards
    → is_some (literal_kind v a) ≡ true
    → true_atom a (bind v row []) ≡ false → may_go path b (bind v row []) ≡ false
refused path b v row a step i j h e =
    let kind = some_kind (literal_kind v a) h in
    let held = held_of v a kind.0 row kind.1 in
    let shut : may_hold (bind v row []) a ≡ false = rw (held, e) refl in
    let guards : are_open (bind v row []) step.guards ≡ false = not_all (may_hold (bind v row [])) step.guards a j shut in
    let all : path_open path (bind v row []) ≡ false = not_all (λ (s : Step). are_open (bind v row []) s.guards) path step i guards in
    and_none (come_by b (bind v row [])) (path_open path (bind v row [])) all
  where
    and_none : (x y : Bool) → y ≡ false → (x && y) ≡ false
    and_none true y h = h
    and_none false y h = refl

module _ (entries : List Entry) (T : Tables) (p : Probe) (b : ℤ) (env : Env) (h : may_go p.path b env ≡ false) where
  no_hit : (o : Option DocNum) → option_to_list (hit_if false b o) ≡ []
  no_hit None = refl
  no_hit (Some d) = refl

  not_here : (order : List Reach) → holds_here T p b order env ≡ false
  not_here order = rw (sym (stopped T p.path b order env h)) refl

  not_asked : (order : List Reach) (o : Option Row) → asked_or entries T p b order env o [] ≡ []
  not_asked order None = refl
  not_asked order (Some (OfDoc d)) = ap (λ c. option_to_list (hit_if c b (new_doc entries d))) (not_here order) ∙ no_hit (new_doc entries d)
  not_asked order (Some (OfNote n)) = refl

  no_further : further p.path b env ≡ None
  no_further = rw h refl

  -- rows that may not go on have no hits
  pub none_over : (order : List Reach) → hits_over entries T p b order env ≡ []
  none_over [] = not_asked [] (lookup 0 env)
  none_over (x ∷ rs) =
      ap (λ o. asked_or entries T p b (x ∷ rs) env (lookup 0 env)
      (over_rows T p.path b env o (λ r row. hits_over entries T p b rs (bind r.var row env)))) no_further
      ∙ not_asked (x ∷ rs) (lookup 0 env)

flat_filter : {A B : Type 0} (f : A → List B) (q : A → Bool) (xs : List A) → ((x : A) → q x ≡ false → f x ≡ [])
    → flat_map f (filter q xs) ≡ flat_map f xs
flat_filter f q [] h = refl
flat_filter f q (x ∷ xs) h = elim (cases_Bool (q x)) [
  | inl e ↦ rw e (ap (λ z. f x ++ z) (flat_filter f q xs h))
  | inr e ↦ rw (e, h x e) (flat_filter f q xs h)
]

module _ (T : Tables) (w : Window) (p : Probe) (seek : Seek) (v : Var) where
  none_beside : (entries : List Entry) (order : List Reach) (a : Atom) → chosen T v p.path seek (table_in p.path v.0) ≡ Some a
      → (row : Row) → true_atom a (bind v row []) ≡ false → hits_at entries T w p order (bind v row []) ≡ []
  none_beside entries order a e row f =
      let k = chosen_is T v a p.path seek (table_in p.path v.0) e in
      go (λ b. refused p.path b v row a k.0 k.1 k.2 k.3 f) (mark_in w (value p.at (bind v row [])))
    where
      go : ((b : ℤ) → may_go p.path b (bind v row []) ≡ false) → (o : Option ℤ) → marked_hits entries T w p order (bind v row []) o ≡ []
      go h None = refl
      go h (Some b) = none_over entries T p b (bind v row []) (h b) order

  -- the rows that are left out have no hits
  pub walked_hits : (entries : List Entry) (order : List Reach)
      → flat_map (λ row. hits_at entries T w p order (bind v row [])) (walked T w p seek v)
      ≡ flat_map (λ row. hits_at entries T w p order (bind v row [])) (driving T w p seek v)
  walked_hits entries order = go (chosen T v p.path seek (table_in p.path v.0)) refl
    where
      go : (o : Option Atom) → chosen T v p.path seek (table_in p.path v.0) ≡ o
          → flat_map (λ row. hits_at entries T w p order (bind v row [])) (rows_where v o (driving T w p seek v))
          ≡ flat_map (λ row. hits_at entries T w p order (bind v row [])) (driving T w p seek v)
      go None e = refl
      go (Some a) e = flat_filter (λ row. hits_at entries T w p order (bind v row [])) (λ row. true_atom a (bind v row []))
          (driving T w p seek v) (none_beside entries order a e)

  pub walked_in : (row : Row) → In row (walked T w p seek v) → In row (driving T w p seek v)
  walked_in row i = go (chosen T v p.path seek (table_in p.path v.0)) i
    where
      go : (o : Option Atom) → In row (rows_where v o (driving T w p seek v)) → In row (driving T w p seek v)
      go None i = i
      go (Some a) i = (in_filter (λ row. true_atom a (bind v row [])) (driving T w p seek v) row i).0

  pub walked_total : (f : Row → ℕ) → total f (walked T w p seek v) ≤ total f (driving T w p seek v)
  walked_total f = go (chosen T v p.path seek (table_in p.path v.0))
    where
      go : (o : Option Atom) → total f (rows_where v o (driving T w p seek v)) ≤ total f (driving T w p seek v)
      go None = omega arith
      go (Some a) = total_filter f (λ row. true_atom a (bind v row [])) (driving T w p seek v)

  -- with a chosen guard they are the documents of the window of which it is true
  pub walked_is : (a : Atom) → chosen T v p.path seek (table_in p.path v.0) ≡ Some a
      → filter (λ row. true_atom a (bind v row []))
      (map OfDoc (in_window doc_arrival (seek_window w seek).low (seek_window w seek).high T.docs)) ≡ walked T w p seek v
  walked_is a e =
      ap (filter (λ row. true_atom a (bind v row []))) (sym (chosen_rows T v a p.path seek (table_in p.path v.0) (seek_window w seek) e))
      ∙ ap (λ o. rows_where v o (driving T w p seek v)) (sym e)
