-- What the question for replies costs.
use Rattle.std.proofs.Common.{◌≡◌, ◌∙◌, ℕ, ◌+◌, ◌*◌, ◌≤◌, ℤ, pos, Bool, true, false, ◌&&◌, ◌||◌, Option, Some, None, List, [], ◌∷◌, ◌++◌}
use Rattle.std.proofs.Common.{length, map, refl, sym, ap, subst, inl, inr, arith, filter, if◌then◌else◌}
use Rattle.std.specs.Prelude.{◌+ℤ◌, neg_ℤ, not, unwrap_or, option_to_list, nat_le}
use Rattle.std.proofs.lemmas.Int.{ints}
use Rattle.std.proofs.lemmas.Bool.{and_parts, false≢true}
use Rattle.tap_base.specs.declared.numbers.Op.TheVariants.{Eq, Le}
use Rattle.tap_rows.specs.declared.tables.Tables.{Tables}
use Rattle.tap_rows.specs.Kept.{In}
use Rattle.tql_tree.specs.declared.table.Table.TheVariants.{Docs}
use Rattle.tql_core.specs.declared.term.Var.{Var}
use Rattle.tql_core.specs.declared.term.Term.{Term}
use Rattle.tql_core.specs.declared.atom.Atom.{Atom}
use Rattle.tql_core.specs.declared.atom.Atom.TheVariants.{Texts, Times}
use Rattle.tql_core.specs.declared.atom.TextExpr.TheVariants.{Field}
use Rattle.tql_core.specs.declared.atom.TextField.TheVariants.{MsgId, InReplyTo}
use Rattle.tql_core.specs.Condition.{Condition, Always, Plain, All, Exists}
use Rattle.tql_core.specs.Row.{Row, OfDoc, rows_of}
use Rattle.tql_core.specs.Scope.{AtomIn}
use Rattle.tql_core.specs.Values.{Env, bind, text, text_field, both_texts, true_atom}
use Rattle.time_marks.specs.declared.mark.Step.{Step}
use Rattle.time_marks.specs.declared.window.Window.{Window}
use Rattle.time_marks.specs.Distinct.{distinct_probes}
use Rattle.time_marks.specs.Found.{vars_of, IsProbe}
use Rattle.time_marks.specs.Marks.{document_var, copy, arrival_term}
use Rattle.time_marks.specs.Probes.{Probe}
use Rattle.row_index.specs.Orders.{in_window, doc_arrival}
use Rattle.row_index.proofs.ListWindows.{mapped_length}
use Rattle.access_plan.specs.declared.access.Access.{Access}
use Rattle.access_plan.specs.declared.access.Access.TheVariants.{ByText, Whole}
use Rattle.access_plan.specs.declared.reach.Reach.{Reach}
use Rattle.access_plan.specs.Accesses.{admits, is_held, is_other}
use Rattle.access_plan.specs.Nearest.{IsNearest}
use Rattle.access_plan.specs.Orders.{order_of}
use Rattle.access_plan.proofs.Nearests.{nearest_serves}
use Rattle.probe_eval.specs.Cuts.{is_cut, is_own_time, passes_cut, passes_cuts}
use Rattle.probe_eval.specs.Open.{base_known}
use Rattle.probe_eval.specs.Linear.{HasShortAccesses}
use Rattle.probe_eval.specs.StepRows.{step_accesses, step_access, passes_step, step_rows, next_rows}
use Rattle.probe_eval.specs.Work.{all_rows_by, access_length, shortest, total, until, inner_access, cut_rows, reached, work}
use Rattle.probe_eval.proofs.AccessLists.{no_text}
use Rattle.probe_eval.proofs.LinearLaws.{probes_by_index_are_linear}
use Rattle.probe_eval.proofs.Members.{in_filter}
use Rattle.probe_eval.proofs.ShortestLaws.{filter_less}
use Rattle.delta_rewrite.specs.Delta.{delta_window}
use Rattle.query_form.specs.Form.{form_of}
use Rattle.form_marks.specs.Replies.{reply_var, has_reply, HasDistinctIds, probe_cost, RepliesTakeTwoSteps}

-- the reply of a path
abbrev path_var : Var
path_var = copy reply_var

abbrev asked_step : Step
asked_step = record { var = document_var; table = Docs; guards = [] }

abbrev reply_guard : Atom
reply_guard = Texts (Field path_var InReplyTo) Eq (Field document_var MsgId)

abbrev reply_step : Step
reply_step = record { var = path_var; table = Docs; guards = reply_guard ∷ [] }

-- a reply, arrived by a time
abbrev inner_part : Term → Condition
inner_part at = All (Plain (Times (arrival_term reply_var) Le at)) (Plain (Texts (Field reply_var InReplyTo) Eq (Field document_var MsgId)))

abbrev reply_body : Term → Condition
reply_body at = Exists reply_var Docs (inner_part at)

-- the probe of new documents, and that of new replies, which need no body
abbrev first_probe : Probe
first_probe = record { path = asked_step ∷ []; at = arrival_term document_var; body = reply_body (arrival_term document_var) }

abbrev second_probe : Probe
second_probe = record { path = asked_step ∷ reply_step ∷ []; at = arrival_term path_var; body = Always }

the_probes : distinct_probes (delta_window (form_of has_reply) (pos 0)) ≡ first_probe ∷ second_probe ∷ []
the_probes = refl

first_is_probe : IsProbe first_probe
first_is_probe = record {
  asked = ([], [], refl);
  room = omega arith;
  once = ((λ i. i), tt);
  apart = λ k i. elim i [ inl e ↦ inl e | inr j ↦ absurd j ];
  guards = λ step i a j. elim i [ inl e ↦ absurd (subst (λ (s : Step). In a s.guards) e j) | inr x ↦ absurd x ];
  at = inl refl;
  body = (omega arith, omega arith, ((inl refl, inr (inl refl)), (inl refl, inr (inl refl))));
}

reply_scoped : (a : Atom) → In a (reply_guard ∷ []) → AtomIn (vars_of second_probe.path) a
reply_scoped a (inl e) = subst (AtomIn (vars_of second_probe.path)) (sym e) (inr (inl refl), inl refl)
reply_scoped a (inr i) = absurd i

second_is_probe : IsProbe second_probe
second_is_probe = record {
  asked = ([], reply_step ∷ [], refl);
  room = omega arith;
  once = ((λ i. elim i [ inl e ↦ absurd (omega (arith, e)) | inr j ↦ absurd j ]), ((λ i. i), tt));
  apart = λ k i. elim i [ inl e ↦ inl e | inr j ↦ elim j [ inl e ↦ inr (omega (arith, e)) | inr n ↦ absurd n ] ];
  guards = λ step i a j. elim i [
    | inl e ↦ absurd (subst (λ (s : Step). In a s.guards) e j)
    | inr x ↦ elim x [ inl e ↦ reply_scoped a (subst (λ (s : Step). In a s.guards) e j) | inr y ↦ absurd y ]
  ];
  at = inr (inl refl);
  body = tt;
}

self_le : (n : ℕ) → nat_le n n ≡ true
self_le n = grind arith

-- each row that is walked is a witness, so that at most one is
one_walked : (f : Row → Bool) (rows : List Row) → ((row : Row) → In row rows → f row ≡ true) → total (λ row. 1 + (0 + 0)) (until f rows) ≤ 1
one_walked f [] h = omega arith
one_walked f (row ∷ rows) h = let e = h row (inl refl) in rw e (omega arith)

module _ (T : Tables) (at : Term) (known : base_known (is_other reply_var) at.base ≡ true) (env : Env) where
  abbrev by_parent : Access
  by_parent = ByText InReplyTo (Field document_var MsgId)

  body_access : inner_access T reply_var Docs (inner_part at) env ≡ by_parent
  body_access =
      ap (λ c. unwrap_or (if c && true then Some by_parent else None) (Whole Docs)) (self_le (length (all_rows_by by_parent env T)))

  abbrev parts : List Atom
  parts = Times (arrival_term reply_var) Le at ∷ Texts (Field reply_var InReplyTo) Eq (Field document_var MsgId) ∷ []

  reached_is : reached T reply_var Docs (inner_part at) env ≡ filter (passes_cuts reply_var env parts) (all_rows_by by_parent env T)
  reached_is = ap (λ a. cut_rows a reply_var env parts (all_rows_by a env T)) body_access

  abbrev answers : Row → Bool
  answers row = true_atom (Times (arrival_term reply_var) Le at) (bind reply_var row env)
      && true_atom (Texts (Field reply_var InReplyTo) Eq (Field document_var MsgId)) (bind reply_var row env)

  is_time_cut : is_cut reply_var (Times (arrival_term reply_var) Le at) ≡ true
  is_time_cut = ap (λ c. c || (is_own_time reply_var at && false)) known

  arrived : (t : Bool) → (not (is_cut reply_var (Times (arrival_term reply_var) Le at)) || t) ≡ true → t ≡ true
  arrived t h = ap (λ b. not b || t) (sym is_time_cut) ∙ h

  both_true : (a b : Bool) → a ≡ true → b ≡ true → (a && b) ≡ true
  both_true a b h k = rw (h, k) refl

  each_answers : (row : Row) → In row (filter (passes_cuts reply_var env parts) (all_rows_by by_parent env T)) → answers row ≡ true
  each_answers row i =
      let k = in_filter (passes_cuts reply_var env parts) (all_rows_by by_parent env T) row i in
      let m = in_filter (admits by_parent env) (rows_of Docs T) row k.0 in
      let c = and_parts (passes_cut reply_var env (Times (arrival_term reply_var) Le at) row) _ k.1 in
      both_true _ _ (arrived _ c.0) m.1

  pub body_less : work T (reply_body at) env ≤ 1
  body_less = subst (λ rows. total (λ row. 1 + (0 + 0)) (until answers rows) ≤ 1) (sym reached_is) (one_walked answers _ each_answers)

-- the message that a reply is to is found by its message id
abbrev asked_access : Access
asked_access = ByText MsgId (Field path_var InReplyTo)

own_asked : (env : Env) → is_held env path_var.0 ≡ true → step_accesses second_probe.path env document_var Docs ≡ asked_access ∷ []
own_asked env h =
    ap (λ c. option_to_list (if c then Some asked_access else None) ++ [] ++ []) h

-- one alone is the shortest
shortest_one : (T : Tables) (env : Env) (a : Access) → shortest T env (a ∷ []) ≡ Some a
shortest_one T env a = ap (λ c. if c && true then Some a else None) (self_le (access_length T env a))

asked_walked : (T : Tables) (env : Env) (r : Reach) → r.var ≡ document_var → r.table ≡ Docs → is_held env path_var.0 ≡ true
    → step_access T second_probe.path env r ≡ asked_access
asked_walked T env r v t h =
    ap (λ w. unwrap_or (shortest T env (step_accesses second_probe.path env w r.table)) r.access) v
    ∙ ap (λ u. unwrap_or (shortest T env (step_accesses second_probe.path env document_var u)) r.access) t
    ∙ ap (λ xs. unwrap_or (shortest T env xs) r.access) (own_asked env h)
    ∙ ap (λ o. unwrap_or o r.access) (shortest_one T env asked_access)

one_asked : (T : Tables) → HasDistinctIds T → (o : Option (List ℕ))
    → length (filter (λ row. both_texts Eq (text_field MsgId row) o) (rows_of Docs T)) ≤ 1
one_asked T d None = subst (λ rows. length rows ≤ 1) (no_text T MsgId None refl) (omega arith)
one_asked T d (Some id) = d id

second_short : (T : Tables) → HasDistinctIds T → HasShortAccesses T second_probe.path path_var 1
second_short T d b env r t h e = go k.step k.is_step k.fresh k.var k.table
  where
    k : IsNearest second_probe.path env r
    k = nearest_serves second_probe.path env r e

    le : (x y : ℕ) → x ≤ y → y ≤ 1 → x ≤ 1
    le x y g h = omega (arith, g, h)

    asked : step_access T second_probe.path env r ≡ asked_access → length (next_rows T second_probe.path b env r) ≤ 1
    asked q =
        subst (λ a. length (step_rows a r.var b env second_probe.path T) ≤ 1) (sym q)
        (le _ _ (filter_less (passes_step r.var b env second_probe.path) (all_rows_by asked_access env T))
        (one_asked T d (text (Field path_var InReplyTo) env)))

    go : (step : Step) → In step second_probe.path → is_held env step.var.0 ≡ false → r.var ≡ step.var → r.table ≡ step.table
        → length (next_rows T second_probe.path b env r) ≤ 1
    go step (inl q) f v u = asked (asked_walked T env r (v ∙ ap (λ (s : Step). s.var) q) (u ∙ ap (λ (s : Step). s.table) q) h)
    go step (inr (inl q)) f v u = absurd (false≢true (sym f ∙ ap (λ (s : Step). is_held env s.var.0) q ∙ h))
    go step (inr (inr i)) f v u = absurd i

-- beside a new document no further row is looked for
first_short : (T : Tables) → HasShortAccesses T first_probe.path document_var 0
first_short T b env r t h e = go k.step k.is_step k.fresh
  where
    k : IsNearest first_probe.path env r
    k = nearest_serves first_probe.path env r e

    go : (step : Step) → In step first_probe.path → is_held env step.var.0 ≡ false → length (next_rows T first_probe.path b env r) ≤ 0
    go step (inl q) f = absurd (false≢true (sym f ∙ ap (λ (s : Step). is_held env s.var.0) q ∙ h))
    go step (inr i) f = absurd i

-- the driving rows are the documents that arrived in the window
arrived_count : (T : Tables) (w : Window)
    → length (map OfDoc (in_window doc_arrival (w.low +ℤ neg_ℤ (pos 0)) (w.high +ℤ neg_ℤ (pos 0)) T.docs))
    ≡ length (in_window doc_arrival w.low w.high T.docs)
arrived_count T w = mapped_length OfDoc (in_window doc_arrival (w.low +ℤ neg_ℤ (pos 0)) (w.high +ℤ neg_ℤ (pos 0)) T.docs)
    ∙ ap (λ l. length (in_window doc_arrival l (w.high +ℤ neg_ℤ (pos 0)) T.docs)) (same w.low)
    ∙ ap (λ h. length (in_window doc_arrival w.low h T.docs)) (same w.high)
  where
    same : (x : ℤ) → x +ℤ neg_ℤ (pos 0) ≡ x
    same x = omega (arith, ints)

counted_two : (cost n m : ℕ) → n ≡ m → cost ≤ n * 2 → cost ≤ m * 2
counted_two cost n m e h = omega (arith, e, h)

pub replies_take_two_steps : RepliesTakeTwoSteps
replies_take_two_steps entries T w p d i = go (subst (λ X. In p X) the_probes i)
  where
    count : ℕ
    count = length (in_window doc_arrival w.low w.high T.docs)

    first : probe_cost entries T w first_probe ≤ count * 2
    first = counted_two _ _ count (arrived_count T w)
        (probes_by_index_are_linear entries T w first_probe document_var [] 0 1 first_is_probe refl refl (first_short T) (λ env t.
        body_less T (arrival_term document_var) refl env))

    second : probe_cost entries T w second_probe ≤ count * 2
    second = counted_two _ _ count (arrived_count T w)
        (probes_by_index_are_linear entries T w second_probe path_var (order_of second_probe.path second_probe.at.base) 1 0 second_is_probe
        refl refl (second_short T d) (λ env t. omega arith))

    go : In p (first_probe ∷ second_probe ∷ []) → probe_cost entries T w p ≤ count * 2
    go (inl e) = subst (λ z. probe_cost entries T w z ≤ count * 2) (sym e) first
    go (inr (inl e)) = subst (λ z. probe_cost entries T w z ≤ count * 2) (sym e) second
    go (inr (inr j)) = absurd j
