-- The documents and marks that are found beside driving rows are those that the probe finds.
use Rattle.std.proofs.Common.{◌≡◌, ◌∙◌, ℕ, suc, ◌≤◌, ◌<◌, ℤ, pos, Bool, true, false, Option, Some, None, List, [], ◌∷◌, length, refl, sym}
use Rattle.std.proofs.Common.{ap, subst, inl, inr, arith, nat_eq, map, if◌then◌else◌}
use Rattle.std.specs.Prelude.{◌⊎◌, int_le, option_to_list}
use Rattle.std.proofs.lemmas.Bool.{cases_Bool, and_parts, and_from, false≢true, eqb-true, eq-eqb}
use Rattle.tap_rows.specs.declared.rows.Doc.{Doc}
use Rattle.tap_rows.specs.declared.tables.Tables.{Tables}
use Rattle.tap_rows.specs.declared.results.Hit.{Hit}
use Rattle.tap_rows.specs.declared.results.Entry.{Entry}
use Rattle.tql_tree.specs.declared.table.Table.TheVariants.{Docs}
use Rattle.tql_core.specs.declared.term.Base.{Base}
use Rattle.tql_core.specs.declared.term.Base.TheVariants as B
use Rattle.tql_core.specs.Row.{Row, OfDoc, OfNote, arrival, rows_of}
use Rattle.tql_core.specs.Scope.{BaseIn}
use Rattle.tap_rows.specs.Kept.{In}
use Rattle.tap_rows.proofs.Tests.{some_same}
use Rattle.tql_core.specs.Values.{Env, bind, lookup, value}
use Rattle.tql_core.specs.Holds.{truth}
use Rattle.time_marks.specs.declared.mark.Step.{Step}
use Rattle.time_marks.specs.declared.window.Window.{Window}
use Rattle.time_marks.specs.Windows.{is_within}
use Rattle.time_marks.specs.Probes.{Probe, choices, finds, come_by}
use Rattle.time_marks.specs.Found.{vars_of, base_vars, IsProbe, Finds}
use Rattle.time_marks.specs.Laws.{Same}
use Rattle.time_marks.proofs.Lists.{map_in, in_map}
use Rattle.time_marks.proofs.Envs.{value_same}
use Rattle.time_marks.proofs.Orders.{truth_same}
use Rattle.access_plan.specs.declared.reach.Reach.{Reach}
use Rattle.access_plan.specs.Accesses.{is_held}
use Rattle.access_plan.specs.Laws.{AreSame}
use Rattle.access_plan.specs.Nearest.{nearest}
use Rattle.access_plan.proofs.Nearests.{nearest_serves, nearest_is_none}
use Rattle.probe_eval.specs.Tables.{table_in}
use Rattle.probe_eval.specs.Open.{may_go}
use Rattle.probe_eval.specs.StepRows.{next_rows}
use Rattle.probe_eval.specs.Rests.{Rest, left_of, InTables, further, rest_of}
use Rattle.probe_eval.specs.Nested.{was_seen, new_doc, hit_if, over_rows, holds_here, asked_or, hits_over}
use Rattle.probe_eval.proofs.Members.{from_flat, to_flat, only_one, one_only}
use Rattle.probe_eval.proofs.Tables.{table_is}
use Rattle.probe_eval.proofs.OpenLaws.{held_more, row_held, not_held, same_bound}
use Rattle.probe_eval.proofs.RestLaws.{walked_row, in_tables, kept_on, next_row, fewer_left, some_left, may_go_on, rest_sound}
use Rattle.probe_eval.proofs.RestLaws.{rest_complete}
use Rattle.probe_eval.proofs.HitSteps.{doc_hits, next_hits}

-- an unseen document that the probe finds with the mark, in the window
pub record IsFoundBy (entries : List Entry) (p : Probe) (T : Tables) (w : Window) (h : Hit) : Type 0 where
  pub doc : Doc
  pub is_row : In doc T.docs
  pub unseen : was_seen entries doc ≡ false
  pub num : h.doc ≡ doc.num
  pub at : finds T doc h.first p ≡ true
  pub within : is_within w h.first ≡ true

-- the base names the driver alone
pub base_own : (base : Base) → BaseIn (base_vars base) base
base_own (B.Arrival v) = inl refl
base_own (B.Date v) = inl refl
base_own B.Fixed = tt
base_own (B.ArrivalDay v n) = inl refl
base_own (B.DateDay v n) = inl refl

pub doc_in : (d : Doc) (ds : List Doc) → In (OfDoc d) (map OfDoc ds) → In d ds
doc_in d ds i = let k = map_in OfDoc ds (OfDoc d) i in subst (λ z. In z ds) (sym (same k.2)) k.1
  where
    same : {x y : Doc} → OfDoc x ≡ OfDoc y → x ≡ y
    same e = cc

-- the table of the query's document
pub asked_table : (p : Probe) → IsProbe p → table_in p.path 0 ≡ Docs
asked_table p k = ap (λ z. table_in z 0) k.asked.2

pub asked_in : (p : Probe) → IsProbe p → In 0 (vars_of p.path)
asked_in p k = subst (λ z. In 0 (vars_of z)) (sym k.asked.2) (inl refl)

-- a next step that may be looked for
pub further_is : (path : List Step) (b : ℤ) (env : Env) (r : Reach) → further path b env ≡ Some r
    → (may_go path b env ≡ true) × (nearest path env ≡ Some r)
further_is path b env r h = elim (cases_Bool (may_go path b env)) [ inl y ↦ (y, rw y at h) | inr n ↦ absurd (none (rw n at h)) ]
  where
    none : None ≡ Some r → ⊥
    none e = cc

pub is_further : (path : List Step) (b : ℤ) (env : Env) (r : Reach) → may_go path b env ≡ true → nearest path env ≡ Some r
    → further path b env ≡ Some r
is_further path b env r m n = rw m n

-- the driver has a row
abbrev pub HasDriver : Probe → Env → Type 0
HasDriver p env = (j : ℕ) → In j (base_vars p.at.base) → is_held env j ≡ true

-- what a hit of a document says
hit_parts : (passed : Bool) (b : ℤ) (entries : List Entry) (d : Doc) (h : Hit) → hit_if passed b (new_doc entries d) ≡ Some h
    → (passed ≡ true) × (was_seen entries d ≡ false) × (h.doc ≡ d.num) × (h.first ≡ b)
hit_parts passed b entries d h e = elim (cases_Bool (was_seen entries d)) [
  | inl y ↦ absurd (none (rw y at e))
  | inr n ↦ go passed n (rw n at e)
]
  where
    none : None ≡ Some h → ⊥
    none e = cc

    go : (c : Bool) → was_seen entries d ≡ false → (if c then Some (record { doc = d.num; first = b }) else None) ≡ Some h
        → (c ≡ true) × (was_seen entries d ≡ false) × (h.doc ≡ d.num) × (h.first ≡ b)
    go true n e = (refl, n, ap (λ (z : Hit). z.doc) (sym (some_same e)), ap (λ (z : Hit). z.first) (sym (some_same e)))
    go false n e = absurd (none e)

hit_back : (passed : Bool) (b : ℤ) (entries : List Entry) (d : Doc) (h : Hit) → passed ≡ true → was_seen entries d ≡ false → h.doc ≡ d.num
    → h.first ≡ b → hit_if passed b (new_doc entries d) ≡ Some h
hit_back passed b entries d h y u n f = rw (u, y) (ap Some hit_is)
  where
    hit_is : record { doc = d.num; first = b } ≡ h
    hit_is = subst (λ z. record { doc = z; first = b } ≡ h) n (subst (λ z. record { doc = h.doc; first = z } ≡ h) f refl)

-- an unseen document that is found with the mark
pub record IsHit (entries : List Entry) (T : Tables) (p : Probe) (b : ℤ) (h : Hit) : Type 0 where
  pub doc : Doc
  pub is_row : In doc T.docs
  pub unseen : was_seen entries doc ≡ false
  pub num : h.doc ≡ doc.num
  pub first : h.first ≡ b
  pub finds : Finds T doc b p

module _ (entries : List Entry) (T : Tables) (p : Probe) (b : ℤ) (k : IsProbe p) where
  -- beside rows with which the rest of the path exists and the body is true, the probe finds the document
  pub pair_finds : (env : Env) (d : Doc) → lookup 0 env ≡ Some (OfDoc d) → HasDriver p env → value p.at env ≡ Some b → Rest T p.path b env
      → truth T (pos 0) p.body env ≡ true → Finds T d b p
  pair_finds env d q dr v x body = record {
    env = x.final;
    rows = λ step i. row step i;
    guards = x.guards;
    at = value_same (base_vars p.at.base) env x.final (λ j i. x.same j (dr j i)) p.at (base_own p.at.base) ∙ v;
    body = truth_same T (pos 0) p.body (0 ∷ base_vars p.at.base) env x.final k.body same ∙ body;
  }
    where
      same : Same (0 ∷ base_vars p.at.base) env x.final
      same j (inl e) = x.same j (ap (is_held env) e ∙ row_held env 0 (OfDoc d) q)
      same j (inr i) = x.same j (dr j i)

      row : (step : Step) → In step p.path
          → (r : Row) × In r (choices T d step) × (lookup step.var.0 x.final ≡ Some r) × (int_le (arrival r) b ≡ true)
      row step i = let y = x.rows step i in (y.0, chosen y.0 y.1 y.2 (cases_Bool (nat_eq step.var.0 0)), y.2, y.3)
        where
          chosen : (r : Row) → In r (rows_of step.table T) → lookup step.var.0 x.final ≡ Some r
              → (nat_eq step.var.0 0 ≡ true) ⊎ (nat_eq step.var.0 0 ≡ false) → In r (choices T d step)
          chosen r i l (inl e) =
              let s : r ≡ OfDoc d =
              some_same (sym l ∙ ap (λ z. lookup z x.final) (eqb-true step.var.0 0 e) ∙ x.same 0 (row_held env 0 (OfDoc d) q) ∙ q) in
              rw e (inl s)
          chosen r i l (inr e) = rw e i

  own : (env : Env) (d : Doc) → InTables T p.path env → lookup 0 env ≡ Some (OfDoc d) → In d T.docs
  own env d t q =
      let x = t 0 (asked_in p k) (row_held env 0 (OfDoc d) q) in
      let e : x.0 ≡ OfDoc d = some_same (sym x.2 ∙ q) in
      doc_in d T.docs (subst (λ z. In z (map OfDoc T.docs)) e (subst (λ t. In x.0 (rows_of t T)) (asked_table p k) x.1))

  pair_sound : (order : List Reach) (env : Env) (d : Doc) (h : Hit) → lookup 0 env ≡ Some (OfDoc d) → InTables T p.path env
      → HasDriver p env → value p.at env ≡ Some b → In h (option_to_list (hit_if (holds_here T p b order env) b (new_doc entries d)))
      → IsHit entries T p b h
  pair_sound order env d h q t dr v i =
      let x =
      hit_parts (holds_here T p b order env) b entries d h (only_one (hit_if (holds_here T p b order env) b (new_doc entries d)) h i) in
      let y = and_parts (rest_of T p.path b order env) (truth T (pos 0) p.body env) x.0 in
      record {
        doc = d;
        is_row = own env d t q;
        unseen = x.1;
        num = x.2;
        first = x.3;
        finds = pair_finds env d q dr v (rest_sound T p.path b k.once k.guards order env t y.0) y.1;
      }

  pub hits_sound : (order : List Reach) (env : Env) (h : Hit) → InTables T p.path env → HasDriver p env → value p.at env ≡ Some b
      → In h (hits_over entries T p b order env) → IsHit entries T p b h
  hits_sound [] env h t dr v i = go (lookup 0 env) refl i
    where
      go : (o : Option Row) → lookup 0 env ≡ o → In h (asked_or entries T p b [] env o []) → IsHit entries T p b h
      go None q i = absurd i
      go (Some (OfDoc d)) q i = pair_sound [] env d h q t dr v i
      go (Some (OfNote n)) q i = absurd i
  hits_sound (x ∷ rs) env h t dr v i = go (λ e. hits_sound rs e h) (lookup 0 env) refl i
    where
      More : Type 0
      More = (e : Env) → InTables T p.path e → HasDriver p e → value p.at e ≡ Some b → In h (hits_over entries T p b rs e)
          → IsHit entries T p b h

      next : More → (o : Option Reach) → further p.path b env ≡ o
          → In h (over_rows T p.path b env o (λ r row. hits_over entries T p b rs (bind r.var row env))) → IsHit entries T p b h
      next more None e i = absurd i
      next more (Some r) e i =
          let n = nearest_serves p.path env r (further_is p.path b env r e).1 in
          let y = from_flat (λ row. hits_over entries T p b rs (bind r.var row env)) (next_rows T p.path b env r) h i in
          more (bind r.var y.0 env) (in_tables T p.path b k.once env r y.0 t (walked_row T p.path b k.once env r y.0 n y.1)) (λ j z.
          held_more env r.var y.0 j (dr j z))
          (value_same (base_vars p.at.base) env (bind r.var y.0 env) (λ j z. kept_on T p.path b k.once env r y.0 n j (dr j z))
          p.at (base_own p.at.base) ∙ v) y.2

      go : More → (o : Option Row) → lookup 0 env ≡ o → In h (asked_or entries T p b (x ∷ rs) env o
          (over_rows T p.path b env (further p.path b env) (λ r row. hits_over entries T p b rs (bind r.var row env))))
          → IsHit entries T p b h
      go more None q i = next more (further p.path b env) refl i
      go more (Some (OfDoc d)) q i = pair_sound (x ∷ rs) env d h q t dr v i
      go more (Some (OfNote n)) q i = absurd i

  module _ (d : Doc) (f : Finds T d b p) (is_row : In d T.docs) where
    only : (row x : Row) → In row (x ∷ []) → row ≡ x
    only row x (inl e) = e
    only row x (inr i) = absurd i

    -- the row of the query's document
    pub asked_row : lookup 0 f.env ≡ Some (OfDoc d)
    asked_row =
        let s = map_in (λ (s : Step). s.var.0) p.path 0 (asked_in p k) in
        let x = f.rows s.0 s.1 in
        ap (λ z. lookup z f.env) s.2 ∙ x.2 ∙ ap Some (only x.0 (OfDoc d) (rw (eq-eqb s.0.var.0 0 (sym s.2)) at x.1))

    -- the rows of the steps
    pub found_rows : (step : Step) → In step p.path
        → (r : Row) × In r (rows_of step.table T) × (lookup step.var.0 f.env ≡ Some r) × (int_le (arrival r) b ≡ true)
    found_rows step i = let x = f.rows step i in (x.0, within x.0 x.1 (cases_Bool (nat_eq step.var.0 0)), x.2, x.3)
      where
        within : (r : Row) → In r (choices T d step) → (nat_eq step.var.0 0 ≡ true) ⊎ (nat_eq step.var.0 0 ≡ false)
            → In r (rows_of step.table T)
        within r c (inl e) =
            let q = only r (OfDoc d) (rw e at c) in
            let z = eqb-true step.var.0 0 e in
            let t : step.table ≡ Docs = sym (table_is p.path step k.once i) ∙ ap (table_in p.path) z ∙ asked_table p k in
            subst (λ y. In r (rows_of y T)) (sym t) (subst (λ y. In y (map OfDoc T.docs)) (sym q) (in_map OfDoc T.docs d is_row))
        within r c (inr e) = rw e at c

    -- they are the rest beside any of them
    pub finds_rest : (env : Env) → AreSame (is_held env) env f.env → Rest T p.path b env
    finds_rest env same = record { final = f.env; same = same; rows = λ step i. found_rows step i; guards = f.guards }

    pair_complete : (order : List Reach) (env : Env) (row : Row) (h : Hit) → was_seen entries d ≡ false → h.doc ≡ d.num → h.first ≡ b
        → lookup 0 env ≡ Some row → AreSame (is_held env) env f.env → come_by b env ≡ true → left_of p.path env ≤ length order
        → HasDriver p env
        → In h (hits_over entries T p b order env)
    pair_complete order env row h u n first q same c l dr =
        let is : Some row ≡ Some (OfDoc d) = sym q ∙ sym (same 0 (row_held env 0 row q)) ∙ asked_row in
        let own = q ∙ is in
        let rest = rest_complete T p.path b k.once order env c l (finds_rest env same) in
        let body : truth T (pos 0) p.body env ≡ true =
        sym (truth_same T (pos 0) p.body (0 ∷ base_vars p.at.base) env f.env k.body (agree own)) ∙ f.body in
        subst (In h) (sym (doc_hits entries T p b order env d own)) (one_only (hit_if (holds_here T p b order env) b (new_doc entries d)) h
        (hit_back (holds_here T p b order env) b entries d h (and_from _ _ rest body) u n first))
      where
        agree : lookup 0 env ≡ Some (OfDoc d) → Same (0 ∷ base_vars p.at.base) env f.env
        agree own j (inl e) = same j (ap (is_held env) e ∙ row_held env 0 (OfDoc d) own)
        agree own j (inr i) = same j (dr j i)

    pub hits_complete : (order : List Reach) (env : Env) (h : Hit) → was_seen entries d ≡ false → h.doc ≡ d.num → h.first ≡ b
        → AreSame (is_held env) env f.env → come_by b env ≡ true → left_of p.path env ≤ length order → HasDriver p env
        → In h (hits_over entries T p b order env)
    unfolding finds_rest
    hits_complete [] env h u n first same c l dr = go (lookup 0 env) refl
      where
        go : (o : Option Row) → lookup 0 env ≡ o → In h (hits_over entries T p b [] env)
        go (Some row) q = pair_complete [] env row h u n first q same c l dr
        go None q = none (nearest p.path env) refl
          where
            none : (o : Option Reach) → nearest p.path env ≡ o → In h (hits_over entries T p b [] env)
            none (Some r) e = absurd (some_left T p.path b k.once env r (nearest_serves p.path env r e) l)
            none None e =
                let s = map_in (λ (s : Step). s.var.0) p.path 0 (asked_in p k) in
                absurd (false≢true (sym (not_held env 0 q) ∙ ap (is_held env) s.2 ∙ nearest_is_none p.path env e s.0 s.1))
    hits_complete (x ∷ rs) env h u n first same c l dr = go (λ e. hits_complete rs e h u n first) (lookup 0 env) refl
      where
        less : (a b n : ℕ) → a < b → b ≤ suc n → a ≤ n
        less a b n h k = omega (arith, h, k)

        More : Type 0
        More = (e : Env) → AreSame (is_held e) e f.env → come_by b e ≡ true → left_of p.path e ≤ length rs → HasDriver p e
            → In h (hits_over entries T p b rs e)

        go : More → (o : Option Row) → lookup 0 env ≡ o → In h (hits_over entries T p b (x ∷ rs) env)
        go more (Some row) q = pair_complete (x ∷ rs) env row h u n first q same c l dr
        go more None q = next (nearest p.path env) refl
          where
            next : (o : Option Reach) → nearest p.path env ≡ o → In h (hits_over entries T p b (x ∷ rs) env)
            next None e =
                let s = map_in (λ (s : Step). s.var.0) p.path 0 (asked_in p k) in
                absurd (false≢true (sym (not_held env 0 q) ∙ ap (is_held env) s.2 ∙ nearest_is_none p.path env e s.0 s.1))
            next (Some r) e =
                let near = nearest_serves p.path env r e in
                let rest = finds_rest env same in
                let z = next_row T p.path b k.once env r near rest in
                let on = is_further p.path b env r (may_go_on T p.path b k.once env c rest) e in
                subst (In h) (sym (next_hits entries T p b x rs env r q on))
                (to_flat (λ row. hits_over entries T p b rs (bind r.var row env)) (next_rows T p.path b env r) z.0 h z.1
                (more (bind r.var z.0 env) (same_bound env f.env r.var z.0 same z.2) (and_from _ _ z.3 c)
                (less _ _ _ (fewer_left T p.path b k.once env r z.0 near) l) (λ j i. held_more env r.var z.0 j (dr j i))))
