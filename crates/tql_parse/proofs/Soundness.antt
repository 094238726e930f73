-- What is read is in the grammar.
use Rattle.std.proofs.Common.{◌≡◌, ◌∙◌, ap, refl, subst, ℕ, zero, suc, List, [], ◌∷◌, length, Bool, true, false, Ok, if◌then◌else◌}
use Rattle.tql_lex.specs.declared.sign.Sign.TheVariants as S
use Rattle.tql_lex.specs.declared.token.Token.{Token}
use Rattle.tql_tree.specs.declared.shift.Unit.{Unit as TimeUnit}
use Rattle.tql_tree.specs.declared.table.Table.{Table}
use Rattle.tql_tree.specs.declared.expr.Expr.{Expr}
use Rattle.tql_tree.specs.Syntax.{Syntax, Or, And}
use Rattle.tql_parse.specs.declared.key.Key.{Key}
use Rattle.tql_parse.specs.declared.key.Key.TheVariants as K
use Rattle.tql_parse.specs.Keys.{key, is_word, is_number, is_text, is_name_key, is_and, is_or, is_where, is_open, is_close, is_dot}
use Rattle.tql_parse.specs.Keys.{is_colon}
use Rattle.tql_tree.specs.Proper.{is_plain}
use Rattle.tql_parse.specs.Grammar.{forward, back, MayShift, none, some, IsExpr, number_is, negative, text_is, now, today, moment, field}
use Rattle.tql_parse.specs.Grammar.{IsTable, docs, notes, IsCompare, compare, has, Cond, Conj, One, Reads, conj_alone, or_conj, unit_alone}
use Rattle.tql_parse.specs.Grammar.{and_unit, not_unit, group, true_is, false_is, exists_is, compare_is}
use Rattle.tql_parse.specs.Reading.{Read, ◌>>=◌, one, unit_by, unit_name, table_by, table_at, shift_after, shift_by, shift_at, negative_at}
use Rattle.tql_parse.specs.Reading.{moment_at, field_at, expr_by, expr_at, has_at, right_by, right_at, compare_at, chain, conj_with}
use Rattle.tql_parse.specs.Reading.{cond_with, group_with, head_at, exists_with, deeper, flat, unit_at}
use Rattle.tql_parse.proofs.Steps.{On, on_bind, on_map, on_one, Next}

-- the next token is this unit
abbrev pub IsUnit : List Token → TimeUnit → List Token → Type 0
IsUnit ts u rest = (t : Token) × (ts ≡ t ∷ rest) × (key t.kind ≡ K.Unit u)

on_unit_by : (k : Key) (t : Token) (rest : List Token) → key t.kind ≡ k → On (IsUnit (t ∷ rest)) (unit_by k t rest)
on_unit_by (K.Unit u) t rest e = (t, refl, e)
on_unit_by _ t rest e = tt

on_unit : (ts : List Token) → On (IsUnit ts) (unit_name ts)
on_unit [] = tt
on_unit (t ∷ rest) = on_unit_by (key t.kind) t rest refl

on_table_by : (k : Key) (t : Token) (rest : List Token) → key t.kind ≡ k
    → On (λ which after. (u : Token) × (t ∷ rest ≡ u ∷ after) × IsTable u which) (table_by k t rest)
on_table_by K.Doc t rest e = (t, refl, docs t e)
on_table_by K.Note t rest e = (t, refl, notes t e)
on_table_by _ t rest e = tt

on_table : (ts : List Token) → On (λ which after. (u : Token) × (ts ≡ u ∷ after) × IsTable u which) (table_at ts)
on_table [] = tt
on_table (t ∷ rest) = on_table_by (key t.kind) t rest refl

on_forward : (sign : Token) (ts : List Token) → key sign.kind ≡ K.Mark S.Plus → On (MayShift (sign ∷ ts)) (shift_after sign.place false ts)
on_forward sign ts e =
    on_bind (Next (λ k. is_number (key k)) ts) (MayShift (sign ∷ ts)) (one (λ k. is_number (key k)) ts) _
    (on_one (λ k. is_number (key k)) ts) (λ count c.
    on_bind (IsUnit count.1) (MayShift (sign ∷ ts)) (unit_name count.1) _ (on_unit count.1) (λ unit u.
    let whole : ts ≡ count.0 ∷ u.0 ∷ unit.1 = c.0 ∙ ap (λ (us : List Token). count.0 ∷ us) u.1 in
    rw whole (some _ _ _ (forward sign count.0 u.0 unit.0 unit.1 e c.1 u.2))))

on_back : (sign : Token) (ts : List Token) → key sign.kind ≡ K.Mark S.Minus → On (MayShift (sign ∷ ts)) (shift_after sign.place true ts)
on_back sign ts e =
    on_bind (Next (λ k. is_number (key k)) ts) (MayShift (sign ∷ ts)) (one (λ k. is_number (key k)) ts) _
    (on_one (λ k. is_number (key k)) ts) (λ count c.
    on_bind (IsUnit count.1) (MayShift (sign ∷ ts)) (unit_name count.1) _ (on_unit count.1) (λ unit u.
    let whole : ts ≡ count.0 ∷ u.0 ∷ unit.1 = c.0 ∙ ap (λ (us : List Token). count.0 ∷ us) u.1 in
    rw whole (some _ _ _ (back sign count.0 u.0 unit.0 unit.1 e c.1 u.2))))

on_shift_by : (k : Key) (t : Token) (rest : List Token) → key t.kind ≡ k → On (MayShift (t ∷ rest)) (shift_by k t rest)
on_shift_by (K.Mark S.Plus) t rest e = on_forward t rest e
on_shift_by (K.Mark S.Minus) t rest e = on_back t rest e
on_shift_by _ t rest e = none (t ∷ rest)

on_shift : (ts : List Token) → On (MayShift ts) (shift_at ts)
on_shift [] = none []
on_shift (t ∷ rest) = on_shift_by (key t.kind) t rest refl

on_negative : (t : Token) (ts : List Token) → key t.kind ≡ K.Mark S.Minus → On (IsExpr (t ∷ ts)) (negative_at t.place ts)
on_negative t ts e =
    on_bind (Next (λ k. is_number (key k)) ts) (IsExpr (t ∷ ts)) (one (λ k. is_number (key k)) ts) _ (on_one (λ k. is_number (key k)) ts)
    (λ n c.
    rw c.0 (negative t n.0 n.1 e c.1))

on_moment : (t : Token) (ts : List Token) → key t.kind ≡ K.Time → On (IsExpr (t ∷ ts)) (moment_at ts)
on_moment t ts e =
    on_bind (Next (λ k. is_text (key k)) ts) (IsExpr (t ∷ ts)) (one (λ k. is_text (key k)) ts) _ (on_one (λ k. is_text (key k)) ts) (λ x c.
    on_bind (MayShift x.1) (IsExpr (t ∷ ts)) (shift_at x.1) _ (on_shift x.1) (λ s m.
    rw c.0 (moment t x.0 x.1 s.0 s.1 e c.1 m)))

on_field : (t : Token) (ts : List Token) → key t.kind ≡ K.Name → On (IsExpr (t ∷ ts)) (field_at t ts)
on_field t ts e =
    on_bind (Next (λ k. is_dot (key k)) ts) (IsExpr (t ∷ ts)) (one (λ k. is_dot (key k)) ts) _ (on_one (λ k. is_dot (key k)) ts) (λ d c.
    on_bind (Next is_word d.1) (IsExpr (t ∷ ts)) (one is_word d.1) _ (on_one is_word d.1) (λ n w.
    on_bind (MayShift n.1) (IsExpr (t ∷ ts)) (shift_at n.1) _ (on_shift n.1) (λ s m.
    let whole : ts ≡ d.0 ∷ n.0 ∷ n.1 = c.0 ∙ ap (λ (us : List Token). d.0 ∷ us) w.0 in
    rw whole (field t d.0 n.0 n.1 s.0 s.1 e c.1 w.1 m))))

on_expr_by : (k : Key) (t : Token) (rest : List Token) → key t.kind ≡ k → On (IsExpr (t ∷ rest)) (expr_by k t rest)
on_expr_by K.Number t rest e = number_is t rest e
on_expr_by (K.Mark S.Minus) t rest e = on_negative t rest e
on_expr_by K.Str t rest e = text_is t rest e
on_expr_by K.Now t rest e = on_bind (MayShift rest) (IsExpr (t ∷ rest)) (shift_at rest) _ (on_shift rest) (λ s m. now t rest s.0 s.1 e m)
on_expr_by K.Today t rest e =
    on_bind (MayShift rest) (IsExpr (t ∷ rest)) (shift_at rest) _ (on_shift rest) (λ s m. today t rest s.0 s.1 e m)
on_expr_by K.Time t rest e = on_moment t rest e
on_expr_by K.Name t rest e = on_field t rest e
on_expr_by _ t rest e = tt

pub on_expr : (ts : List Token) → On (IsExpr ts) (expr_at ts)
on_expr [] = tt
on_expr (t ∷ rest) = on_expr_by (key t.kind) t rest refl

on_has : (b : Bool) (ts : List Token) (left : Expr) (t : Token) (rest : List Token) → is_plain left ≡ b → IsExpr ts left (t ∷ rest)
    → key t.kind ≡ K.Has → On (IsCompare ts) (has_at b left t rest)
on_has true ts left t rest p l e =
    on_bind (IsExpr rest) (IsCompare ts) (expr_at rest) _ (on_expr rest) (λ r m. has ts left t rest r.0 r.1 l p e m)
on_has false ts left t rest p l e = tt

on_right_by : (k : Key) (ts : List Token) (left : Expr) (t : Token) (rest : List Token) → IsExpr ts left (t ∷ rest) → key t.kind ≡ k
    → On (IsCompare ts) (right_by left k t rest)
on_right_by (K.Mark (S.Compare op)) ts left t rest l e =
    on_bind (IsExpr rest) (IsCompare ts) (expr_at rest) _ (on_expr rest) (λ r m. compare ts left t op rest r.0 r.1 l e m)
on_right_by K.Has ts left t rest l e = on_has (is_plain left) ts left t rest refl l e
on_right_by _ ts left t rest l e = tt

on_right : (ts : List Token) (left : Expr) (mid : List Token) → IsExpr ts left mid → On (IsCompare ts) (right_at left mid)
on_right ts left [] l = tt
on_right ts left (t ∷ rest) l = on_right_by (key t.kind) ts left t rest l refl

pub on_compare : (ts : List Token) → On (IsCompare ts) (compare_at ts)
on_compare ts = on_bind (IsExpr ts) (IsCompare ts) (expr_at ts) _ (on_expr ts) (λ l m. on_right ts l.0 l.1 m)

-- the head of an EXISTS
pub record IsHead (ts : List Token) (x : Token × Table) (rest : List Token) : Type 0 where
  pub opening : Token
  pub colon : Token
  pub table : Token
  pub where_is : Token
  pub whole : ts ≡ opening ∷ x.0 ∷ colon ∷ table ∷ where_is ∷ rest
  pub opens : is_open (key opening.kind) ≡ true
  pub names : is_name_key (key x.0.kind) ≡ true
  pub parts : is_colon (key colon.kind) ≡ true
  pub is_table : IsTable table x.1
  pub ends : is_where (key where_is.kind) ≡ true

pub on_head : (ts : List Token) → On (IsHead ts) (head_at ts)
on_head ts =
    on_bind (Next (λ k. is_open (key k)) ts) (IsHead ts) (one (λ k. is_open (key k)) ts) _ (on_one (λ k. is_open (key k)) ts) (λ o a.
    on_bind (Next (λ k. is_name_key (key k)) o.1) (IsHead ts) (one (λ k. is_name_key (key k)) o.1) _ (on_one (λ k. is_name_key (key k)) o.1)
    (λ v b.
    on_bind (Next (λ k. is_colon (key k)) v.1) (IsHead ts) (one (λ k. is_colon (key k)) v.1) _ (on_one (λ k. is_colon (key k)) v.1) (λ p c.
    on_bind (λ which after. (u : Token) × (p.1 ≡ u ∷ after) × IsTable u which) (IsHead ts) (table_at p.1) _ (on_table p.1) (λ w d.
    on_bind (Next (λ k. is_where (key k)) w.1) (IsHead ts) (one (λ k. is_where (key k)) w.1) _ (on_one (λ k. is_where (key k)) w.1) (λ x e.
    record {
      opening = o.0;
      colon = p.0;
      table = d.0;
      where_is = x.0;
      whole = a.0 ∙ ap (λ (us : List Token). o.0 ∷ us) (b.0
          ∙ ap (λ (us : List Token). v.0 ∷ us) (c.0 ∙ ap (λ (us : List Token). p.0 ∷ us) (d.1 ∙ ap (λ (us : List Token). d.0 ∷ us) e.0)));
      opens = a.1;
      names = b.1;
      parts = c.1;
      is_table = d.2;
      ends = e.1;
    })))))

module _ (n : ℕ) (unit : List Token → Read Syntax) (sound : (ts : List Token) → On (Reads One n ts) (unit ts)) where
  on_ands : (k : ℕ) (ts : List Token) (x : Syntax) (mid : List Token) → Reads Conj n ts x mid
      → On (Reads Conj n ts) (chain is_and And unit k x mid)
  on_ands zero ts x mid h = h
  on_ands (suc k) ts x [] h = h
  on_ands (suc k) ts x (t ∷ mid) h =
      elim (is_and (key t.kind)) as (λ b. is_and (key t.kind) ≡ b
      → On (Reads Conj n ts) (if b then (unit mid >>= λ r. chain is_and And unit k (And x r.0) r.1) else Ok (x, t ∷ mid))) [
        | true ↦ λ e. on_bind (Reads One n mid) (Reads Conj n ts) (unit mid) _ (sound mid) (λ r q.
            on_ands k ts (And x r.0) r.1 (and_unit n ts x t mid r.0 r.1 h e q))
        | false ↦ λ e. h
      ] refl

  pub on_conj : (ts : List Token) → On (Reads Conj n ts) (conj_with unit ts)
  on_conj ts =
      on_bind (Reads One n ts) (Reads Conj n ts) (unit ts) _ (sound ts) (λ x q. on_ands (length x.1) ts x.0 x.1 (unit_alone n ts x.0 x.1 q))

  on_ors : (k : ℕ) (ts : List Token) (x : Syntax) (mid : List Token) → Reads Cond n ts x mid
      → On (Reads Cond n ts) (chain is_or Or (conj_with unit) k x mid)
  on_ors zero ts x mid h = h
  on_ors (suc k) ts x [] h = h
  on_ors (suc k) ts x (t ∷ mid) h =
      elim (is_or (key t.kind)) as (λ b. is_or (key t.kind) ≡ b → On (Reads Cond n ts)
      (if b then (conj_with unit mid >>= λ r. chain is_or Or (conj_with unit) k (Or x r.0) r.1) else Ok (x, t ∷ mid))) [
        | true ↦ λ e. on_bind (Reads Conj n mid) (Reads Cond n ts) (conj_with unit mid) _ (on_conj mid) (λ r q.
            on_ors k ts (Or x r.0) r.1 (or_conj n ts x t mid r.0 r.1 h e q))
        | false ↦ λ e. h
      ] refl

  pub on_cond : (ts : List Token) → On (Reads Cond n ts) (cond_with unit ts)
  on_cond ts = on_bind (Reads Conj n ts) (Reads Cond n ts) (conj_with unit ts) _ (on_conj ts) (λ x q.
      on_ors (length x.1) ts x.0 x.1 (conj_alone n ts x.0 x.1 q))

  -- a condition, and the `)` behind it
  Closed : List Token → Syntax → List Token → Type 0
  Closed ts x rest = (close : Token) × Reads Cond n ts x (close ∷ rest) × (is_close (key close.kind) ≡ true)

  on_group : (ts : List Token)
      → On (λ x rest. (close : Token) × Reads Cond n ts x (close ∷ rest) × (is_close (key close.kind) ≡ true)) (group_with unit ts)
  on_group ts =
      on_bind (Reads Cond n ts) _ (cond_with unit ts) _ (on_cond ts) (λ x q.
      on_bind (Next (λ k. is_close (key k)) x.1)
      (λ y rest. (close : Token) × Reads Cond n ts y (close ∷ rest) × (is_close (key close.kind) ≡ true))
      (one (λ k. is_close (key k)) x.1) (λ close. Ok (x.0, close.1)) (on_one (λ k. is_close (key k)) x.1) (λ c e.
      (c.0, subst (λ (us : List Token). Reads Cond n ts x.0 us) e.0 q, e.1)))

  on_exists : (t : Token) (rest : List Token) → key t.kind ≡ K.Exists → On (Reads One (suc n) (t ∷ rest)) (exists_with unit rest)
  on_exists t rest e =
      on_bind (IsHead rest) (Reads One (suc n) (t ∷ rest)) (head_at rest) _ (on_head rest) (λ h q.
      on_bind (λ x after. (close : Token) × Reads Cond n h.1 x (close ∷ after) × (is_close (key close.kind) ≡ true))
      (Reads One (suc n) (t ∷ rest)) (group_with unit h.1) _ (on_group h.1) (λ x c.
      rw q.whole (exists_is n t q.opening h.0.0 q.colon q.table q.where_is h.0.1 h.1 x.0 c.0 x.1 e
      q.opens q.names q.parts q.is_table q.ends c.1 c.2)))

  on_deeper : (k : Key) (t : Token) (rest : List Token) → key t.kind ≡ k → On (Reads One (suc n) (t ∷ rest)) (deeper unit k t rest)
  on_deeper K.Not t rest e =
      on_bind (Reads One n rest) (Reads One (suc n) (t ∷ rest)) (unit rest) _ (sound rest) (λ x q. not_unit n t rest x.0 x.1 e q)
  on_deeper (K.Mark S.Open) t rest e =
      on_map _ (Reads One (suc n) (t ∷ rest)) (group_with unit rest) (on_group rest) (λ x after c. group n t rest x c.0 after e c.1 c.2)
  on_deeper K.Exists t rest e = on_exists t rest e
  on_deeper K.True t rest e = true_is (suc n) t rest e
  on_deeper K.False t rest e = false_is (suc n) t rest e
  on_deeper _ t rest e = on_map (IsCompare (t ∷ rest)) (Reads One (suc n) (t ∷ rest)) (compare_at (t ∷ rest)) (on_compare (t ∷ rest))
      (λ x after c. compare_is (suc n) (t ∷ rest) x after c)

on_flat : (n : ℕ) (k : Key) (t : Token) (rest : List Token) → key t.kind ≡ k → On (Reads One n (t ∷ rest)) (flat k t rest)
on_flat n K.Not t rest e = tt
on_flat n (K.Mark S.Open) t rest e = tt
on_flat n K.Exists t rest e = tt
on_flat n K.True t rest e = true_is n t rest e
on_flat n K.False t rest e = false_is n t rest e
on_flat n _ t rest e = on_map (IsCompare (t ∷ rest)) (Reads One n (t ∷ rest)) (compare_at (t ∷ rest)) (on_compare (t ∷ rest)) (λ x after c.
    compare_is n (t ∷ rest) x after c)

pub on_unit_at : (n : ℕ) (ts : List Token) → On (Reads One n ts) (unit_at n ts)
unfolding unit_at
on_unit_at n [] = tt
on_unit_at zero (t ∷ rest) = on_flat zero (key t.kind) t rest refl
on_unit_at (suc n) (t ∷ rest) = on_deeper n (unit_at n) (on_unit_at n) (key t.kind) t rest refl
