-- Each part of a query can go on.
use Rattle.std.proofs.Common.{◌≡◌, ◌∙◌, sym, ap, refl, subst, arith, ℕ, pos, zero, suc, ◌+◌, List, [], ◌∷◌, ◌++◌, length, codes, Bool, true}
use Rattle.std.proofs.Common.{false, Result, Ok, Err, Option, None, ◌≤◌, if◌then◌else◌}
use Rattle.std.specs.Prelude.{◌||◌}
use Rattle.std.proofs.lemmas.List.{append-nil}
use Rattle.std.proofs.lemmas.Bool.{true≢false}
use Rattle.tap_base.specs.declared.numbers.Op.TheVariants.{Eq}
use Rattle.tql_lex.specs.declared.sign.Sign.TheVariants as S
use Rattle.tql_lex.specs.declared.kind.Kind.{Kind}
use Rattle.tql_lex.specs.declared.kind.Kind.TheVariants as W
use Rattle.tql_lex.specs.declared.token.Token.{Token}
use Rattle.tql_tree.specs.declared.shift.Unit.{Unit as TimeUnit}
use Rattle.tql_tree.specs.declared.shift.Unit.TheVariants.{Days}
use Rattle.tql_tree.specs.declared.table.Table.{Table}
use Rattle.tql_tree.specs.declared.table.Table.TheVariants.{Docs, Notes}
use Rattle.tql_tree.specs.declared.shift.Shift.{Shift}
use Rattle.tql_tree.specs.declared.expr.Expr.{Expr}
use Rattle.tql_tree.specs.declared.expr.Expr.TheVariants as E
use Rattle.tql_tree.specs.Syntax.{Syntax, True, False, Or, And, Compare, Has}
use Rattle.tql_parse.specs.declared.key.Key.{Key}
use Rattle.tql_parse.specs.declared.key.Key.TheVariants as K
use Rattle.tql_parse.specs.declared.key.Opening.{Opening}
use Rattle.tql_parse.specs.declared.key.Opening.TheVariants as O
use Rattle.tql_parse.specs.declared.fault.ParseFault.{ParseFault}
use Rattle.tql_parse.specs.declared.fault.ParseFault.TheVariants.{Unexpected, Ended, Deep, Memory}
use Rattle.tql_parse.specs.Keys.{key, number_of_kind, bytes, is_word, is_number, is_text, is_name_key, is_and, is_or, is_where, is_open}
use Rattle.tql_parse.specs.Keys.{is_close, is_dot, is_colon, is_shift_sign, opening}
use Rattle.tql_tree.specs.Proper.{is_plain}
use Rattle.tql_parse.specs.Reading.{Read, ◌>>=◌, one, unit_name, table_at, shift_after, shift_at, negative_at, now_at, today_at, moment_at}
use Rattle.tql_parse.specs.Reading.{field_at, expr_at, right_at, compare_at, chain, chained, conj_with, cond_with, group_with, head_at}
use Rattle.tql_parse.specs.Reading.{exists_with, not_with, unit_at, cond_at, next_is}
use Rattle.std.proofs.Common.{length-append}
use Rattle.tql_parse.specs.Grammar.{Begins, AreQueryTokens}
use Rattle.tql_parse.specs.Reading.{query_at, end_of}
use Rattle.tql_parse.proofs.Chains.{Shrinks, same}
use Rattle.tql_parse.proofs.Lengths.{unit_shrinks, conj_shrinks}
use Rattle.tql_parse.proofs.Soundness.{on_unit_at, on_cond}
use Rattle.tql_parse.proofs.Complete.{no_shift}
use Rattle.tql_parse.proofs.Queries.{query_ok}
use Rattle.tql_parse.proofs.Units.{at_zero, at_suc, unit_end, unit_true}
use Rattle.tql_parse.proofs.Lookahead.{Spent}
use Rattle.tql_parse.proofs.First.{fails_at}
use Rattle.tql_parse.proofs.Whole.{joins, Calm, Finish, Whole, pair_same, whole_ok, whole_bind, Choice, taken, refused, kept, whole_choice}
use Rattle.tql_parse.proofs.Whole.{whole_one}

-- a token of this kind
abbrev token_of : Kind → Token
token_of kind = record { kind = kind; place = 0; end = 0 }

abbrev digit : Token
digit = token_of (W.Number (pos 0))

unit_choice : (k : Key) (t : Token) → key t.kind ≡ k → Choice TimeUnit unit_name t
unit_choice (K.Unit u) t e = taken (λ rest. Ok (u, rest)) (whole_ok TimeUnit u) (λ rest. rw e refl)
unit_choice _ t e = refused (Unexpected t.place) refl (λ rest. rw e refl)

whole_unit_name : Whole TimeUnit unit_name
whole_unit_name = whole_choice TimeUnit unit_name
    (λ e. record { more = token_of (W.Word (codes "day")) ∷ []; value = Days; calm = refl; read = λ tail c. refl })
    (λ mid w x c e. absurd (cc)) (λ t. unit_choice (key t.kind) t refl)

table_choice : (k : Key) (t : Token) → key t.kind ≡ k → Choice Table table_at t
table_choice K.Doc t e = taken (λ rest. Ok (Docs, rest)) (whole_ok Table Docs) (λ rest. rw e refl)
table_choice K.Note t e = taken (λ rest. Ok (Notes, rest)) (whole_ok Table Notes) (λ rest. rw e refl)
table_choice _ t e = refused (Unexpected t.place) refl (λ rest. rw e refl)

whole_table : Whole Table table_at
whole_table = whole_choice Table table_at
    (λ e. record { more = token_of (W.Word (codes "doc")) ∷ []; value = Docs; calm = refl; read = λ tail c. refl })
    (λ mid w x c e. absurd (cc)) (λ t. table_choice (key t.kind) t refl)

whole_number : Whole Token (one (λ k. is_number (key k)))
whole_number = whole_one (λ k. is_number (key k)) (W.Number (pos 0)) refl refl

whole_shift_after : (place : ℕ) (back : Bool) → Whole (Option Shift) (shift_after place back)
whole_shift_after place back = whole_bind Token (Option Shift) (one (λ k. is_number (key k))) _ whole_number
    (λ count. whole_bind TimeUnit (Option Shift) unit_name _ whole_unit_name (λ u. whole_ok (Option Shift) _) (λ u. refl)) (λ count. refl)

shift_choice : (k : Key) (t : Token) → key t.kind ≡ k → Choice (Option Shift) shift_at t
shift_choice (K.Mark S.Plus) t e = taken (shift_after t.place false) (whole_shift_after t.place false) (λ rest. rw e refl)
shift_choice (K.Mark S.Minus) t e = taken (shift_after t.place true) (whole_shift_after t.place true) (λ rest. rw e refl)
shift_choice _ t e = kept (λ ts. Ok (None, ts)) (whole_ok (Option Shift) None) (λ rest. rw e refl)

calm_shift : (x y z : Bool) → (x || y || z) ≡ false → (x ≡ false) × (y ≡ false) × (z ≡ false)
calm_shift true y z e = absurd (true≢false e)
calm_shift false true z e = absurd (true≢false e)
calm_shift false false z e = (refl, refl, e)

calm_parts : (k : Key) → joins k ≡ false → (is_shift_sign k ≡ false) × (is_and k ≡ false) × (is_or k ≡ false)
calm_parts k e = calm_shift (is_shift_sign k) (is_and k) (is_or k) e

no_shift_here : (w : List Token) → Calm w → shift_at w ≡ Ok (None, w)
no_shift_here [] c = refl
no_shift_here (t ∷ w) c = no_shift (key t.kind) t w (calm_parts (key t.kind) c).0

whole_shift : Whole (Option Shift) shift_at
whole_shift = whole_choice (Option Shift) shift_at (λ e. absurd (cc)) (λ mid w x c e. let p = pair_same (Option Shift) None x [] mid e in
    no_shift_here w c ∙ rw (← p.0, ← p.1) refl) (λ t. shift_choice (key t.kind) t refl)

whole_negative : (place : ℕ) → Whole Expr (negative_at place)
whole_negative place = whole_bind Token Expr (one (λ k. is_number (key k))) _ whole_number (λ n. whole_ok Expr _) (λ n. refl)

whole_now : (place : ℕ) → Whole Expr (now_at place)
whole_now place = whole_bind (Option Shift) Expr shift_at _ whole_shift (λ s. whole_ok Expr _) (λ s. refl)

whole_today : (place : ℕ) → Whole Expr (today_at place)
whole_today place = whole_bind (Option Shift) Expr shift_at _ whole_shift (λ s. whole_ok Expr _) (λ s. refl)

whole_moment : Whole Expr moment_at
whole_moment = whole_bind Token Expr (one (λ k. is_text (key k))) _ (whole_one (λ k. is_text (key k)) (W.Str []) refl refl)
    (λ x. whole_bind (Option Shift) Expr shift_at _ whole_shift (λ s. whole_ok Expr _) (λ s. refl)) (λ x. refl)

whole_field : (var : Token) → Whole Expr (field_at var)
whole_field var = whole_bind Token Expr (one (λ k. is_dot (key k))) _ (whole_one (λ k. is_dot (key k)) (W.Mark S.Dot) refl refl)
    (λ d. whole_bind Token Expr (one is_word) _ (whole_one is_word (W.Word (codes "a")) refl refl)
    (λ n. whole_bind (Option Shift) Expr shift_at _ whole_shift (λ s. whole_ok Expr _) (λ s. refl)) (λ n. refl)) (λ d. refl)

expr_choice : (k : Key) (t : Token) → key t.kind ≡ k → Choice Expr expr_at t
expr_choice K.Number t e = taken (λ rest. Ok (E.Number t.place (number_of_kind t.kind), rest)) (whole_ok Expr _) (λ rest. rw e refl)
expr_choice (K.Mark S.Minus) t e = taken (negative_at t.place) (whole_negative t.place) (λ rest. rw e refl)
expr_choice K.Str t e = taken (λ rest. Ok (E.Str t.place (bytes t.kind), rest)) (whole_ok Expr _) (λ rest. rw e refl)
expr_choice K.Now t e = taken (now_at t.place) (whole_now t.place) (λ rest. rw e refl)
expr_choice K.Today t e = taken (today_at t.place) (whole_today t.place) (λ rest. rw e refl)
expr_choice K.Time t e = taken moment_at whole_moment (λ rest. rw e refl)
expr_choice K.Name t e = taken (field_at t) (whole_field t) (λ rest. rw e refl)
expr_choice _ t e = refused (Unexpected t.place) refl (λ rest. rw e refl)

whole_expr : Whole Expr expr_at
whole_expr = whole_choice Expr expr_at (λ e. record { more = digit ∷ []; value = E.Number 0 (pos 0); calm = refl; read = λ tail c. refl })
    (λ mid w x c e. absurd (cc)) (λ t. expr_choice (key t.kind) t refl)

has_choice : (b : Bool) (left : Expr) (t : Token) → is_plain left ≡ b → key t.kind ≡ K.Has → Choice Syntax (right_at left) t
has_choice true left t p e = taken (λ rest. expr_at rest >>= λ right. Ok (Has left t.place right.0, right.1))
    (whole_bind Expr Syntax expr_at _ whole_expr (λ right. whole_ok Syntax _) (λ right. refl)) (λ rest. rw (e, p) refl)
has_choice false left t p e = refused (Unexpected t.place) refl (λ rest. rw (e, p) refl)

right_choice : (k : Key) (left : Expr) (t : Token) → key t.kind ≡ k → Choice Syntax (right_at left) t
right_choice (K.Mark (S.Compare op)) left t e = taken (λ rest. expr_at rest >>= λ right. Ok (Compare left op t.place right.0, right.1))
    (whole_bind Expr Syntax expr_at _ whole_expr (λ right. whole_ok Syntax _) (λ right. refl)) (λ rest. rw e refl)
right_choice K.Has left t e = has_choice (is_plain left) left t refl e
right_choice _ left t e = refused (Unexpected t.place) refl (λ rest. rw e refl)

whole_right : (left : Expr) → Whole Syntax (right_at left)
whole_right left = whole_choice Syntax (right_at left) (λ e. record {
  more = token_of (W.Mark (S.Compare Eq)) ∷ digit ∷ [];
  value = Compare left Eq 0 (E.Number 0 (pos 0));
  calm = refl;
  read = λ tail c. refl;
}) (λ mid w x c e. absurd (cc)) (λ t.
    right_choice (key t.kind) left t refl)

whole_compare : Whole Syntax compare_at
whole_compare = whole_bind Expr Syntax expr_at _ whole_expr (λ left. whole_right left) (λ left. refl)

module _ (sep : Key → Bool) (join : Syntax → Syntax → Syntax) (part : List Token → Read Syntax) (whole_part : Whole Syntax part)
    (sh : Shrinks part) (spare : (k : Key) → joins k ≡ false → sep k ≡ false) where
  no_more : (k : ℕ) (x : Syntax) (w : List Token) → next_is sep w ≡ false → chain sep join part k x w ≡ Ok (x, w)
  no_more zero x w c = refl
  no_more (suc k) x [] c = refl
  no_more (suc k) x (t ∷ w) c = rw c refl

  calm_sep : (w : List Token) → Calm w → next_is sep w ≡ false
  calm_sep [] c = refl
  calm_sep (t ∷ w) c = spare (key t.kind) c

  whole_chain : (k : ℕ) (x : Syntax) → Whole Syntax (chain sep join part k x)
  whole_chain zero x = whole_ok Syntax x
  whole_chain (suc k) x = whole_choice Syntax (chain sep join part (suc k) x) (λ e. absurd (cc))
      (λ mid w y c e. let p = pair_same Syntax x y [] mid e in no_more (suc k) x w (calm_sep w c) ∙ rw (← p.0, ← p.1) refl) (λ t.
      elim (sep (key t.kind)) as (λ b. sep (key t.kind) ≡ b → Choice Syntax (chain sep join part (suc k) x) t) [
        | true ↦ λ e. taken (λ rest. part rest >>= λ r. chain sep join part k (join x r.0) r.1)
            (whole_bind Syntax Syntax part _ whole_part (λ y. whole_chain k (join x y)) (λ y. chain_spent k (join x y))) (λ rest. rw e refl)
        | false ↦ λ e. kept (λ ts. Ok (x, ts)) (whole_ok Syntax x) (λ rest. rw e refl)
      ] refl)
    where
      chain_spent : (k : ℕ) (y : Syntax) → Spent (chain sep join part k y [])
      chain_spent zero y = refl
      chain_spent (suc k) y = refl

  up_bind : (k j : ℕ) (x : Syntax) (us : List Token) (b : Syntax) (tail : List Token) (r : Read Syntax)
      → ((y : Syntax) (vs : List Token) → chain sep join part k y vs ≡ Ok (b, tail) → chain sep join part j y vs ≡ Ok (b, tail))
      → (r >>= λ r. chain sep join part k (join x r.0) r.1) ≡ Ok (b, tail)
      → (r >>= λ r. chain sep join part j (join x r.0) r.1) ≡ Ok (b, tail)
  up_bind k j x us b tail (Ok r) ih e = ih (join x r.0) r.1 e
  up_bind k j x us b tail (Err d) ih e = e

  -- more parts than were wanted may be allowed
  fuel_up : (k j : ℕ) (x : Syntax) (us : List Token) (b : Syntax) (tail : List Token) → next_is sep tail ≡ false → k ≤ j
      → chain sep join part k x us ≡ Ok (b, tail) → chain sep join part j x us ≡ Ok (b, tail)
  fuel_up zero j x us b tail c le e =
      let p = pair_same Syntax x b us tail e in
      let d : next_is sep us ≡ false = rw p.1 c in
      no_more j x us d ∙ e
  fuel_up (suc k) zero x us b tail c le e = absurd (omega arith)
  fuel_up (suc k) (suc j) x [] b tail c le e = e
  fuel_up (suc k) (suc j) x (t ∷ us) b tail c le e =
      elim (sep (key t.kind)) as (λ s. (if s then (part us >>= λ r. chain sep join part k (join x r.0) r.1) else Ok (x, t ∷ us))
      ≡ Ok (b, tail) → (if s then (part us >>= λ r. chain sep join part j (join x r.0) r.1) else Ok (x, t ∷ us)) ≡ Ok (b, tail)) [
        | true ↦ λ e. up_bind k j x us b tail (part us) (λ y vs q. fuel_up k j y vs b tail c (omega arith) q) e
        | false ↦ λ e. e
      ] e

  whole_chained : (x : Syntax) → Whole Syntax (chained sep join part x)
  whole_chained x = record {
    steady = λ ts mid w a c e.
        let k = length ts + length w in
        let l : length (ts ++ w) ≡ length ts + length w = length-append ts w in
        same sep join part sh (length (ts ++ w)) k x (ts ++ w) (omega arith) (omega arith)
        ∙ (whole_chain k x).steady ts mid w a c (same sep join part sh k (length ts) x ts (omega arith) (omega arith) ∙ e);
    ends = λ ts e.
        let f = (whole_chain (length ts) x).ends ts e in
        record {
          more = f.more;
          value = f.value;
          calm = f.calm;
          read = λ tail c.
              let us = ts ++ (f.more ++ tail) in
              let k = length ts + length us in
              same sep join part sh (length us) k x us (omega arith) (omega arith)
              ∙ fuel_up (length ts) k x us f.value tail (calm_sep tail c) (omega arith) (f.read tail c);
        };
  }

module _ (n : ℕ) (whole_unit : Whole Syntax (unit_at n)) where
  whole_conj : Whole Syntax (conj_with (unit_at n))
  whole_conj = whole_bind Syntax Syntax (unit_at n) _ whole_unit
      (λ x. whole_chained is_and And (unit_at n) whole_unit (unit_shrinks n) (λ k e. (calm_parts k e).1) x) (λ x. refl)

  whole_cond : Whole Syntax (cond_with (unit_at n))
  whole_cond = whole_bind Syntax Syntax (conj_with (unit_at n)) _ whole_conj
      (λ x. whole_chained is_or Or (conj_with (unit_at n)) whole_conj (conj_shrinks n) (λ k e. (calm_parts k e).2) x) (λ x. refl)

  whole_group : Whole Syntax (group_with (unit_at n))
  whole_group = whole_bind Syntax Syntax (cond_with (unit_at n)) _ whole_cond (λ x. whole_bind Token Syntax (one (λ k. is_close (key k))) _
      (whole_one (λ k. is_close (key k)) (W.Mark S.Close) refl refl) (λ c. whole_ok Syntax x) (λ c. refl)) (λ x. refl)

  whole_head : Whole (Token × Table) head_at
  whole_head = whole_bind Token (Token × Table) (one (λ k. is_open (key k))) _ (whole_one (λ k. is_open (key k)) (W.Mark S.Open) refl refl)
      (λ o. whole_bind Token (Token × Table) (one (λ k. is_name_key (key k))) _
      (whole_one (λ k. is_name_key (key k)) (W.Word (codes "a")) refl refl) (λ v.
      whole_bind Token (Token × Table) (one (λ k. is_colon (key k))) _ (whole_one (λ k. is_colon (key k)) (W.Mark S.Colon) refl refl)
      (λ c. whole_bind Table (Token × Table) table_at _ whole_table (λ w. whole_bind Token (Token × Table) (one (λ k. is_where (key k)))
      _ (whole_one (λ k. is_where (key k)) (W.Word (codes "where")) refl refl) (λ z. whole_ok (Token × Table) _) (λ z. refl))
      (λ w. refl)) (λ c. refl)) (λ v. refl)) (λ o. refl)

  whole_exists : Whole Syntax (exists_with (unit_at n))
  whole_exists = whole_bind (Token × Table) Syntax head_at _ whole_head
      (λ h. whole_bind Syntax Syntax (group_with (unit_at n)) _ whole_group (λ x. whole_ok Syntax _) (λ x. refl)) (λ h.
      let e : unit_at n [] ≡ Err Ended = unit_end n [] refl in
      rw e refl)

  whole_not : Whole Syntax (not_with (unit_at n))
  whole_not = whole_bind Syntax Syntax (unit_at n) _ whole_unit (λ x. whole_ok Syntax _) (λ x. refl)

  suc_choice : (o : Opening) (t : Token) → opening (key t.kind) ≡ o → Choice Syntax (unit_at (suc n)) t
  suc_choice O.Negation t e = taken (not_with (unit_at n)) whole_not (λ rest. at_suc n t rest O.Negation e)
  suc_choice O.Group t e = taken (group_with (unit_at n)) whole_group (λ rest. at_suc n t rest O.Group e)
  suc_choice O.Quantifier t e = taken (exists_with (unit_at n)) whole_exists (λ rest. at_suc n t rest O.Quantifier e)
  suc_choice O.Truth t e = taken (λ rest. Ok (True, rest)) (whole_ok Syntax True) (λ rest. at_suc n t rest O.Truth e)
  suc_choice O.Falsity t e = taken (λ rest. Ok (False, rest)) (whole_ok Syntax False) (λ rest. at_suc n t rest O.Falsity e)
  suc_choice O.End t e = kept compare_at whole_compare (λ rest. at_suc n t rest O.End e)
  suc_choice O.Comparison t e = kept compare_at whole_compare (λ rest. at_suc n t rest O.Comparison e)

zero_choice : (o : Opening) (t : Token) → opening (key t.kind) ≡ o → Choice Syntax (unit_at 0) t
zero_choice O.Negation t e = refused (Deep t.place) refl (λ rest. at_zero t rest O.Negation e)
zero_choice O.Group t e = refused (Deep t.place) refl (λ rest. at_zero t rest O.Group e)
zero_choice O.Quantifier t e = refused (Deep t.place) refl (λ rest. at_zero t rest O.Quantifier e)
zero_choice O.Truth t e = taken (λ rest. Ok (True, rest)) (whole_ok Syntax True) (λ rest. at_zero t rest O.Truth e)
zero_choice O.Falsity t e = taken (λ rest. Ok (False, rest)) (whole_ok Syntax False) (λ rest. at_zero t rest O.Falsity e)
zero_choice O.End t e = kept compare_at whole_compare (λ rest. at_zero t rest O.End e)
zero_choice O.Comparison t e = kept compare_at whole_compare (λ rest. at_zero t rest O.Comparison e)

unit_starts : (n : ℕ) → Finish Syntax (unit_at n) []
unit_starts n = record {
  more = token_of (W.Word (codes "true")) ∷ [];
  value = True;
  calm = refl;
  read = λ tail c. unit_true n (token_of (W.Word (codes "true")) ∷ tail) refl;
}

unit_empty : (n : ℕ) (mid w : List Token) (x : Syntax) → Calm w → unit_at n [] ≡ Ok (x, mid) → unit_at n w ≡ Ok (x, mid ++ w)
unit_empty n mid w x c e = let k : ◌≡◌ {A = Read Syntax} (Err Ended) (Ok (x, mid)) = sym (unit_end n [] refl) ∙ e in absurd (cc)

whole_unit_at : (n : ℕ) → Whole Syntax (unit_at n)
whole_unit_at zero = whole_choice Syntax (unit_at 0) (λ e. unit_starts 0) (unit_empty 0) (λ t. zero_choice (opening (key t.kind)) t refl)
whole_unit_at (suc n) = whole_choice Syntax (unit_at (suc n)) (λ e. unit_starts (suc n)) (unit_empty (suc n)) (λ t.
    suc_choice n (whole_unit_at n) (opening (key t.kind)) t refl)

ended_cond : (r : Read Syntax) → (r >>= end_of) ≡ Err Ended → r ≡ Err Ended
ended_cond (Ok (x, [])) e = absurd (cc)
ended_cond (Ok (x, t ∷ rest)) e = absurd (cc)
ended_cond (Err d) e = let q : d ≡ Ended = cc in ap (λ (d : ParseFault). Err d) q

-- if more tokens are needed, the tokens begin a query
pub ended_begins : (n : ℕ) (ts : List Token) → query_at n ts ≡ Err Ended → Begins n ts
ended_begins n ts e =
    let f = (whole_cond n (whole_unit_at n)).ends ts (ended_cond (cond_at n ts) e) in
    let r : cond_at n (ts ++ f.more) ≡ Ok (f.value, []) =
    subst (λ (us : List Token). cond_at n (ts ++ us) ≡ Ok (f.value, [])) (append-nil f.more) (f.read [] refl) in
    record {
      more = f.more;
      tree = f.value;
      is_query = query_ok n (ts ++ f.more) (cond_at n (ts ++ f.more))
          f.value (on_cond n (unit_at n) (on_unit_at n) (ts ++ f.more)) (ap (λ (r : Read Syntax). r >>= end_of) r);
    }

begins_by : (n : ℕ) (ts : List Token) (r : Result Syntax ParseFault) → query_at n ts ≡ r → fails_at r ≡ false → Begins n ts
begins_by n ts (Ok x) e v = record {
  more = [];
  tree = x;
  is_query = subst (λ (us : List Token). AreQueryTokens n us x)
      (sym (append-nil ts)) (query_ok n ts (cond_at n ts) x (on_cond n (unit_at n) (on_unit_at n) ts) e);
}
begins_by n ts (Err Ended) e v = ended_begins n ts e
begins_by n ts (Err (Unexpected p)) e v = absurd (true≢false v)
begins_by n ts (Err (Deep p)) e v = absurd (true≢false v)
begins_by n ts (Err Memory) e v = absurd (true≢false v)

-- if there is no fault at a token, the tokens begin a query
pub begins : (n : ℕ) (ts : List Token) → fails_at (query_at n ts) ≡ false → Begins n ts
begins n ts v = begins_by n ts (query_at n ts) refl v
