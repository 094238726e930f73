-- The walk of `clap` over pairs of an option and a value.
use Rattle.std.proofs.Common.{◌≡◌, ◌∙◌, sym, ap, subst, arith, ℕ, Bool, List, [], ◌∷◌, ◌++◌, ◌≤◌, length, inl, inr, codes, true, false}
use Rattle.std.proofs.Common.{refl, map, Option, Some, None, if◌then◌else◌}
use Rattle.std.specs.Prelude.{fold, ◌||◌}
use Rattle.std.specs.Str.{bytes_eq}
use Rattle.std.proofs.lemmas.Bool.{cases_Bool}
use Rattle.std.proofs.lemmas.List.{append_assoc, append-nil, length-append}
use Rattle.clap.specs.Words.{Row, Rule, Text, is_simple, is_simple_and_free, built, reading_of}
use Rattle.clap.specs.Simple.{names_of}
use Rattle.clap.specs.Walk.{Walk, settled_rows, walked, idle, at_row, has_row, more_values}
use Rattle.clap.specs.Takes.{settle_passes, walk_passes}
use Rattle.clap.specs.declared.builder.value_parser.ValueParser.TheVariants as vp
use Rattle.clap.specs.declared.parser.matches.ValueSource.TheVariants.{CommandLine}
use Rattle.clap.proofs.OnLiterals.{clap_on_literals}
use Rattle.command_words.specs.PopOptions.{pop_app}
use Rattle.command_words.specs.PopWords.{PopOption, Store, User, Box, Pass, option_name, option_word, is_option, OptionWithValue}
use Rattle.command_words.specs.PopWords.{words_of_pairs, values_given}
use Rattle.command_words.proofs.Taken.{IsPlainWord}

pub is_simple_pop : is_simple pop_app ≡ true
unfolding clap_on_literals
is_simple_pop = refl

pub is_free_pop : is_simple_and_free pop_app ≡ true
unfolding clap_on_literals
is_free_pop = refl

abbrev pub pop_rules : List Rule
pop_rules = (built pop_app).top.rules

-- between two pairs
abbrev pub between : List Row → Option (Text × List Text) → Walk
between rows pending =
    record { held = record { rows = rows; pending = pending; skip = 0 }; waiting = idle; position = 1; is_trailing = false; stopped = None }

-- the walk over one pair
walk-pair : (rows : List Row) (pending : Option (Text × List Text)) (o : PopOption) (v : List ℕ) → IsPlainWord v
    → walked pop_rules (names_of (built pop_app)) (walked pop_rules (names_of (built pop_app)) (between rows pending) (option_word o)) v
    ≡ between (settled_rows pop_rules pending rows) (Some (option_name o, v ∷ []))
unfolding clap_on_literals
walk-pair rows pending Store v q = rw (q.long, q.short, q.end) refl
walk-pair rows pending User v q = rw (q.long, q.short, q.end) refl
walk-pair rows pending Box v q = rw (q.long, q.short, q.end) refl
walk-pair rows pending Pass v q = rw (q.long, q.short, q.end) refl

-- a pair passes if what was pending does
pair-passes : (rows : List Row) (pending : Option (Text × List Text)) (o : PopOption) (v : List ℕ) (rest : List (List ℕ)) → IsPlainWord v
    → settle_passes pop_rules false (record { rows = rows; pending = pending; skip = 0 }) ≡ true
    → walk_passes (built pop_app).top (names_of (built pop_app)) (between rows pending) (option_word o ∷ v ∷ rest)
    ≡ walk_passes (built pop_app).top (names_of (built pop_app))
    (between (settled_rows pop_rules pending rows) (Some (option_name o, v ∷ []))) rest
unfolding clap_on_literals
pair-passes rows pending Store v rest q e = rw (e, q.long, q.short, q.end) refl
pair-passes rows pending User v rest q e = rw (e, q.long, q.short, q.end) refl
pair-passes rows pending Box v rest q e = rw (e, q.long, q.short, q.end) refl
pair-passes rows pending Pass v rest q e = rw (e, q.long, q.short, q.end) refl

-- the row of a pair
abbrev pub row_of_pair : OptionWithValue → Row
row_of_pair pair = record {
  id = option_name pair.option;
  values = pair.value ∷ [];
  count = None;
  source = Some CommandLine;
  reading = reading_of vp.String;
}

pub or-false : (a b : Bool) → (a || b) ≡ false → (a ≡ false) × (b ≡ false)
or-false false b e = (refl, e)
or-false true b e = absurd (cc)

-- a row that isn't there is appended
pub at-absent : (id : Text) (change : Row → List Row) (missing rows : List Row) → has_row id rows ≡ false
    → at_row id change missing rows ≡ rows ++ missing
at-absent id change missing [] e = refl
at-absent id change missing (r ∷ rs) e =
    let both = or-false (bytes_eq r.id id) (has_row id rs) e in
    ap (λ b. if b then change r ++ rs else r ∷ at_row id change missing rs) both.0
    ∙ ap (λ xs. r ∷ xs) (at-absent id change missing rs both.1)

-- a row that isn't there is put
put-new : (id : Text) (rows : List Row) (row : Row) (change : Row → List Row) → has_row id rows ≡ false
    → at_row id change (row ∷ []) (at_row id (λ _. []) [] rows) ≡ rows ++ row ∷ []
put-new id rows row change e =
    let out : at_row id (λ _. []) [] rows ≡ rows = at-absent id (λ _. []) [] rows e ∙ append-nil rows in
    ap (at_row id change (row ∷ [])) out ∙ at-absent id change (row ∷ []) rows e

-- a pending pair is settled
settled-pair : (rows : List Row) (o : PopOption) (v : List ℕ) → has_row (option_name o) rows ≡ false
    → settled_rows pop_rules (Some (option_name o, v ∷ [])) rows ≡ rows ++ row_of_pair (record { option = o; value = v }) ∷ []
settled-pair rows Store v e =
    put-new (codes "store") rows (row_of_pair (record { option = Store; value = v })) (more_values CommandLine (v ∷ [])) e
settled-pair rows User v e =
    put-new (codes "user") rows (row_of_pair (record { option = User; value = v })) (more_values CommandLine (v ∷ [])) e
settled-pair rows Box v e =
    put-new (codes "box") rows (row_of_pair (record { option = Box; value = v })) (more_values CommandLine (v ∷ [])) e
settled-pair rows Pass v e =
    put-new (codes "pass") rows (row_of_pair (record { option = Pass; value = v })) (more_values CommandLine (v ∷ [])) e

pair-settles : (rows : List Row) (o : PopOption) (v : List ℕ) → has_row (option_name o) rows ≡ false
    → settle_passes pop_rules false (record { rows = rows; pending = Some (option_name o, v ∷ []); skip = 0 }) ≡ true
pair-settles rows Store v e = rw e refl
pair-settles rows User v e = rw e refl
pair-settles rows Box v e = rw e refl
pair-settles rows Pass v e = rw e refl

-- options have names of their own
pub same-name : (a b : PopOption) → bytes_eq (option_name a) (option_name b) ≡ is_option a b
same-name Store Store = refl
same-name Store User = refl
same-name Store Box = refl
same-name Store Pass = refl
same-name User Store = refl
same-name User User = refl
same-name User Box = refl
same-name User Pass = refl
same-name Box Store = refl
same-name Box User = refl
same-name Box Box = refl
same-name Box Pass = refl
same-name Pass Store = refl
same-name Pass User = refl
same-name Pass Box = refl
same-name Pass Pass = refl

pub same-option : (o : PopOption) → is_option o o ≡ true
same-option Store = refl
same-option User = refl
same-option Box = refl
same-option Pass = refl

-- the head of the pairs doesn't give a value to the option
head-other : (o : PopOption) (p : OptionWithValue) (ps : List OptionWithValue) → values_given o (p ∷ ps) ≡ []
    → (is_option p.option o ≡ false) × (values_given o ps ≡ [])
head-other o p ps e = elim (cases_Bool (is_option p.option o)) [
  | inl same ↦
      absurd (none (p.value) (values_given o ps) (sym (ap (λ b. if b then p.value ∷ values_given o ps else values_given o ps) same) ∙ e))
  | inr other ↦ (other, sym (ap (λ b. if b then p.value ∷ values_given o ps else values_given o ps) other) ∙ e)
] where
  none : (v : List ℕ) (vs : List (List ℕ)) → v ∷ vs ≡ [] → ⊥
  none v vs e = cc

pub no-row : (o : PopOption) (ps : List OptionWithValue) → values_given o ps ≡ [] → has_row (option_name o) (map row_of_pair ps) ≡ false
no-row o [] e = refl
no-row o (p ∷ ps) e =
    let other = head-other o p ps e in
    ap (λ b. b || has_row (option_name o) (map row_of_pair ps)) (same-name p.option o ∙ other.0) ∙ no-row o ps other.1

either-append : (b : Bool) (v : List ℕ) (xs ys zs : List (List ℕ)) → zs ≡ xs ++ ys
    → (if b then v ∷ zs else zs) ≡ (if b then v ∷ xs else xs) ++ ys
either-append true v xs ys zs e = ap (λ vs. v ∷ vs) e
either-append false v xs ys zs e = e

values-append : (o : PopOption) (xs ys : List OptionWithValue) → values_given o (xs ++ ys) ≡ values_given o xs ++ values_given o ys
values-append o [] ys = refl
values-append o (p ∷ xs) ys =
    either-append (is_option p.option o) p.value (values_given o xs) (values_given o ys) (values_given o (xs ++ ys)) (values-append o xs ys)

-- no option is given twice
abbrev pub AreApart : List OptionWithValue → Type 0
AreApart ps = (o : PopOption) → length (values_given o ps) ≤ 1

nothing : (vs : List (List ℕ)) → length vs ≤ 0 → vs ≡ []
nothing [] e = refl
nothing (v ∷ vs) e = absurd (omega (arith, e))

-- an option that comes next wasn't given before
not-before : (done : List OptionWithValue) (p : OptionWithValue) (ps : List OptionWithValue) → AreApart (done ++ p ∷ ps)
    → values_given p.option done ≡ []
not-before done p ps apart =
    let here : values_given p.option (p ∷ ps) ≡ p.value ∷ values_given p.option ps =
    ap (λ b. if b then p.value ∷ values_given p.option ps else values_given p.option ps) (same-option p.option) in
    let all : values_given p.option (done ++ p ∷ ps) ≡ values_given p.option done ++ p.value ∷ values_given p.option ps =
    values-append p.option done (p ∷ ps) ∙ ap (λ vs. values_given p.option done ++ vs) here in
    let few = subst (λ vs. length vs ≤ 1) all (apart p.option) in
    let long = length-append (values_given p.option done) (p.value ∷ values_given p.option ps) in
    nothing (values_given p.option done) (omega (arith, few, long))

-- no value is taken for a flag
abbrev pub ArePlain : List OptionWithValue → Type 0
ArePlain [] = Unit {0}
ArePlain (p ∷ ps) = IsPlainWord p.value × ArePlain ps

-- the walk over pairs: it passes, and leaves a row for each
pub record IsWalked (rows : List Row) (pending : Option (Text × List Text)) (done ps : List OptionWithValue) : Type 0 where
  pub rows' : List Row
  pub pending' : Option (Text × List Text)
  pub end : fold (walked pop_rules (names_of (built pop_app))) (between rows pending) (words_of_pairs ps) ≡ between rows' pending'
  pub settled : settled_rows pop_rules pending' rows' ≡ map row_of_pair (done ++ ps)
  pub passes : walk_passes (built pop_app).top (names_of (built pop_app)) (between rows pending) (words_of_pairs ps) ≡ true
  pub last : settle_passes pop_rules false (record { rows = rows'; pending = pending'; skip = 0 }) ≡ true

map-snoc : (done : List OptionWithValue) (p : OptionWithValue)
    → map row_of_pair (done ++ p ∷ []) ≡ map row_of_pair done ++ row_of_pair p ∷ []
map-snoc [] p = refl
map-snoc (d ∷ done) p = ap (λ xs. row_of_pair d ∷ xs) (map-snoc done p)

none-passes : (rows : List Row) (pending : Option (Text × List Text))
    → walk_passes (built pop_app).top (names_of (built pop_app)) (between rows pending) [] ≡ true
unfolding walk_passes
none-passes rows pending = refl

pub walk-pairs : (rows : List Row) (pending : Option (Text × List Text)) (done ps : List OptionWithValue)
    → settled_rows pop_rules pending rows ≡ map row_of_pair done
    → settle_passes pop_rules false (record { rows = rows; pending = pending; skip = 0 }) ≡ true → AreApart (done ++ ps) → ArePlain ps
    → IsWalked rows pending done ps
walk-pairs rows pending done [] settled passes apart plain = record {
  rows' = rows;
  pending' = pending;
  end = refl;
  settled = settled ∙ ap (map row_of_pair) (sym (append-nil done));
  passes = none-passes rows pending;
  last = passes;
}
walk-pairs rows pending done (p ∷ ps) settled passes apart plain =
    let before = settled_rows pop_rules pending rows in
    let next = Some (option_name p.option, p.value ∷ []) in
    let absent : has_row (option_name p.option) before ≡ false = ap (has_row (option_name p.option)) settled
    ∙ no-row p.option done (not-before done p ps apart) in
    let same : (done ++ p ∷ []) ++ ps ≡ done ++ p ∷ ps = append_assoc done (p ∷ []) ps in
    let now : settled_rows pop_rules next before ≡ map row_of_pair (done ++ p ∷ []) =
    settled-pair before p.option p.value absent ∙ ap (λ xs. xs ++ row_of_pair p ∷ []) settled ∙ sym (map-snoc done p) in
    let more = walk-pairs before next (done ++ p ∷ []) ps now (pair-settles before p.option p.value absent)
    (subst AreApart (sym same) apart) plain.1 in
    record {
      rows' = more.rows';
      pending' = more.pending';
      end = ap (λ w. fold (walked pop_rules (names_of (built pop_app))) w (words_of_pairs ps))
          (walk-pair rows pending p.option p.value plain.0) ∙ more.end;
      settled = more.settled ∙ ap (map row_of_pair) same;
      passes = pair-passes rows pending p.option p.value (words_of_pairs ps) plain.0 passes ∙ more.passes;
      last = more.last;
    }
