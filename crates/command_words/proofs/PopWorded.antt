-- Well worded words of a POP3 session are taken, and ask for what they name.
use Rattle.std.proofs.Common.{◌≡◌, ◌∙◌, sym, ap, ap₂, refl, arith, ℕ, suc, List, [], ◌∷◌, ◌++◌, ◌≤◌, length, drop, map, codes, Bool, true}
use Rattle.std.proofs.Common.{false, inl, inr, Option, Some, None, if◌then◌else◌}
use Rattle.std.specs.Prelude.{fold, ◌||◌, ◌&&◌, is_some, unwrap_or}
use Rattle.std.specs.List.{All, list_all}
use Rattle.std.specs.Option.{option_to_list}
use Rattle.std.specs.Str.{bytes_eq}
use Rattle.std.proofs.lemmas.Bool.{cases_Bool}
use Rattle.std.proofs.lemmas.List.{append-nil}
use Rattle.clap.specs.Words.{Row, takes, built, matches_of, first_of, reading_of}
use Rattle.clap.specs.Simple.{names_of, entered}
use Rattle.clap.specs.Walk.{Walk, walked, has_row, finished, with_default, settled_rows, more_values, at_row}
use Rattle.clap.specs.Takes.{settle_passes, walk_passes, entered_passes, default_passes, is_valid, is_given}
use Rattle.clap.specs.declared.builder.value_parser.ValueParser.TheVariants as vp
use Rattle.clap.specs.declared.parser.matches.ValueSource.TheVariants.{DefaultValue}
use Rattle.clap.proofs.OnLiterals.{clap_on_literals}
use Rattle.command_words.specs.Options.{default_path}
use Rattle.command_words.specs.WellWorded.{is_path, path_or_default}
use Rattle.command_words.specs.PopOptions.{pop_app}
use Rattle.command_words.specs.PopWords.{PopOption, Store, User, Box, Pass, option_name, is_option, OptionWithValue, words_of_pairs}
use Rattle.command_words.specs.PopWords.{values_given, pop_path_in, user_in, box_in, secret_in, IsPopWorded}
use Rattle.command_words.proofs.Worded.{plain_path}
use Rattle.command_words.proofs.PopPairs.{pop_rules, between, row_of_pair, same-name, no-row, or-false, at-absent, ArePlain, walk-pairs}

-- the words are taken, and ask for this path, for this user, this box and this secret
pub record IsPopAsked (words : List (List ℕ)) (path : Option (List ℕ)) (user name secret : List ℕ) : Type 0 where
  pub taken : takes pop_app words ≡ true
  pub place : pop_path_in words ≡ path_or_default path
  pub user_is : user_in words ≡ user
  pub name_is : box_in words ≡ name
  pub secret_is : secret_in words ≡ secret

all-plain : (ps : List OptionWithValue) → All (λ p. is_path p.value ≡ true) ps → ArePlain ps
all-plain [] all = tt
all-plain (p ∷ ps) all = (plain_path p.value (all 0 p (omega arith)), all-plain ps (λ k d lt. all (suc k) d (omega (arith, lt))))

-- the rows of some pairs, and more
abbrev rows_and : List OptionWithValue → List Row → List Row
rows_and ps more = map row_of_pair ps ++ more

-- the first row of this name is that of the first pair that gives the option a value
pub record IsFirst (o : PopOption) (rows : List Row) (v : List ℕ) : Type 0 where
  pub first : first_of (option_name o) rows ≡ Some v
  pub given : is_given (option_name o) rows ≡ true
  pub there : has_row (option_name o) rows ≡ true

head-is : (v p : List ℕ) (vs ps : List (List ℕ)) → p ∷ ps ≡ v ∷ vs → p ≡ v
head-is v p vs ps e = cc

first-is : (o : PopOption) (ps : List OptionWithValue) (more : List Row) (v : List ℕ) (vs : List (List ℕ)) → values_given o ps ≡ v ∷ vs
    → IsFirst o (rows_and ps more) v
first-is o [] more v vs e = absurd (cc)
first-is o (p ∷ ps) more v vs e = elim (cases_Bool (is_option p.option o)) [
  | inl same ↦
      let n = same-name p.option o ∙ same in
      let given : p.value ∷ values_given o ps ≡ v ∷ vs = sym (ap (λ b. if b then p.value ∷ values_given o ps else values_given o ps) same)
      ∙ e in
      record {
        first = rw n (ap Some (head-is v p.value vs (values_given o ps) given));
        given = rw n refl;
        there = rw n refl;
      }
  | inr other ↦
      let n = same-name p.option o ∙ other in
      let rest = first-is o ps more v vs (sym (ap (λ b. if b then p.value ∷ values_given o ps else values_given o ps) other) ∙ e) in
      record { first = rw n rest.first; given = rw n rest.given; there = rw n rest.there }
]

-- no pair asks for help
no-help : (ps : List OptionWithValue) (more : List Row) → has_row (codes "help") more ≡ false
    → has_row (codes "help") (rows_and ps more) ≡ false
no-help [] more e = e
no-help (p ∷ ps) more e = ap (λ b. b || has_row (codes "help") (rows_and ps more)) (other p.option) ∙ no-help ps more e where
  other : (o : PopOption) → bytes_eq (option_name o) (codes "help") ≡ false
  other Store = refl
  other User = refl
  other Box = refl
  other Pass = refl

-- the row of a store that no word names
default_row : Row
default_row =
    record { id = codes "store"; values = default_path ∷ []; count = None; source = Some DefaultValue; reading = reading_of vp.String }

-- what the rows of all arguments are, once those of the options that must be given are there
others-stay : (rows : List Row) → has_row (codes "user") rows ≡ true → has_row (codes "box") rows ≡ true
    → has_row (codes "pass") rows ≡ true → has_row (codes "help") rows ≡ false
    → fold with_default rows (drop 1 pop_rules) ≡ rows
others-stay rows u b p h = rw (u, b, p, h) refl

store-there : (rows : List Row) → has_row (codes "store") rows ≡ true
    → fold with_default rows pop_rules ≡ fold with_default rows (drop 1 pop_rules)
store-there rows e = rw e refl

store-absent : (rows : List Row) → has_row (codes "store") rows ≡ false
    → fold with_default rows pop_rules ≡ fold with_default (rows ++ default_row ∷ []) (drop 1 pop_rules)
unfolding default_row
store-absent rows e =
    ap (λ b. fold with_default (if b then rows
    else at_row (codes "store") (more_values DefaultValue (default_path ∷ [])) (default_row ∷ []) rows) (drop 1 pop_rules)) e
    ∙ ap (λ xs. fold with_default xs (drop 1 pop_rules))
    (at-absent (codes "store") (more_values DefaultValue (default_path ∷ [])) (default_row ∷ []) rows e)

valid : (rows : List Row) → is_given (codes "user") rows ≡ true → is_given (codes "box") rows ≡ true → is_given (codes "pass") rows ≡ true
    → (list_all default_passes pop_rules && is_valid (built pop_app).top rows false) ≡ true
valid rows u b p = rw (u, b, p) refl

-- whether words are taken, by the end of the walk over them
taken-at : Walk → Bool → Bool
taken-at w passes =
    entered_passes (built pop_app) w.stopped
    && (passes && (settle_passes pop_rules false w.held
    && (list_all default_passes pop_rules
    && is_valid (built pop_app).top (finished pop_rules w.held) (is_some (entered (built pop_app) w.stopped)))))

taken-is : (words : List (List ℕ))
    → takes pop_app words ≡ taken-at (fold (walked pop_rules (names_of (built pop_app))) (between [] None) words)
    (walk_passes (built pop_app).top (names_of (built pop_app)) (between [] None) words)
unfolding clap_on_literals taken-at
taken-is words = refl

taken-end : (rows : List Row) (pending : Option (List ℕ × List (List ℕ)))
    → settle_passes pop_rules false (record { rows = rows; pending = pending; skip = 0 }) ≡ true
    → (list_all default_passes pop_rules
    && is_valid (built pop_app).top (fold with_default (settled_rows pop_rules pending rows) pop_rules) false) ≡ true
    → taken-at (between rows pending) true ≡ true
unfolding taken-at
taken-end rows pending last ok = rw last ok

-- the rows of all arguments, after pairs
all-rows : List OptionWithValue → Option (List ℕ) → List Row
all-rows ps None = map row_of_pair ps ++ default_row ∷ []
all-rows ps (Some path) = map row_of_pair ps ++ []

rows-are : (ps : List OptionWithValue) (path : Option (List ℕ)) (user name secret : List ℕ) → values_given Store ps ≡ option_to_list path
    → values_given User ps ≡ user ∷ [] → values_given Box ps ≡ name ∷ []
    → values_given Pass ps ≡ secret ∷ [] → fold with_default (map row_of_pair ps) pop_rules ≡ all-rows ps path
unfolding all-rows default_row
rows-are ps None user name secret s u b p =
    let more = default_row ∷ [] in
    store-absent (map row_of_pair ps) (no-row Store ps s)
    ∙ others-stay (rows_and ps more) (first-is User ps more user [] u).there (first-is Box ps more name [] b).there
    (first-is Pass ps more secret [] p).there (no-help ps more refl)
rows-are ps (Some path) user name secret s u b p =
    let same : map row_of_pair ps ++ [] ≡ map row_of_pair ps = append-nil (map row_of_pair ps) in
    ap (λ xs. fold with_default xs pop_rules) (sym same)
    ∙ store-there (rows_and ps []) (first-is Store ps [] path [] s).there
    ∙ others-stay (rows_and ps []) (first-is User ps [] user [] u).there (first-is Box ps [] name [] b).there
    (first-is Pass ps [] secret [] p).there (no-help ps [] refl)

first-all : (ps : List OptionWithValue) (path : Option (List ℕ)) (o : PopOption) (v : List ℕ) → values_given o ps ≡ v ∷ []
    → IsFirst o (all-rows ps path) v
unfolding all-rows
first-all ps None o v e = first-is o ps (default_row ∷ []) v [] e
first-all ps (Some path) o v e = first-is o ps [] v [] e

default-first : (rows : List Row) → has_row (codes "store") rows ≡ false
    → first_of (codes "store") (rows ++ default_row ∷ []) ≡ Some default_path
unfolding default_row
default-first [] e = refl
default-first (r ∷ rs) e =
    let both = or-false (bytes_eq r.id (codes "store")) (has_row (codes "store") rs) e in
    rw both.0 (default-first rs both.1)

store-first : (ps : List OptionWithValue) (path : Option (List ℕ)) → values_given Store ps ≡ option_to_list path
    → first_of (codes "store") (all-rows ps path) ≡ Some (path_or_default path)
unfolding all-rows default_row
store-first ps None e = default-first (map row_of_pair ps) (no-row Store ps e)
store-first ps (Some path) e = (first-is Store ps [] path [] e).first

few-of : (o : PopOption) (ps : List OptionWithValue) (path : Option (List ℕ)) (user name secret : List ℕ)
    → values_given Store ps ≡ option_to_list path → values_given User ps ≡ user ∷ [] → values_given Box ps ≡ name ∷ []
    → values_given Pass ps ≡ secret ∷ [] → length (values_given o ps) ≤ 1
few-of Store ps None user name secret s u b p = rw s (omega arith)
few-of Store ps (Some path) user name secret s u b p = rw s (omega arith)
few-of User ps path user name secret s u b p = rw u (omega arith)
few-of Box ps path user name secret s u b p = rw b (omega arith)
few-of Pass ps path user name secret s u b p = rw p (omega arith)

pub worded-pop : (words : List (List ℕ)) (path : Option (List ℕ)) (user name secret : List ℕ) → IsPopWorded words path user name secret
    → IsPopAsked words path user name secret
worded-pop words path user name secret w =
    let ps = w.pairs in
    let walk = walk-pairs [] None [] ps refl refl (λ o. few-of o ps path user name secret w.store_is w.user_is w.box_is w.secret_is)
    (all-plain ps w.plain) in
    let rows : fold with_default (settled_rows pop_rules walk.pending' walk.rows') pop_rules ≡ all-rows ps path =
    ap (λ rows. fold with_default rows pop_rules) walk.settled
    ∙ rows-are ps path user name secret w.store_is w.user_is w.box_is w.secret_is in
    let matches : matches_of pop_app words ≡ all-rows ps path = ap (matches_of pop_app) w.words_are
    ∙ ap (λ end. finished pop_rules end.held) walk.end ∙ rows in
    let u = first-all ps path User user w.user_is in
    let b = first-all ps path Box name w.box_is in
    let p = first-all ps path Pass secret w.secret_is in
    record {
      taken = ap (takes pop_app) w.words_are ∙ taken-is (words_of_pairs ps) ∙ ap₂ taken-at walk.end walk.passes
          ∙ taken-end walk.rows' walk.pending' walk.last (ap (λ rows. list_all default_passes pop_rules
          && is_valid (built pop_app).top rows false) rows ∙ valid (all-rows ps path) u.given b.given p.given);
      place = ap (λ rows. unwrap_or (first_of (codes "store") rows) default_path) matches
          ∙ ap (λ (o : Option (List ℕ)). unwrap_or o default_path) (store-first ps path w.store_is);
      user_is = ap (λ rows. unwrap_or (first_of (codes "user") rows) []) matches ∙ ap (λ (o : Option (List ℕ)). unwrap_or o []) u.first;
      name_is = ap (λ rows. unwrap_or (first_of (codes "box") rows) []) matches ∙ ap (λ (o : Option (List ℕ)). unwrap_or o []) b.first;
      secret_is = ap (λ rows. unwrap_or (first_of (codes "pass") rows) []) matches ∙ ap (λ (o : Option (List ℕ)). unwrap_or o []) p.first;
    }
