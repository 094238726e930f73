-- Filters, lists and explanations: why one is refused, and what the engine represents after one.
use Rattle.std.proofs.Common.{◌≡◌, ◌∙◌, sym, refl, ap, subst, arith, ℕ, List, [], ◌∷◌, ◌++◌, ◌+◌, length, map, ◌≤◌, Option, Some, None}
use Rattle.std.proofs.Common.{true, false, inl, inr, if◌then◌else◌}
use Rattle.std.specs.Prelude.{◌⊎◌, take, sum_by, Result, Ok, Err}
use Rattle.std.specs.Option.{option_or, option_map}
use Rattle.std.proofs.lemmas.List.{map-append, append_assoc, append-nil}
use Rattle.std.specs.List.{All}
use Rattle.std.proofs.lemmas.List.Elements.{All-weaker}
use Rattle.std.proofs.lemmas.List.Sums.{sum_by-append}
use Rattle.tap_base.specs.Words.{has_text}
use Rattle.tap_rows.specs.declared.tables.Tables.{Tables}
use Rattle.tap_rows.specs.declared.rows.Doc.{Doc}
use Rattle.tap_rows.specs.declared.rows.QueryRow.{QueryRow}
use Rattle.tap_rows.specs.declared.results.Entry.{Entry}
use Rattle.tap_rows.specs.Kept.{Each}
use Rattle.tap_base.specs.Names.{is_name}
use Rattle.filter_rules.proofs.Classes.{Named, IfRules, Classed, text-named, sorted-named}
use Rattle.tap_rows.specs.declared.rows.FilterRow.{FilterRow}
use Rattle.tap_rows.specs.declared.results.Listed.{Listed}
use Rattle.tap_rows.specs.declared.change.Change.{Change}
use Rattle.tap_rows.specs.declared.change.Change.TheVariants.{OneFilter}
use Rattle.tap_rows.specs.Tables.{after}
use Rattle.tap_rows.specs.Deliveries.{delivered}
use Rattle.tap_rows.proofs.KeptLaws.{box-is}
use Rattle.mail_lines.specs.declared.block.Block.{Block}
use Rattle.script_lang.specs.declared.refusal.Refusal.{Refusal}
use Rattle.script_lang.specs.declared.refusal.Refusal.TheVariants.{NoMoment, Memory}
use Rattle.script_lang.specs.declared.refusal.LimitName.TheVariants.{Users, Filters, Store}
use Rattle.script_lang.specs.declared.command.Command.TheVariants.{Filter, ListOf, Explain}
use Rattle.script_lang.specs.declared.reply.Reply.TheVariants.{Filter as FilterAdded, ListOf as Listing, Explain as Explained}
use Rattle.filter_rules.specs.declared.fault.RuleFault.{RuleFault}
use Rattle.filter_rules.specs.declared.fault.RuleFault.TheVariants as R
use Rattle.filter_rules.specs.Rules.{Rule}
use Rattle.filter_rules.specs.RuleTexts.{rules_of}
use Rattle.filter_rules.specs.Listings.{listing_of}
use Rattle.tap_model.specs.Limits.{user_limit, filter_limit, store_limit}
use Rattle.tap_model.specs.declared.session.Session.{Session}
use Rattle.tap_model.specs.Limits.{limit_refusal, different}
use Rattle.tap_model.specs.Sessions.{user_of, moment_or_zero}
use Rattle.tap_model.specs.Filters.{or_none, rules_in_text, last_filter, filter_rules, rules_of_user}
use Rattle.tap_model.specs.Queries.{query_named, query_truth, start_of, box_of_query, lines_of}
use Rattle.tap_rows.specs.WellFormed.{is_query_of}
use Rattle.tap_model.specs.Verdicts.{first_refusal, checks, verdict, missing, no_moment, no_user, long_filter, filter_fault, block_text}
use Rattle.tap_model.specs.Replies.{next_filter, show_list, show_lines}
use Rattle.tap_model.specs.Sound.{IsSoundFor}
use Rattle.tap_model.specs.Stories.{Refuses}
use Rattle.tap_model.proofs.AnswerLaws.{some-none, find-in, truth-of-second}
use Rattle.tap_engine.specs.declared.engine.Engine.{Engine}
use Rattle.tap_kept.specs.Keeping.{cached_query, with_owner}
use Rattle.tap_engine.specs.Standing.{Represents, RefusedAfter, RefusedBy, look_refusal, cached_named}
use Rattle.tap_engine.specs.FilterChecks.{filter_limits, early_filter, filter_refusal}
use Rattle.tap_engine.specs.Lists.{cached_rows, cached_lines}
use Rattle.tap_engine.specs.Answering.{Answers}
use Rattle.tap_engine.proofs.AddedRows.{docs-are}
use Rattle.tap_engine.proofs.UndoLaws.{answers-accepted, refused-after}
use Rattle.tap_engine.proofs.OwnerLaws.{users-more, owners-more}
use Rattle.tap_engine.proofs.CheckLaws.{named-is, box-verdict}

seven : (a b c x y z f : Option Refusal) → option_or a (option_or b (option_or c (option_or (first_refusal (x ∷ y ∷ z ∷ [])) f)))
    ≡ first_refusal (a ∷ b ∷ c ∷ x ∷ y ∷ z ∷ f ∷ [])
seven (Some r) b c x y z f = refl
seven None (Some r) c x y z f = refl
seven None None (Some r) x y z f = refl
seven None None None (Some r) y z f = refl
seven None None None None (Some r) z f = refl
seven None None None None None (Some r) f = refl
seven None None None None None None (Some r) = refl
seven None None None None None None None = refl

-- a filter is refused as its verdict says
pub filter-verdict : (e : Engine) (t : Tables) (block : Block) → Represents e t
    → filter_refusal e block ≡ verdict (Filter block) e.session t
unfolding filter_limits
filter-verdict e t block represents =
    seven (no_moment e.session) (no_user e.session) (long_filter block)
    (limit_refusal Users user_limit (length e.owners) (if has_text e.owners (user_of e.session) then 0 else 1))
    (limit_refusal Filters filter_limit (length e.filters) 1) (limit_refusal Store store_limit e.bytes (length (block_text block)))
    (filter_fault (block_text block))
    ∙ rw (represents.filters, represents.users, represents.owners (user_of e.session), represents.bytes) refl

six : (a b c x y z : Option Refusal)
    → option_or a (option_or b (option_or c (first_refusal (x ∷ y ∷ z ∷ [])))) ≡ first_refusal (a ∷ b ∷ c ∷ x ∷ y ∷ z ∷ [])
six (Some r) b c x y z = refl
six None (Some r) c x y z = refl
six None None (Some r) x y z = refl
six None None None x y z = refl

-- the checks of a filter before its text is read
early-filter : (e : Engine) (t : Tables) (block : Block) → Represents e t
    → early_filter e block ≡ first_refusal (take 6 (checks (Filter block) e.session t))
unfolding filter_limits
early-filter e t block represents =
    six (no_moment e.session) (no_user e.session) (long_filter block)
    (limit_refusal Users user_limit (length e.owners) (if has_text e.owners (user_of e.session) then 0 else 1))
    (limit_refusal Filters filter_limit (length e.filters) 1) (limit_refusal Store store_limit e.bytes (length (block_text block)))
    ∙ rw (represents.filters, represents.users, represents.owners (user_of e.session), represents.bytes) refl

pub filter-refuses : (e : Engine) (block : Block) (refusal : Refusal) → RefusedAfter (early_filter e block) (filter_refusal e block) refusal
    → (t : Tables) → Represents e t → Refuses refusal (Filter block) e.session t
filter-refuses e block refusal by t represents =
    refused-after _ _ refusal (subst (λ x. RefusedAfter x (verdict (Filter block) e.session t) refusal) (early-filter e t block represents)
    (subst (λ v. RefusedAfter (early_filter e block) v refusal) (filter-verdict e t block represents) by))

-- a filter isn't added without a moment
pub filter-moment : (e : Engine) (block : Block) → filter_refusal e block ≡ None → e.session.moment ≡ None → ⊥
filter-moment e block none no_m = some-none NoMoment
    (sym (ap (λ m. option_or (missing NoMoment m) (option_or (no_user e.session) (option_or (long_filter block) (option_or (first_refusal
    (filter_limits e (user_of e.session) (length (block_text block)))) (filter_fault (block_text block)))))) no_m) ∙ none)

-- a filter is refused for its text, or is out of memory, once it isn't refused before
pub text-refused : (e : Engine) (block : Block) (refusal : Refusal) → no_moment e.session ≡ None → no_user e.session ≡ None
    → long_filter block ≡ None → first_refusal (filter_limits e (user_of e.session) (length (block_text block))) ≡ None
    → (filter_fault (block_text block) ≡ Some refusal) ⊎ (refusal ≡ Memory)
    → RefusedAfter (early_filter e block) (filter_refusal e block) refusal
text-refused e block refusal moment user long limits by =
    let fault = filter_fault (block_text block) in
    let bound = first_refusal (filter_limits e (user_of e.session) (length (block_text block))) in
    let is : filter_refusal e block ≡ fault =
    ap (λ x. option_or x (option_or (no_user e.session) (option_or (long_filter block) (option_or bound fault)))) moment
    ∙ ap (λ x. option_or x (option_or (long_filter block) (option_or bound fault))) user
    ∙ ap (λ x. option_or x (option_or bound fault)) long
    ∙ ap (λ x. option_or x fault) limits in
    let early : early_filter e block ≡ None =
    ap (λ x. option_or x (option_or (no_user e.session) (option_or (long_filter block) bound))) moment
    ∙ ap (λ x. option_or x (option_or (long_filter block) bound)) user
    ∙ ap (λ x. option_or x bound) long
    ∙ limits in
    elim by [
      | inl refused ↦ inl (is ∙ refused)
      | inr memory ↦ inr (memory, early)
    ]

-- a filter is added
pub answers-filter : (t : Tables) (s : Session) (block : Block) (n count : ℕ) (row : FilterRow) (change : Change) (s' : Session)
    → verdict (Filter block) s t ≡ None → n ≡ length t.filters
    → row ≡ record { num = n + 1; owner = user_of s; source = block_text block; arrival = moment_or_zero s }
    → count ≡ length (rules_in_text (block_text block)) → change ≡ OneFilter row → s' ≡ s
    → Answers t s (Filter block) (FilterAdded count) (Some change) s'
answers-filter t s block n count row change s' none at is-row is-count is-change is-s =
    let accepted = answers-accepted t s (Filter block) none in
    let same : row ≡ next_filter t s (block_text block) = is-row
    ∙ ap (λ n. record { num = n + 1; owner = user_of s; source = block_text block; arrival = moment_or_zero s }) at in
    record {
      fine = none;
      reply_is = ap FilterAdded is-count ∙ accepted.reply_is;
      change_is = ap Some is-change ∙ ap (λ row. Some (OneFilter row)) same ∙ accepted.change_is;
      session_is = is-s ∙ accepted.session_is;
    }

-- the engine with one more filter
pub represents-filter : (e : Engine) (t : Tables) (row : FilterRow) → Represents e t → (e.session.moment ≡ None → ⊥)
    → Represents (record e { filters = e.filters ++ row ∷ []; owners = with_owner e.owners row.owner; bytes = e.bytes + length row.source })
    (after t (OneFilter row))
represents-filter e t row represents there = record {
  rows = represents.rows;
  queries = represents.queries;
  run_count = represents.run_count;
  pick_count = represents.pick_count;
  filters = ap (λ fs. fs ++ row ∷ []) represents.filters;
  bytes = more (sum_by (λ doc. length doc.text) t.docs) (sum_by (λ note. length note.text) t.notes)
      (sum_by (λ query. length query.source) t.queries) (sum_by (λ filter. length filter.source) t.filters) _ _ (length row.source)
      represents.bytes (sum_by-append (λ filter. length filter.source) t.filters (row ∷ []));
  users = users-more e.owners names [] row.owner (represents.users ∙ ap different (sym none-after))
      (represents.owners row.owner ∙ ap (λ texts. has_text texts row.owner) (sym none-after)) ∙ ap different (sym all);
  owners = λ user. owners-more e.owners names [] row.owner user (λ w. represents.owners w ∙ ap (λ texts. has_text texts w) (sym none-after))
      ∙ ap (λ texts. has_text texts user) (sym all);
  votes = represents.votes;
  greatest = λ none. absurd (there none);
} where
  names : List (List ℕ)
  names = map (λ query. query.owner) t.queries ++ map (λ filter. filter.owner) t.filters

  none-after : names ++ [] ≡ names
  none-after = append-nil names

  all : map (λ query. query.owner) t.queries ++ map (λ filter. filter.owner) (t.filters ++ row ∷ []) ≡ names ++ row.owner ∷ []
  all = ap (λ xs. map (λ query. query.owner) t.queries ++ xs) (map-append (λ filter. filter.owner) t.filters (row ∷ []))
      ∙ sym (append_assoc (map (λ query. query.owner) t.queries) (map (λ filter. filter.owner) t.filters) (row.owner ∷ []))

  more : (a b c d d' n k : ℕ) → n ≡ a + b + c + d → d' ≡ d + (0 + k) → n + k ≡ a + b + c + d'
  more a b c d d' n k is e = omega (arith, is, e)

text-rules : (source : List ℕ) → Each Named (rules_in_text source)
unfolding rules_in_text
text-rules source = go (rules_of source) (text-named source) where
  go : (r : Result (List Rule) RuleFault) → IfRules r → Each Named (or_none r)
  go (Err fault) named = tt
  go (Ok rules) named = named

filter-named : (o : Option FilterRow) → Each Named (filter_rules o)
filter-named None = tt
filter-named (Some filter) = text-rules filter.source

short : (text : List ℕ) → is_name text ≡ true → length text ≤ 32
short text named = grind (arith, named)

-- the classes of a list are short
pub listing_short : (o : Option FilterRow) (docs : List Doc) (entries : List Entry) (rows : List Listed)
    → rows ≡ listing_of (filter_rules o) docs entries → All (λ row. length row.class ≤ 32) rows
listing_short o docs entries rows is =
    All-weaker Classed (λ row. length row.class ≤ 32) (λ row. short row.class) rows
    (subst (All Classed) (sym is) (sorted-named (filter_rules o) docs entries (filter-named o)))

-- a list is refused as a box is
pub list-refuses : (e : Engine) (name : List ℕ) (refusal : Refusal) → RefusedBy (look_refusal e name) refusal → (t : Tables)
    → Represents e t → Refuses refusal (ListOf name) e.session t
list-refuses e name refusal
    by t represents = refused-after _ _ refusal (subst (λ v. RefusedBy v refusal) (box-verdict e t name represents) by)

some-rows : (xs : List Listed) → Some xs ≡ None → ⊥
some-rows xs e = cc

some-same : (xs ys : List Listed) → Some xs ≡ Some ys → xs ≡ ys
some-same xs ys e = cc

-- a list that isn't refused is of a query that there is
pub answers-list : (e : Engine) (t : Tables) (name : List ℕ) (rows : List Listed) → Represents e t → IsSoundFor (ListOf name) t e.session
    → look_refusal e name ≡ None → Some rows ≡ cached_rows e (cached_named e name)
    → Answers t e.session (ListOf name) (Listing name rows) None e.session
answers-list e t name rows represents sound none is = go (query_named (user_of e.session) name t) refl where
  accepted : Answers t e.session (ListOf name)
      (show_list (query_named (user_of e.session) name t) name e.session t).reply (show_list (query_named (user_of e.session) name t) name
      e.session t).change (show_list (query_named (user_of e.session) name t) name e.session t).session
  accepted = answers-accepted t e.session (ListOf name) (sym (box-verdict e t name represents) ∙ none)

  rules : List Rule
  rules = rules_of_user (user_of e.session) t

  kept : Some rows ≡ cached_rows e (option_map (cached_query t) (query_named (user_of e.session) name t))
  kept = is ∙ ap (cached_rows e) (named-is e t name represents)

  go : (o : Option QueryRow) → query_named (user_of e.session) name t ≡ o
      → Answers t e.session (ListOf name) (Listing name rows) None e.session
  go None none' = absurd (some-rows rows (kept ∙ ap (λ o. cached_rows e (option_map (cached_query t) o)) none'))
  go (Some q) some =
      let by-kept : Some rows
      ≡ Some (listing_of (filter_rules (last_filter (user_of e.session) e.filters)) e.index.docs (delivered q.num.0 t)) = kept
      ∙ ap (λ o. cached_rows e (option_map (cached_query t) o)) some in
      let same : rows ≡ listing_of (filter_rules (last_filter (user_of e.session) e.filters)) e.index.docs (delivered q.num.0 t) =
      some-same rows _ by-kept in
      let box = box-is query_truth start_of truth-of-second t q t.queries (find-in (is_query_of (user_of e.session) name) t.queries q some)
      (sound.kept refl).each in
      let whole : rows ≡ listing_of rules t.docs (box_of_query q t) =
      same ∙ ap (λ fs. listing_of (filter_rules (last_filter (user_of e.session) fs)) e.index.docs (delivered q.num.0 t)) represents.filters
      ∙ ap (λ docs. listing_of rules docs (delivered q.num.0 t)) (docs-are represents) ∙ ap (listing_of rules t.docs) box.box in
      record {
        fine = accepted.fine;
        reply_is = ap (Listing name) whole ∙ sym (ap (λ o. (show_list o name e.session t).reply) some) ∙ accepted.reply_is;
        change_is = sym (ap (λ o. (show_list o name e.session t).change) some) ∙ accepted.change_is;
        session_is = sym (ap (λ o. (show_list o name e.session t).session) some) ∙ accepted.session_is;
      }

-- an explanation is refused as a box is
pub lines-refuses : (e : Engine) (name : List ℕ) (refusal : Refusal) → RefusedBy (look_refusal e name) refusal → (t : Tables)
    → Represents e t → Refuses refusal (Explain name) e.session t
lines-refuses e name refusal
    by t represents = refused-after _ _ refusal (subst (λ v. RefusedBy v refusal) (box-verdict e t name represents) by)

some-lines : (xs : List (List ℕ)) → Some xs ≡ None → ⊥
some-lines xs e = cc

lines-same : (xs ys : List (List ℕ)) → Some xs ≡ Some ys → xs ≡ ys
lines-same xs ys e = cc

-- an explanation that isn't refused is of a query that there is
pub answers-lines : (e : Engine) (t : Tables) (name : List ℕ) (lines : List (List ℕ)) → Represents e t → look_refusal e name ≡ None
    → Some lines ≡ cached_lines (cached_named e name) → Answers t e.session (Explain name) (Explained name lines) None e.session
answers-lines e t name lines represents none is = go (query_named (user_of e.session) name t) refl where
  accepted : Answers t e.session (Explain name)
      (show_lines (query_named (user_of e.session) name t) name e.session t).reply (show_lines (query_named (user_of e.session) name t) name
      e.session t).change (show_lines (query_named (user_of e.session) name t) name e.session t).session
  accepted = answers-accepted t e.session (Explain name) (sym (box-verdict e t name represents) ∙ none)

  kept : Some lines ≡ cached_lines (option_map (cached_query t) (query_named (user_of e.session) name t))
  kept = is ∙ ap cached_lines (named-is e t name represents)

  go : (o : Option QueryRow) → query_named (user_of e.session) name t ≡ o
      → Answers t e.session (Explain name) (Explained name lines) None e.session
  go None none' = absurd (some-lines lines (kept ∙ ap (λ o. cached_lines (option_map (cached_query t) o)) none'))
  go (Some q) some =
      let same : lines ≡ lines_of q = lines-same lines (lines_of q) (kept ∙ ap (λ o. cached_lines (option_map (cached_query t) o)) some) in
      record {
        fine = accepted.fine;
        reply_is = ap (Explained name) same ∙ sym (ap (λ o. (show_lines o name e.session t).reply) some) ∙ accepted.reply_is;
        change_is = sym (ap (λ o. (show_lines o name e.session t).change) some) ∙ accepted.change_is;
        session_is = sym (ap (λ o. (show_lines o name e.session t).session) some) ∙ accepted.session_is;
      }
