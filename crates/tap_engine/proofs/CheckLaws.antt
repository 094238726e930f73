-- What the engine finds of a command's checks is what its verdict says.
use Rattle.std.proofs.Common.{◌≡◌, ◌∙◌, sym, refl, ap, subst, ℕ, suc, List, [], ◌∷◌, ◌+◌, length, map, Option, Some, None, inl}
use Rattle.std.proofs.Common.{inr}
use Rattle.std.specs.Prelude.{ℤ, ◌≤ℤ◌, ◌⊎◌, is_none, find, filter}
use Rattle.std.specs.Option.{option_map, option_or}
use Rattle.std.specs.Str.{bytes_eq}
use Rattle.std.proofs.lemmas.Bool.{cases_Bool}
use Rattle.std.proofs.lemmas.List.{length-map}
use Rattle.tap_rows.specs.declared.tables.Tables.{Tables}
use Rattle.tap_rows.specs.declared.rows.QueryRow.{QueryRow}
use Rattle.tap_rows.specs.declared.results.Hit.{Hit}
use Rattle.tql_text.specs.declared.fault.TextFault.TheVariants as T
use Rattle.tap_model.proofs.AnswerLaws.{some-none, find-in, truth-of-second}
use Rattle.tap_kept.proofs.PlanLaws.{covered-each}
use Rattle.tap_engine.proofs.ReadyLaws.{some-moment}
use Rattle.tap_model.proofs.SoundLaws.{sound-asked}
use Rattle.tap_model.proofs.WindowLaws.{run-of-sound}
use Rattle.tap_rows.specs.Kept.{In}
use Rattle.script_lang.specs.declared.refusal.Refusal.{Refusal}
use Rattle.script_lang.specs.declared.refusal.Refusal.TheVariants.{NoQuery, NoMoment, Taken, Memory}
use Rattle.script_lang.specs.declared.refusal.LimitName.TheVariants.{Runs, Picks}
use Rattle.script_lang.specs.declared.command.Command.TheVariants.{Define, Run, BoxOf}
use Rattle.tap_model.specs.Limits.{run_limit, pick_limit}
use Rattle.tap_model.specs.declared.session.Session.{Session}
use Rattle.tap_engine.specs.declared.engine.Engine.{Engine}
use Rattle.tap_model.specs.Sessions.{or_zero, user_of, moment_or_zero}
use Rattle.tap_kept.specs.declared.cached_query.CachedQuery.{CachedQuery}
use Rattle.tap_model.specs.Queries.{query_named, query_truth, start_of, hits_of}
use Rattle.tap_rows.specs.WellFormed.{is_query_of}
use Rattle.tap_rows.specs.Results.{covered}
use Rattle.restart_core.specs.Starts.{condition_text, stored_source}
use Rattle.tap_model.specs.Limits.{limit_refusal}
use Rattle.tap_model.specs.Verdicts.{first_refusal, verdict, missing, refuse_unless, no_moment, no_user, bad_name, text_fault, taken}
use Rattle.tap_model.specs.Verdicts.{hits_found}
use Rattle.tap_kept.specs.Keeping.{cached_query, named_in, owned_in, hits_since}
use Rattle.tap_engine.specs.Standing.{Represents, name_refusal, query_limits, early_define, define_refusal, query_refusal, look_refusal}
use Rattle.tap_engine.specs.Standing.{run_refusal, cached_named, cached_hits, cached_entries, RefusedAfter, RefusedBy}
use Rattle.tap_model.specs.Sound.{IsSound, IsSoundFor, IsNow}
use Rattle.tap_model.specs.Stories.{Refuses}
use Rattle.tap_engine.specs.Answering.{Answers}
use Rattle.tap_engine.proofs.UndoLaws.{answers-accepted, refused-after}
use Rattle.tap_model.specs.Replies.{next_query, show_box}
use Rattle.tap_rows.specs.Deliveries.{delivered}
use Rattle.tap_rows.specs.declared.results.Entry.{Entry}
use Rattle.tap_rows.proofs.KeptLaws.{box-is}
use Rattle.script_lang.specs.declared.reply.Reply.TheVariants.{Defined, BoxOf as Boxed}
use Rattle.tap_rows.specs.declared.change.Change.{Change}
use Rattle.tap_rows.specs.declared.change.Change.TheVariants.{OneQuery}
use Rattle.tap_rows.proofs.LaterLaws.{each-in}

named-find : (t : Tables) (owner name : List ℕ) (qs : List QueryRow) → find (λ kept. is_query_of owner name kept.row)
    (map (cached_query t) qs) ≡ option_map (cached_query t) (find (is_query_of owner name) qs)
named-find t owner name [] = refl
named-find t owner name (q ∷ qs) =
    elim (cases_Bool (is_query_of owner name q)) [ inl y ↦ rw y refl | inr n ↦ rw n (named-find t owner name qs) ]

-- a user's query of a name in memory has the row of that name
pub named-kept : (t : Tables) (owner name : List ℕ) (qs : List QueryRow)
    → named_in owner name (map (cached_query t) qs) ≡ option_map (cached_query t) (find (is_query_of owner name) qs)
unfolding named_in
named-kept t owner name qs = named-find t owner name qs

owned-count : (t : Tables) (owner : List ℕ) (qs : List QueryRow)
    → length (filter (λ kept. bytes_eq kept.row.owner owner) (map (cached_query t) qs)) ≡ length (filter (λ q. bytes_eq q.owner owner) qs)
owned-count t owner [] = refl
owned-count t owner (q ∷ qs) =
    elim (cases_Bool (bytes_eq q.owner owner)) [ inl y ↦ rw y (ap suc (owned-count t owner qs)) | inr n ↦ rw n (owned-count t owner qs) ]

pub owned-kept : (t : Tables) (owner : List ℕ) (qs : List QueryRow)
    → owned_in owner (map (cached_query t) qs) ≡ length (filter (λ q. bytes_eq q.owner owner) qs)
unfolding owned_in
owned-kept t owner qs = owned-count t owner qs

none-map : (t : Tables) (o : Option QueryRow) → is_none (option_map (cached_query t) o) ≡ is_none o
none-map t None = refl
none-map t (Some q) = refl

limits-last : (a b c d e : Option Refusal) (rest : List (Option Refusal))
    → option_or a (option_or b (option_or (option_or c d) (option_or e (first_refusal rest)))) ≡ first_refusal (a ∷ b ∷ c ∷ d ∷ e ∷ rest)
limits-last (Some x) b c d e rest = refl
limits-last None (Some x) c d e rest = refl
limits-last None None (Some x) d e rest = refl
limits-last None None None (Some x) e rest = refl
limits-last None None None None (Some x) rest = refl
limits-last None None None None None rest = refl

-- a new query is refused as its verdict says
pub define-verdict : (e : Engine) (t : Tables) (name source : List ℕ) → Represents e t
    → define_refusal e name source ≡ verdict (Define name source) e.session t
unfolding name_refusal query_limits
define-verdict e t name source represents =
    limits-last (no_moment e.session) (no_user e.session) (bad_name name)
    (refuse_unless (is_none (named_in (user_of e.session) name e.queries)) Taken) (text_fault (condition_text source))
    (query_limits e (user_of e.session) (length (stored_source source)))
    ∙ rw (
      represents.queries,
      named-kept t (user_of e.session) name t.queries,
      none-map t (find (is_query_of (user_of e.session) name) t.queries),
      owned-kept t (user_of e.session) t.queries,
      length-map t.queries (cached_query t),
      represents.users,
      represents.owners (user_of e.session),
      represents.bytes,
    ) refl

names-last : (a b c d : Option Refusal) → option_or a (option_or b (option_or c d)) ≡ first_refusal (a ∷ b ∷ c ∷ d ∷ [])
names-last (Some x) b c d = refl
names-last None (Some x) c d = refl
names-last None None (Some x) d = refl
names-last None None None (Some x) = refl
names-last None None None None = refl

-- the checks of a new query before its text is read
early-define : (e : Engine) (t : Tables) (name : List ℕ) → Represents e t
    → early_define e name ≡ first_refusal (no_moment e.session ∷ no_user e.session ∷ bad_name name ∷ taken e.session name t ∷ [])
unfolding name_refusal
early-define e t name represents =
    names-last (no_moment e.session) (no_user e.session) (bad_name name)
    (refuse_unless (is_none (named_in (user_of e.session) name e.queries)) Taken)
    ∙ rw (
      represents.queries,
      named-kept t (user_of e.session) name t.queries,
      none-map t (find (is_query_of (user_of e.session) name) t.queries),
    ) refl

-- a command that is refused by its verdict, or is out of memory
pub define-refuses : (e : Engine) (name source : List ℕ) (refusal : Refusal)
    → RefusedAfter (early_define e name) (define_refusal e name source) refusal → (t : Tables) → Represents e t
    → Refuses refusal (Define name source) e.session t
define-refuses e name source refusal by t represents =
    refused-after _ _ refusal
    (subst (λ x. RefusedAfter x (verdict (Define name source) e.session t) refusal) (early-define e t name represents)
    (subst (λ v. RefusedAfter (early_define e name) v refusal) (define-verdict e t name source represents) by))

-- the user's query of this name in memory
pub named-is : (e : Engine) (t : Tables) (name : List ℕ) → Represents e t
    → cached_named e name ≡ option_map (cached_query t) (query_named (user_of e.session) name t)
named-is e t name represents = rw represents.queries (named-kept t (user_of e.session) name t.queries)

pub missing-map : (t : Tables) (o : Option QueryRow) → missing NoQuery (option_map (cached_query t) o) ≡ missing NoQuery o
missing-map t None = refl
missing-map t (Some q) = refl

some-entries : (xs : List Entry) → Some xs ≡ None → ⊥
some-entries xs e = cc

some-same : (xs ys : List Entry) → Some xs ≡ Some ys → xs ≡ ys
some-same xs ys e = cc

three : (a b c : Option Refusal) → option_or a (option_or b c) ≡ first_refusal (a ∷ b ∷ c ∷ [])
three (Some x) b c = refl
three None (Some y) c = refl
three None None (Some z) = refl
three None None None = refl

six : (a b c d e f : Option Refusal)
    → option_or a (option_or (option_or b (option_or c d)) (option_or e f)) ≡ first_refusal (a ∷ b ∷ c ∷ d ∷ e ∷ f ∷ [])
six (Some x) b c d e f = refl
six None (Some x) c d e f = refl
six None None (Some x) d e f = refl
six None None None (Some x) e f = refl
six None None None None (Some x) f = refl
six None None None None None (Some x) = refl
six None None None None None None = refl

-- a box is refused as its verdict says
pub box-verdict : (e : Engine) (t : Tables) (name : List ℕ) → Represents e t → look_refusal e name ≡ verdict (BoxOf name) e.session t
unfolding look_refusal
box-verdict e t name represents =
    ap (λ o. option_or (no_user e.session) (option_or (bad_name name) (missing NoQuery o))) (named-is e t name represents)
    ∙ ap (λ c. option_or (no_user e.session) (option_or (bad_name name) c)) (missing-map t (query_named (user_of e.session) name t))
    ∙ three (no_user e.session) (bad_name name) (missing NoQuery (query_named (user_of e.session) name t))

pub box-refuses : (e : Engine) (name : List ℕ) (refusal : Refusal) → RefusedBy (look_refusal e name) refusal → (t : Tables) → Represents e t
    → Refuses refusal (BoxOf name) e.session t
box-refuses e name refusal
    by t represents = refused-after _ _ refusal (subst (λ v. RefusedBy v refusal) (box-verdict e t name represents) by)

-- what a run of a query delivers, by what is in memory
pub hits-of-query : (e : Engine) (t : Tables) (q : QueryRow) → Represents e t → IsSound t e.session → In q t.queries
    → (e.session.moment ≡ None → ⊥) → cached_hits e (Some (cached_query t q)) ≡ hits_of q t (moment_or_zero e.session)
hits-of-query e t q represents sound has there =
    ap (λ rows. hits_since (cached_query t q) rows (moment_or_zero e.session)) represents.rows
    ∙ run-of-sound t e.session q (moment_or_zero e.session) sound has (go e.session.moment refl sound.now) where
      go : (o : Option ℤ) → e.session.moment ≡ o → IsNow o t → covered (start_of q) q.num.0 t.runs ≤ℤ moment_or_zero e.session
      go None none now = absurd (there none)
      go (Some m) is now =
          subst (λ z. covered (start_of q) q.num.0 t.runs ≤ℤ z) (sym (ap or_zero is))
          (covered-each (λ z. z ≤ℤ m) (start_of q)
          q.num.0 t.runs (each-in (λ query. (query.arrival ≤ℤ m) × (start_of query ≤ℤ m)) t.queries q now.1.queries has).1 now.1.runs)

hits-are : (e : Engine) (t : Tables) (name : List ℕ) → Represents e t → IsSound t e.session → (e.session.moment ≡ None → ⊥)
    → cached_hits e (option_map (cached_query t) (query_named (user_of e.session) name t))
    ≡ hits_found (query_named (user_of e.session) name t) t (moment_or_zero e.session)
hits-are e t name represents sound there = go (query_named (user_of e.session) name t) refl where
  go : (o : Option QueryRow) → query_named (user_of e.session) name t ≡ o
      → cached_hits e (option_map (cached_query t) o) ≡ hits_found o t (moment_or_zero e.session)
  go None is = refl
  go (Some q) is = hits-of-query e t q represents sound (find-in (is_query_of (user_of e.session) name) t.queries q is) there

-- the checks of a run, by what is found of its query
abbrev run_checks : Engine → ℕ → ℕ → Option Refusal → List Hit → Option Refusal
run_checks e runs picks found hits = option_or (no_moment e.session)
    (option_or found (option_or (limit_refusal Runs run_limit runs 1) (limit_refusal Picks pick_limit picks (length hits))))

run-there : (e : Engine) (t : Tables) (name : List ℕ) → Represents e t → IsSound t e.session → (e.session.moment ≡ None → ⊥)
    → run_refusal e name ≡ verdict (Run name) e.session t
unfolding look_refusal
run-there e t name represents sound there =
    let o = query_named (user_of e.session) name t in
    let look : Option CachedQuery → Option Refusal = λ k. option_or (no_user e.session) (option_or (bad_name name) (missing NoQuery k)) in
    ap (λ k. run_checks e e.run_count e.pick_count (look k) (cached_hits e k)) (named-is e t name represents)
    ∙ ap (λ m. run_checks e e.run_count e.pick_count (option_or (no_user e.session) (option_or (bad_name name) m))
    (cached_hits e (option_map (cached_query t) o))) (missing-map t o)
    ∙ ap (run_checks e e.run_count e.pick_count (option_or (no_user e.session) (option_or (bad_name name) (missing NoQuery o))))
    (hits-are e t name represents sound there)
    ∙ ap (λ n. run_checks e n e.pick_count (option_or (no_user e.session) (option_or (bad_name name) (missing NoQuery o)))
    (hits_found o t (moment_or_zero e.session))) represents.run_count
    ∙ ap (λ n. run_checks e (length t.runs) n (option_or (no_user e.session) (option_or (bad_name name) (missing NoQuery o)))
    (hits_found o t (moment_or_zero e.session))) represents.pick_count
    ∙ six (no_moment e.session) (no_user e.session) (bad_name name) (missing NoQuery o) (limit_refusal Runs run_limit (length t.runs) 1)
    (limit_refusal Picks pick_limit (length t.picks) (length (hits_found o t (moment_or_zero e.session))))

-- a run is refused as its verdict says
pub run-verdict : (e : Engine) (t : Tables) (name : List ℕ) → Represents e t → IsSound t e.session
    → run_refusal e name ≡ verdict (Run name) e.session t
run-verdict e t name represents sound = go e.session.moment refl where
  go : (m : Option ℤ) → e.session.moment ≡ m → run_refusal e name ≡ verdict (Run name) e.session t
  go None none =
      let o = query_named (user_of e.session) name t in
      ap (λ m. option_or (missing NoMoment m) (option_or (look_refusal e name) (option_or (limit_refusal Runs run_limit e.run_count 1)
      (limit_refusal Picks pick_limit e.pick_count (length (cached_hits e (cached_named e name))))))) none
      ∙ sym (ap (λ m. first_refusal
      (missing NoMoment m ∷ no_user e.session ∷ bad_name name ∷ missing NoQuery o ∷ limit_refusal Runs run_limit (length t.runs) 1
      ∷ limit_refusal Picks pick_limit (length t.picks) (length (hits_found o t (moment_or_zero e.session))) ∷ [])) none)
  go (Some m) is = run-there e t name represents sound (some-moment e.session.moment m is)

-- a run that isn't refused before its hits are counted
pub run-left : (e : Engine) (name : List ℕ) (kept : CachedQuery) (m : ℤ) (hits : List Hit) → e.session.moment ≡ Some m
    → query_refusal e.session e.queries name ≡ None → limit_refusal Runs run_limit e.run_count 1 ≡ None → cached_named e name ≡ Some kept
    → hits ≡ hits_since kept e.index m → run_refusal e name ≡ limit_refusal Picks pick_limit e.pick_count (length hits)
unfolding look_refusal
run-left e name kept m hits is-m look runs named is-hits =
    let picks : List Hit → Option Refusal = λ hits. limit_refusal Picks pick_limit e.pick_count (length hits) in
    let last = picks (cached_hits e (cached_named e name)) in
    ap (λ o. option_or (missing NoMoment o)
    (option_or (query_refusal e.session e.queries name) (option_or (limit_refusal Runs run_limit e.run_count 1) last))) is-m
    ∙ ap (λ x. option_or x (option_or (limit_refusal Runs run_limit e.run_count 1) last)) look
    ∙ ap (λ x. option_or x last) runs
    ∙ ap (λ k. picks (cached_hits e k)) named
    ∙ ap (λ z. picks (hits_since kept e.index z)) (ap or_zero is-m)
    ∙ sym (ap picks is-hits)

pub run-refuses : (e : Engine) (name : List ℕ) (refusal : Refusal) → RefusedBy (run_refusal e name) refusal → (t : Tables) → Represents e t
    → IsSoundFor (Run name) t e.session → Refuses refusal (Run name) e.session t
run-refuses e name refusal by t represents sound = refused-after _ _ refusal
    (subst (λ v. RefusedBy v refusal) (run-verdict e t name represents (sound-asked (Run name) t e.session refl sound)) by)

-- a query isn't defined without a moment
pub define-moment : (e : Engine) (name source : List ℕ) → define_refusal e name source ≡ None → e.session.moment ≡ None → ⊥
define-moment e name source none no_m = some-none NoMoment (sym (ap (λ m. option_or (missing NoMoment m) (option_or (no_user e.session)
    (option_or (name_refusal e (user_of e.session) name) (option_or (text_fault (condition_text source))
    (first_refusal (query_limits e (user_of e.session) (length (stored_source source)))))))) no_m) ∙ none)

-- a query is defined
pub answers-define : (t : Tables) (s : Session) (name source shown : List ℕ) (n : ℕ) (row : QueryRow) (change : Change) (s' : Session)
    → verdict (Define name source) s t ≡ None → n ≡ length t.queries
    → row ≡ record { num = record { 0 = n + 1 }; owner = user_of s; name = name; source = stored_source source; arrival = moment_or_zero s }
    → shown ≡ row.name → change ≡ OneQuery row → s' ≡ s
    → Answers t s (Define name source) (Defined shown) (Some change) s'
answers-define t s name source shown n row change s' none count is-row is-shown is-change is-s =
    let accepted = answers-accepted t s (Define name source) none in
    let same : row ≡ next_query t s name (stored_source source) = is-row ∙ ap (λ n. record {
      num = record { 0 = n + 1 };
      owner = user_of s;
      name = name;
      source = stored_source source;
      arrival = moment_or_zero s;
    }) count in
    record {
      fine = none;
      reply_is = ap Defined (is-shown ∙ ap (λ r. r.name) same) ∙ accepted.reply_is;
      change_is = ap Some is-change ∙ ap (λ r. Some (OneQuery r)) same ∙ accepted.change_is;
      session_is = is-s ∙ accepted.session_is;
    }

-- a query is refused for its text, or is out of memory, once it isn't refused for its moment, its user or its name
pub text-refused : (e : Engine) (name source : List ℕ) (refusal : Refusal) → no_moment e.session ≡ None → no_user e.session ≡ None
    → None ≡ name_refusal e (user_of e.session) name
    → (text_fault (condition_text source) ≡ Some refusal) ⊎ (refusal ≡ Memory)
    → RefusedAfter (early_define e name) (define_refusal e name source) refusal
text-refused e name source refusal moment user named by =
    let user-is = user_of e.session in
    let limits = first_refusal (query_limits e user-is (length (stored_source source))) in
    let left : (rest : Option Refusal)
    → option_or (no_moment e.session) (option_or (no_user e.session) (option_or (name_refusal e user-is name) rest)) ≡ rest = λ rest.
    ap (λ x. option_or x (option_or (no_user e.session) (option_or (name_refusal e user-is name) rest))) moment
    ∙ ap (λ x. option_or x (option_or (name_refusal e user-is name) rest)) user
    ∙ ap (λ x. option_or x rest) (sym named) in
    elim by [
      | inl refused ↦ inl (left (option_or (text_fault (condition_text source)) limits) ∙ ap (λ x. option_or x limits) refused)
      | inr memory ↦ inr (
        memory,
        ap (λ x. option_or x (option_or (no_user e.session) (name_refusal e user-is name))) moment
            ∙ ap (λ x. option_or x (name_refusal e user-is name)) user ∙ sym named,
      )
    ]

-- a box that isn't refused is of a query that there is
pub answers-box : (e : Engine) (t : Tables) (name : List ℕ) (entries : List Entry) → Represents e t → IsSoundFor (BoxOf name) t e.session
    → look_refusal e name ≡ None → Some entries ≡ cached_entries (cached_named e name)
    → Answers t e.session (BoxOf name) (Boxed name entries) None e.session
answers-box e t name entries represents sound none is = go (query_named (user_of e.session) name t) refl where
  accepted : Answers t e.session (BoxOf name)
      (show_box (query_named (user_of e.session) name t) name e.session t).reply (show_box (query_named (user_of e.session) name t) name
      e.session t).change (show_box (query_named (user_of e.session) name t) name e.session t).session
  accepted = answers-accepted t e.session (BoxOf name) (sym (box-verdict e t name represents) ∙ none)

  kept : Some entries ≡ cached_entries (option_map (cached_query t) (query_named (user_of e.session) name t))
  kept = is ∙ ap cached_entries (named-is e t name represents)

  go : (o : Option QueryRow) → query_named (user_of e.session) name t ≡ o
      → Answers t e.session (BoxOf name) (Boxed name entries) None e.session
  go None none' = absurd (some-entries entries (kept ∙ ap (λ o. cached_entries (option_map (cached_query t) o)) none'))
  go (Some q) some =
      let same : entries ≡ delivered q.num.0 t =
      some-same entries (delivered q.num.0 t) (kept ∙ ap (λ o. cached_entries (option_map (cached_query t) o)) some) in
      let box = box-is query_truth start_of truth-of-second t q t.queries (find-in (is_query_of (user_of e.session) name) t.queries q some)
      (sound.kept refl).each in
      record {
        fine = accepted.fine;
        reply_is = ap (Boxed name) (same ∙ box.box) ∙ sym (ap (λ o. (show_box o name e.session t).reply) some) ∙ accepted.reply_is;
        change_is = sym (ap (λ o. (show_box o name e.session t).change) some) ∙ accepted.change_is;
        session_is = sym (ap (λ o. (show_box o name e.session t).session) some) ∙ accepted.session_is;
      }

-- a query isn't run without a moment
pub run-moment : (e : Engine) (name : List ℕ) → run_refusal e name ≡ None → e.session.moment ≡ None → ⊥
run-moment e name none no_m = some-none NoMoment
    (sym (ap (λ m. option_or (missing NoMoment m) (option_or (look_refusal e name) (option_or (limit_refusal Runs run_limit e.run_count 1)
    (limit_refusal Picks pick_limit e.pick_count (length (cached_hits e (cached_named e name))))))) no_m) ∙ none)
