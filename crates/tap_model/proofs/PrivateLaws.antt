-- What a command tells its user, and what it leaves of the user's view, is the same at two points that look alike.
use Rattle.std.proofs.Common.{◌≡◌, ◌∙◌, sym, ap, refl, subst, ℕ, ◌+◌, ℤ, List, [], ◌∷◌, ◌++◌, length, map, true, false, Option, Some, None}
use Rattle.std.proofs.Common.{inl, inr}
use Rattle.std.specs.Prelude.{◌⊎◌, filter, suc, pos, nat_lt}
use Rattle.std.specs.Option.{option_map, option_or}
use Rattle.std.specs.Str.{bytes_eq}
use Rattle.tap_base.specs.Numbers.{moment_of}
use Rattle.tap_rows.specs.declared.tables.Tables.{Tables}
use Rattle.tap_rows.specs.declared.rows.Doc.{Doc}
use Rattle.tap_rows.specs.declared.rows.QueryRow.{QueryRow}
use Rattle.tap_rows.specs.declared.rows.FilterRow.{FilterRow}
use Rattle.tap_rows.specs.declared.change.Change.TheVariants.{Docs}
use Rattle.tap_rows.specs.Tables.{after}
use Rattle.tap_rows.specs.Results.{Truth, run_moments, is_given}
use Rattle.tap_rows.specs.Deliveries.{next_run}
use Rattle.tap_rows.specs.Kept.{IsOfTheSecond}
use Rattle.tap_rows.proofs.SecondsLaws.{least_second-same}
use Rattle.tap_rows.proofs.Tests.{bytes_itself}
use Rattle.tap_base.specs.declared.moments.TheConstants.{LAST_MOMENT}
use Rattle.tql_core.specs.Holds as Holds
use Rattle.tql_core.proofs.OfTheSecond.{of-the-second}
use Rattle.filter_rules.specs.Rules.{Rule}
use Rattle.mail_fields.specs.Digests.{digested, digest_lines}
use Rattle.filter_rules.specs.Listings.{listing_of}
use Rattle.script_lang.specs.declared.command.Command.{Command}
use Rattle.script_lang.specs.declared.command.Command.TheVariants.{At, AsUser, Mail, Mbox, AddNote, Define, Run, BoxOf, ListOf, Filter}
use Rattle.script_lang.specs.declared.command.Command.TheVariants.{Explain, Ask, Wake, ScoresOf, DigestOf, Find, Bad}
use Rattle.script_lang.specs.declared.lookup.Lookup.{Lookup}
use Rattle.script_lang.specs.declared.lookup.Lookup.TheVariants.{ShowDoc, ListNotes, ListQueries, Count}
use Rattle.script_lang.specs.declared.lookup.Found.TheVariants.{UserQueries, Counts}
use Rattle.script_lang.specs.declared.refusal.Refusal.{Refusal}
use Rattle.script_lang.specs.declared.reply.Reply.{Reply}
use Rattle.script_lang.specs.declared.reply.Reply.TheVariants.{Ran, BoxOf as Boxed, ListOf as Listing, Explain as Explained, Asked, No}
use Rattle.script_lang.specs.declared.reply.Reply.TheVariants.{Wake as Woken, DigestOf as Digest, Found}
use Rattle.restart_core.specs.Starts.{stored_source}
use Rattle.tap_model.specs.declared.session.Session.{Session}
use Rattle.tap_model.specs.Sessions.{or_zero, moment_or_zero, user_of, greatest_moment, last_moment}
use Rattle.tap_model.specs.Queries.{condition_in, query_named, owned_queries, hits_of, box_of_query}
use Rattle.tap_model.specs.Lookups.{query_line}
use Rattle.tap_model.specs.Filters.{last_filter, filter_rules, rules_in_text, rules_of_user}
use Rattle.tap_model.specs.Verdicts.{verdict, block_text, messages_of}
use Rattle.tap_model.specs.Replies.{Answer, answer_of, answer_by, accepted, tables_after, set_moment, next_query, next_filter, run_query}
use Rattle.tap_model.specs.Replies.{show_box, show_list, show_lines, show_wake, show_digest, entries_in_run, some_docs, next_docs, ask_at}
use Rattle.tap_model.specs.Replies.{add_query, add_filter, look_up}
use Rattle.tap_model.specs.Sound.{IsSound}
use Rattle.tap_model.specs.Wakes.{does_deliver, wake_moment}
use Rattle.tap_model.specs.Privacy.{concerns}
use Rattle.tap_model.proofs.ViewLaws.{Core, core_of, cores, source_in, Brief, brief_of, core_hits, core_entries, core_lines, core_line}
use Rattle.tap_model.proofs.ViewLaws.{hits-core, box-core, lines-core, each-line-core}
use Rattle.tap_model.proofs.CoreLaws.{cores-new, with_run, cores-run, filter-own}
use Rattle.tap_model.proofs.AlikeLaws.{IsShared, twin, AreTwins, own-twins, user-is, found-same, verdict-alike}

-- what a user is told, and what is left of the view
pub record Told : Type 0 where
  pub reply : Reply
  pub brief : Brief

abbrev pub told : List ℕ → Tables → Answer → Told
told user tables answer = record { reply = answer.reply; brief = brief_of user answer.session (tables_after answer.change tables) }

abbrev tell : Reply → Brief → Told
tell reply brief = record { reply = reply; brief = brief }

told-same : (r r' : Reply) (b b' : Brief) → r ≡ r' → b ≡ b' → tell r b ≡ tell r' b'
told-same r r' b b' e f = rw (e, f) refl

abbrev briefly : Tables → Session → List Core → Option (List ℕ) → Brief
briefly t s queries filter = record { docs = t.docs; notes = t.notes; queries = queries; filter = filter; moment = s.moment }

brief-twins : (t : Tables) (s : Session) (qs qs' : List Core) (f f' : Option (List ℕ)) → qs ≡ qs' → f ≡ f'
    → briefly t s qs f ≡ briefly t s qs' f'
brief-twins t s qs qs' f f' q e = rw (q, e) refl

-- nothing moves but documents, notes and the moment, alike at both
still : (user : List ℕ) (t o d : Tables) (s : Session) (reply : Reply) → AreTwins user t o
    → tell reply (briefly d s (cores user t.runs t.queries) (source_in t user))
    ≡ tell reply (briefly d s (cores user o.runs o.queries) (source_in o user))
still user t o d s reply twins = told-same reply reply _ _ refl (brief-twins d s _ _ _ _ twins.queries twins.filter)

-- the same reply, and nothing moves
answered : (user : List ℕ) (t o : Tables) (s : Session) (reply reply' : Reply) → AreTwins user t o → reply ≡ reply'
    → tell reply (brief_of user s t) ≡ tell reply' (brief_of user s (twin t o))
answered user t o s reply reply' twins same = told-same reply reply' _ _ same (brief-twins t s _ _ _ _ twins.queries twins.filter)

at-told : (user : List ℕ) (t o : Tables) (s : Session) (moment : Option ℤ) → AreTwins user t o
    → told user t (set_moment moment s) ≡ told user (twin t o) (set_moment moment s)
at-told user t o s None twins = still user t o t s _ twins
at-told user t o s (Some m) twins = still user t o t (record s { moment = Some m }) _ twins

define-told : (user name source : List ℕ) (t o : Tables) (s : Session) → AreTwins user t o → IsSound t s → IsSound (twin t o) s
    → user_of s ≡ user
    → told user t (add_query name source s t) ≡ told user (twin t o) (add_query name source s (twin t o))
define-told user name source t o s twins sound sound' is =
    let own : bytes_eq (user_of s) user ≡ true = subst (λ u. bytes_eq (user_of s) u ≡ true) is (bytes_itself (user_of s)) in
    let new : Core = record { name = name; source = stored_source source; arrival = moment_or_zero s; runs = [] } in
    let queries : cores user t.runs (t.queries ++ next_query t s name (stored_source source) ∷ [])
    ≡ cores user o.runs (o.queries ++ next_query (twin t o) s name (stored_source source) ∷ []) =
    cores-new user t (next_query t s name (stored_source source)) sound.kept refl own
    ∙ ap (λ cs. cs ++ new ∷ []) twins.queries
    ∙ sym (cores-new user (twin t o) (next_query (twin t o) s name (stored_source source)) sound'.kept refl own) in
    told-same _ _ _ _ refl (brief-twins t s _ _ _ _ queries twins.filter)

core-same : (c d : Core) → Some c ≡ Some d → c ≡ d
core-same c d e = cc

some-core : (c : Core) → Some c ≡ None → ⊥
some-core c e = cc

core-some : (c : Core) → None ≡ Some c → ⊥
core-some c e = cc

box-same : (t o : Tables) (q p : QueryRow) → core_of t.runs q ≡ core_of o.runs p → box_of_query q t ≡ box_of_query p (twin t o)
box-same t o q p same = box-core q t ∙ ap (core_entries t.docs t.notes) same ∙ sym (box-core p (twin t o))

run-one : (user name : List ℕ) (t o : Tables) (s : Session) (q p : QueryRow) → AreTwins user t o → IsSound t s → IsSound (twin t o) s
    → query_named user name t ≡ Some q → query_named user name o ≡ Some p → core_of t.runs q ≡ core_of o.runs p
    → told user t (run_query (Some q) s t) ≡ told user (twin t o) (run_query (Some p) s (twin t o))
run-one user name t o s q p twins sound sound' is is' same =
    let hits : hits_of q t (moment_or_zero s) ≡ hits_of p (twin t o) (moment_or_zero s) = hits-core q t (moment_or_zero s)
    ∙ ap (λ c. core_hits t.docs t.notes c (moment_or_zero s)) same ∙ sym (hits-core p (twin t o) (moment_or_zero s)) in
    let ordinal : length (run_moments q.num.0 t.runs) + 1 ≡ length (run_moments p.num.0 o.runs) + 1 =
    ap (λ (c : Core). length c.runs + 1) same in
    let queries : cores user (t.runs ++ next_run t q.num (moment_or_zero s) ∷ []) t.queries
    ≡ cores user (o.runs ++ next_run (twin t o) p.num (moment_or_zero s) ∷ []) o.queries =
    cores-run user name t.runs (next_run t q.num (moment_or_zero s)) 1 t.queries q sound.kept.queries is refl
    ∙ ap (with_run name (moment_or_zero s)) twins.queries
    ∙ sym (cores-run user name o.runs (next_run (twin t o) p.num (moment_or_zero s)) 1 o.queries p sound'.kept.queries is' refl) in
    told-same _ _ _ _ (ap (λ n. Ran n (moment_or_zero s) (hits_of q t (moment_or_zero s))) ordinal
    ∙ ap (Ran (length (run_moments p.num.0 o.runs) + 1) (moment_or_zero s)) hits) (brief-twins t s _ _ _ _ queries twins.filter)

run-told : (user name : List ℕ) (t o : Tables) (s : Session) (q p : Option QueryRow) → AreTwins user t o → IsSound t s
    → IsSound (twin t o) s → query_named user name t ≡ q → query_named user name o ≡ p
    → option_map (core_of t.runs) q ≡ option_map (core_of o.runs) p
    → told user t (run_query q s t) ≡ told user (twin t o) (run_query p s (twin t o))
run-told user name t o s None None twins sound sound' is is' same = answered user t o s _ _ twins refl
run-told user name t o s (Some q) (Some p) twins sound sound' is is' same =
    run-one user name t o s q p twins sound sound' is is' (core-same (core_of t.runs q) (core_of o.runs p) same)
run-told user name t o s (Some q) None twins sound sound' is is' same = absurd (some-core (core_of t.runs q) same)
run-told user name t o s None (Some p) twins sound sound' is is' same = absurd (core-some (core_of o.runs p) same)

box-told : (user name : List ℕ) (t o : Tables) (s : Session) (q p : Option QueryRow) → AreTwins user t o
    → option_map (core_of t.runs) q ≡ option_map (core_of o.runs) p
    → told user t (show_box q name s t) ≡ told user (twin t o) (show_box p name s (twin t o))
box-told user name t o s None None twins same = answered user t o s _ _ twins refl
box-told user name t o s (Some q) (Some p) twins same =
    answered user t o s _ _ twins (ap (Boxed name) (box-same t o q p (core-same (core_of t.runs q) (core_of o.runs p) same)))
box-told user name t o s (Some q) None twins same = absurd (some-core (core_of t.runs q) same)
box-told user name t o s None (Some p) twins same = absurd (core-some (core_of o.runs p) same)

abbrev source_rules : Option (List ℕ) → List Rule
source_rules None = []
source_rules (Some source) = rules_in_text source

rules-of : (filter : Option FilterRow) → filter_rules filter ≡ source_rules (option_map (λ filter. filter.source) filter)
rules-of None = refl
rules-of (Some filter) = refl

rules-same : (user : List ℕ) (t o : Tables) → AreTwins user t o → rules_of_user user t ≡ rules_of_user user o
rules-same user t o twins = rules-of (last_filter user t.filters) ∙ ap source_rules twins.filter
    ∙ sym (rules-of (last_filter user o.filters))

list-told : (user name : List ℕ) (t o : Tables) (s : Session) (q p : Option QueryRow) → AreTwins user t o → user_of s ≡ user
    → option_map (core_of t.runs) q ≡ option_map (core_of o.runs) p
    → told user t (show_list q name s t) ≡ told user (twin t o) (show_list p name s (twin t o))
list-told user name t o s None None twins own same = answered user t o s _ _ twins refl
list-told user name t o s (Some q) (Some p) twins own same =
    let entries : box_of_query q t ≡ box_of_query p (twin t o) = box-same t o q p (core-same (core_of t.runs q) (core_of o.runs p) same) in
    let rules : rules_of_user (user_of s) t ≡ rules_of_user (user_of s) o =
    subst (λ u. rules_of_user u t ≡ rules_of_user u o) (sym own) (rules-same user t o twins) in
    answered user t o s _ _ twins (ap (λ rules. Listing name (listing_of rules t.docs (box_of_query q t))) rules
    ∙ ap (λ entries. Listing name (listing_of (rules_of_user (user_of s) o) t.docs entries)) entries)
list-told user name t o s (Some q) None twins own same = absurd (some-core (core_of t.runs q) same)
list-told user name t o s None (Some p) twins own same = absurd (core-some (core_of o.runs p) same)

lines-told : (user name : List ℕ) (t o : Tables) (s : Session) (q p : Option QueryRow) → AreTwins user t o
    → option_map (core_of t.runs) q ≡ option_map (core_of o.runs) p
    → told user t (show_lines q name s t) ≡ told user (twin t o) (show_lines p name s (twin t o))
lines-told user name t o s None None twins same = answered user t o s _ _ twins refl
lines-told user name t o s (Some q) (Some p) twins same =
    answered user t o s _ _ twins (ap (Explained name)
    (lines-core q t.runs ∙ ap core_lines (core-same (core_of t.runs q) (core_of o.runs p) same) ∙ sym (lines-core p o.runs)))
lines-told user name t o s (Some q) None twins same = absurd (some-core (core_of t.runs q) same)
lines-told user name t o s None (Some p) twins same = absurd (core-some (core_of o.runs p) same)

wake-same : (t o : Tables) (q p : QueryRow) (now : ℤ) → core_of t.runs q ≡ core_of o.runs p
    → wake_moment q t now ≡ wake_moment p (twin t o) now
unfolding wake_moment
wake-same t o q p now same =
    least_second-same (does_deliver q t) (does_deliver p (twin t o)) now (pos (suc LAST_MOMENT))
    (λ moment low high.
    ap (λ hits. nat_lt 0 (length hits))
    (hits-core q t moment ∙ ap (λ c. core_hits t.docs t.notes c moment) same ∙ sym (hits-core p (twin t o) moment)))

wake-told : (user name : List ℕ) (t o : Tables) (s : Session) (q p : Option QueryRow) → AreTwins user t o
    → option_map (core_of t.runs) q ≡ option_map (core_of o.runs) p
    → told user t (show_wake q name s t) ≡ told user (twin t o) (show_wake p name s (twin t o))
wake-told user name t o s None None twins same = answered user t o s _ _ twins refl
wake-told user name t o s (Some q) (Some p) twins same =
    answered user t o s _ _ twins
    (ap (Woken name) (wake-same t o q p (moment_or_zero s) (core-same (core_of t.runs q) (core_of o.runs p) same)))
wake-told user name t o s (Some q) None twins same = absurd (some-core (core_of t.runs q) same)
wake-told user name t o s None (Some p) twins same = absurd (core-some (core_of o.runs p) same)

digest-told : (user name : List ℕ) (ordinal : ℕ) (t o : Tables) (s : Session) (q p : Option QueryRow) → AreTwins user t o
    → option_map (core_of t.runs) q ≡ option_map (core_of o.runs) p
    → told user t (show_digest q name ordinal s t) ≡ told user (twin t o) (show_digest p name ordinal s (twin t o))
digest-told user name ordinal t o s None None twins same = answered user t o s _ _ twins refl
digest-told user name ordinal t o s (Some q) (Some p) twins same =
    answered user t o s _ _ twins
    (ap (λ entries. Digest name ordinal (digest_lines name ordinal (digested t.docs (entries_in_run ordinal entries))))
    (box-same t o q p (core-same (core_of t.runs q) (core_of o.runs p) same)))
digest-told user name ordinal t o s (Some q) None twins same = absurd (some-core (core_of t.runs q) same)
digest-told user name ordinal t o s None (Some p) twins same = absurd (core-some (core_of o.runs p) same)

docs-told : (user : List ℕ) (t o : Tables) (s : Session) (reply : Reply) (docs : List Doc) → AreTwins user t o
    → told user t (record { reply = reply; session = s; change = some_docs docs })
    ≡ told user (twin t o) (record { reply = reply; session = s; change = some_docs docs })
docs-told user t o s reply [] twins = still user t o t s reply twins
docs-told user t o s reply (doc ∷ docs) twins = still user t o (after t (Docs (doc ∷ docs))) s reply twins

filter-told : (user source : List ℕ) (t o : Tables) (s : Session) → AreTwins user t o → user_of s ≡ user
    → told user t (add_filter source s t) ≡ told user (twin t o) (add_filter source s (twin t o))
filter-told user source t o s twins is =
    let own : bytes_eq (user_of s) user ≡ true = subst (λ u. bytes_eq (user_of s) u ≡ true) is (bytes_itself (user_of s)) in
    let last : option_map (λ filter. filter.source) (last_filter user (t.filters ++ next_filter t s source ∷ []))
    ≡ option_map (λ filter. filter.source) (last_filter user (o.filters ++ next_filter (twin t o) s source ∷ [])) =
    ap (option_map (λ filter. filter.source)) (filter-own user t.filters (next_filter t s source) own)
    ∙ sym (ap (option_map (λ filter. filter.source)) (filter-own user o.filters (next_filter (twin t o) s source) own)) in
    told-same _ _ _ _ refl (brief-twins t s _ _ _ _ twins.queries last)

snapshot-same : (truth : Truth) (t o : Tables) (second : ℤ) (docs : List Doc) → IsOfTheSecond truth
    → filter (λ doc. is_given truth t doc second) docs ≡ filter (λ doc. is_given truth (twin t o) doc second) docs
snapshot-same truth t o second [] causal = refl
snapshot-same truth t o second (doc ∷ docs) causal =
    rw (causal t (twin t o) doc second refl refl, snapshot-same truth t o second docs causal) refl

ask-told : (user source : List ℕ) (t o : Tables) (s : Session) (second : Option ℤ) → AreTwins user t o
    → told user t (ask_at second source s t) ≡ told user (twin t o) (ask_at second source s (twin t o))
ask-told user source t o s None twins = answered user t o s _ _ twins refl
ask-told user source t o s (Some second) twins =
    answered user t o s _ _ twins (ap (λ docs. Asked second (map (λ doc. doc.num) docs))
    (snapshot-same (Holds.truth_of (condition_in source)) t o second t.docs (of-the-second (condition_in source))))

no-true : false ≡ true → ⊥
no-true e = cc

-- the lines of the user's queries
queries-same : (user : List ℕ) (t o : Tables) → AreTwins user t o
    → map (query_line t) (owned_queries user t) ≡ map (query_line (twin t o)) (owned_queries user (twin t o))
queries-same user t o twins =
    each-line-core t (owned_queries user t) ∙ ap (map (core_line t.docs t.notes)) twins.queries
    ∙ sym (each-line-core (twin t o) (owned_queries user (twin t o)))

-- a look-up, once there is a moment
lookup-told : (lookup : Lookup) (user : List ℕ) (s : Session) (t o : Tables) (m : ℤ) → s.moment ≡ Some m → user_of s ≡ user
    → AreTwins user t o
    → told user t (look_up lookup s t) ≡ told user (twin t o) (look_up lookup s (twin t o))
lookup-told (ShowDoc num) user s t o m at own twins = answered user t o s _ _ twins refl
lookup-told (ListNotes num) user s t o m at own twins = answered user t o s _ _ twins refl
lookup-told ListQueries user s t o m at own twins =
    answered user t o s _ _ twins
    (ap (Found UserQueries) (subst (λ u. map (query_line t) (owned_queries u t) ≡ map (query_line (twin t o)) (owned_queries u (twin t o)))
    (sym own) (queries-same user t o twins)))
lookup-told Count user s t o m at own twins =
    let last : last_moment s t ≡ last_moment s (twin t o) = ap (λ x. option_or x (greatest_moment t)) at
    ∙ sym (ap (λ x. option_or x (greatest_moment (twin t o))) at) in
    answered user t o s _ _ twins (ap (λ moment. Found (Counts (length t.docs) (length t.notes) (or_zero moment)) []) last)

-- what is accepted
accepted-told : (c : Command) (user : List ℕ) (s : Session) (t o : Tables) (m : ℤ) → s.moment ≡ Some m → concerns user s c ≡ true
    → AreTwins user t o → IsSound t s → IsSound (twin t o) s → told user t (accepted c s t) ≡ told user (twin t o) (accepted c s (twin t o))
accepted-told (At text) user s t o m at by twins sound sound' = at-told user t o s (moment_of text) twins
accepted-told (AsUser name) user s t o m at by twins sound sound' = absurd (no-true by)
accepted-told (Mail block) user s t o m at
    by twins sound sound' = still user t o (tables_after (accepted (Mail block) s t).change t) s _ twins
accepted-told (Mbox block) user s t o m at
    by twins sound sound' = docs-told user t o s _ (next_docs t (moment_or_zero s) (messages_of block)) twins
accepted-told (AddNote doc kind value text) user s t o m at
    by twins sound sound' = still user t o (tables_after (accepted (AddNote doc kind value text) s t).change t) s _ twins
accepted-told (Define name source) user s t o m at
    by twins sound sound' = define-told user name source t o s twins sound sound' (user-is user s by)
accepted-told (Run name) user s t o m at by twins sound sound' =
    subst (λ u. told user t (run_query (query_named u name t) s t) ≡ told user (twin t o) (run_query (query_named u name o) s (twin t o)))
    (sym (user-is user s by)) (run-told user name t o s (query_named user name t) (query_named user name o) twins sound sound' refl refl
    (found-same user name t o twins))
accepted-told (BoxOf name) user s t o m at by twins sound sound' =
    box-told user name t o s (query_named (user_of s) name t) (query_named (user_of s) name o) twins
    (found-same (user_of s) name t o (own-twins user s t o by twins))
accepted-told (ListOf name) user s t o m at by twins sound sound' =
    list-told user name t o s (query_named (user_of s) name t) (query_named (user_of s) name o) twins (user-is user s by)
    (found-same (user_of s) name t o (own-twins user s t o by twins))
accepted-told (Filter block) user s t o m at by twins sound sound' = filter-told user (block_text block) t o s twins (user-is user s by)
accepted-told (Explain name) user s t o m at by twins sound sound' =
    lines-told user name t o s (query_named (user_of s) name t) (query_named (user_of s) name o) twins
    (found-same (user_of s) name t o (own-twins user s t o by twins))
accepted-told (Ask moment source) user s t o m at by twins sound sound' = ask-told user source t o s (moment_of moment) twins
accepted-told (Wake name) user s t o m at by twins sound sound' =
    wake-told user name t o s (query_named (user_of s) name t) (query_named (user_of s) name o) twins
    (found-same (user_of s) name t o (own-twins user s t o by twins))
accepted-told (ScoresOf kind) user s t o m at by twins sound sound' = still user t o t s _ twins
accepted-told (DigestOf name ordinal) user s t o m at by twins sound sound' =
    digest-told user name ordinal t o s (query_named (user_of s) name t) (query_named (user_of s) name o) twins
    (found-same (user_of s) name t o (own-twins user s t o by twins))
accepted-told (Find lookup) user s t o m at by twins sound sound' = lookup-told lookup user s t o m at (user-is user s by) twins
accepted-told (Bad refusal) user s t o m at by twins sound sound' = still user t o t s _ twins

-- the answer by a verdict
pub told-alike : (c : Command) (user : List ℕ) (s : Session) (t o : Tables) (m : ℤ) → s.moment ≡ Some m → concerns user s c ≡ true
    → AreTwins user t o → IsSound t s → IsSound (twin t o) s
    → IsShared (verdict c s t)
    ⊎ (IsShared (verdict c s (twin t o)) ⊎ (told user t (answer_of c s t) ≡ told user (twin t o) (answer_of c s (twin t o))))
told-alike c user s t o m at by twins sound sound' = elim (verdict-alike c user s t o m at by twins) [
  | inl shared ↦ inl shared
  | inr other ↦ elim other [
    | inl shared ↦ inr (inl shared)
    | inr same ↦ inr (inr (go (verdict c s t) ∙ ap (λ v. told user (twin t o) (answer_by v c s (twin t o))) same))
  ]
]
  where
    go : (v : Option Refusal) → told user t (answer_by v c s t) ≡ told user (twin t o) (answer_by v c s (twin t o))
    go None = accepted-told c user s t o m at by twins sound sound'
    go (Some refusal) = still user t o t s (No refusal) twins
