-- The rows that a command adds stand in order behind those of the tables.
use Rattle.std.proofs.Common.{◌≡◌, sym, ap, refl, subst, arith, ℕ, ◌+◌, ◌≤◌, ℤ, pos, List, [], ◌∷◌, length, Bool, true, false, Option, Some}
use Rattle.std.proofs.Common.{None, if◌then◌else◌}
use Rattle.std.specs.Prelude.{◌==◌, ◌&&◌, ◌≤ℤ◌, not, nat_le, int_le, is_none, find}
use Rattle.std.specs.List.{list_any}
use Rattle.std.proofs.lemmas.Bool.{and_parts, and_from}
use Rattle.std.proofs.lemmas.Int.{ints}
use Rattle.tap_base.specs.Names.{is_name}
use Rattle.tap_base.specs.Numbers.{moment_of}
use Rattle.tap_base.specs.declared.moments.TheConstants.{LAST_MOMENT}
use Rattle.tap_rows.specs.declared.tables.Tables.{Tables}
use Rattle.tap_rows.specs.declared.change.Change.{Change}
use Rattle.tap_rows.specs.declared.change.Change.TheVariants.{Docs, OneNote, OneQuery, OneFilter}
use Rattle.tap_rows.specs.declared.rows.Doc.{Doc}
use Rattle.tap_rows.specs.declared.rows.QueryRow.{QueryRow}
use Rattle.tap_rows.specs.Deliveries.{run_change}
use Rattle.tap_rows.specs.WellFormed.{may_follow, docs_stand, is_query_of}
use Rattle.tap_rows.specs.Fits.{low_of, fits}
use Rattle.tap_rows.specs.Kept.{Each, In, IsKept, IsBy}
use Rattle.tap_rows.proofs.LaterLaws.{each-map}
use Rattle.tap_rows.proofs.Tests.{le_yes}
use Rattle.mail_lines.specs.declared.block.Block.{Block}
use Rattle.mail_lines.specs.declared.block.Block.TheVariants.{Whole, Long}
use Rattle.script_lang.specs.declared.command.Command.{Command}
use Rattle.script_lang.specs.declared.command.Command.TheVariants.{At, AsUser, Mail, Mbox, AddNote, Define, Run, BoxOf, ListOf, Filter}
use Rattle.script_lang.specs.declared.command.Command.TheVariants.{Explain, Ask, Wake, ScoresOf, DigestOf, Find, Bad}
use Rattle.script_lang.specs.declared.refusal.Refusal.{Refusal}
use Rattle.script_lang.specs.declared.refusal.Refusal.TheVariants.{NoMoment, NoUser, BadName, Taken, NoDoc, Limit}
use Rattle.script_lang.specs.declared.refusal.LimitName.TheVariants.{Message}
use Rattle.restart_core.specs.Starts.{stored_source}
use Rattle.tap_model.specs.declared.session.Session.{Session}
use Rattle.tap_model.specs.Sessions.{moment_or_zero, or_zero, or_empty, user_of}
use Rattle.tap_model.specs.Queries.{query_truth, start_of, query_named}
use Rattle.tap_model.specs.Verdicts.{verdict, checks, first_refusal, missing, refuse_unless, bad_name, too_long, are_short, no_doc}
use Rattle.tap_model.specs.Verdicts.{block_text, messages_of}
use Rattle.tap_model.specs.Replies.{Answer, answer_of, answer_by, accepted, set_moment, docs_from, next_docs, some_docs, next_note}
use Rattle.tap_model.specs.Replies.{next_query, next_filter, run_query, show_box, show_list, show_lines, show_wake, show_digest, ask_at}
use Rattle.tap_model.specs.Sound.{IsSoundFor, IsNow, IsUser}
use Rattle.tap_model.proofs.AnswerLaws.{some-none, find-in}
use Rattle.tap_model.proofs.HeldLaws.{moment_or_zero-by}
use Rattle.tap_model.proofs.RowLaws.{some-same, low-by, row-within}
use Rattle.tap_model.proofs.RunFits.{run-fits}
use Rattle.tap_model.specs.Limits.{message_limit}
use Rattle.tap_base.specs.Numbers.{IsMoment}

-- no check refuses
pub all-none : (checks : List (Option Refusal)) → first_refusal checks ≡ None → Each (λ check. check ≡ None) checks
all-none [] e = tt
all-none (None ∷ checks) e = (refl, all-none checks e)
all-none (Some refusal ∷ checks) e = absurd (some-none refusal e)

pub refuse_unless-holds : (b : Bool) (refusal : Refusal) → refuse_unless b refusal ≡ None → b ≡ true
refuse_unless-holds true refusal e = refl
refuse_unless-holds false refusal e = absurd (some-none refusal e)

pub name-is : (name : List ℕ) → bad_name name ≡ None → is_name name ≡ true
unfolding bad_name
name-is name e = refuse_unless-holds (is_name name) BadName e

doc-within : (doc count : ℕ) → no_doc doc count ≡ None → (1 ≤ doc) × (doc ≤ count)
unfolding no_doc
doc-within doc count e =
    let both = and_parts (nat_le 1 doc) (nat_le doc count) (refuse_unless-holds (nat_le 1 doc && nat_le doc count) NoDoc e) in
    (le 1 doc both.0, le doc count both.1) where
      le : (a b : ℕ) → nat_le a b ≡ true → a ≤ b
      le a b e = grind arith

-- the session's user, where there is one
named : (user : Option (List ℕ)) → IsUser user → missing NoUser user ≡ None → is_name (or_empty user) ≡ true
named None is e = absurd (some-none NoUser e)
named (Some name) is e = is

-- the present moment and the rows
at-moment_or_zero : (tables : Tables) (session : Session) → IsNow session.moment tables → missing NoMoment session.moment ≡ None
    → IsMoment (moment_or_zero session) × IsBy start_of (moment_or_zero session) tables
at-moment_or_zero tables session now none =
    let there = moment_or_zero-by session none in
    subst (λ z. IsMoment z × IsBy start_of z tables) (sym (ap or_zero there.is)) (subst (λ moment. IsNow moment tables) there.is now)

same-num : (n : ℕ) → (n == n) ≡ true
same-num n = grind arith

follows : (low m : ℤ) → low ≤ℤ m → m ≤ℤ pos LAST_MOMENT → may_follow low m ≡ true
follows low m le last = and_from _ _ (le_yes low m le) (le_yes m (pos LAST_MOMENT) last)

-- a row of the moment may follow the last of some that it is not below
behind : {A : Type 0} (moment : A → ℤ) (m : ℤ) (rows : List A) → IsMoment m → Each (λ row. moment row ≤ℤ m) rows
    → may_follow (low_of moment rows) m ≡ true
behind moment m rows is by = follows (low_of moment rows) m (low-by moment m rows is.0 by) is.1

-- the rows that an answer adds fit
abbrev Fit : Tables → Answer → Type 0
Fit tables answer = (change : Change) → answer.change ≡ Some change → fits tables change ≡ true

no-change : (change : Change) → None ≡ Some change → ⊥
no-change change e = cc

made : (tables : Tables) (this change : Change) → fits tables this ≡ true → Some this ≡ Some change → fits tables change ≡ true
made tables this change fit e = subst (λ change. fits tables change ≡ true) (some-same this change e) fit

-- documents of the moment, none of them too long
docs-fit : (place : ℕ) (low m : ℤ) (texts : List (List ℕ)) → low ≤ℤ m → m ≤ℤ pos LAST_MOMENT → are_short texts ≡ true
    → docs_stand place low (docs_from place m texts) ≡ true
docs-fit place low m [] le last short = refl
docs-fit place low m (text ∷ texts) le last short =
    let both = and_parts (nat_le (length text) message_limit) (are_short texts) short in
    and_from _ _ (and_from _ _ (and_from _ _ (same-num place) (follows low m le last)) both.0)
    (docs-fit (place + 1) m m texts (omega (arith, ints)) last both.1)

some-fit : (tables : Tables) (docs : List Doc) (change : Change) → fits tables (Docs docs) ≡ true → some_docs docs ≡ Some change
    → fits tables change ≡ true
some-fit tables [] change fit e = absurd (no-change change e)
some-fit tables (doc ∷ docs) change fit e = made tables (Docs (doc ∷ docs)) change fit e

texts-fit : (texts : List (List ℕ)) (session : Session) (tables : Tables) → IsNow session.moment tables → missing NoMoment session.moment
    ≡ None → are_short texts ≡ true → fits tables (Docs (next_docs tables (moment_or_zero session) texts)) ≡ true
texts-fit texts session tables at none short =
    let now = at-moment_or_zero tables session at none in
    docs-fit (length tables.docs + 1) (low_of (λ doc. doc.arrival) tables.docs) (moment_or_zero session) texts
    (low-by (λ doc. doc.arrival) (moment_or_zero session) tables.docs now.0.0 now.1.docs) now.0.1 short

mail-short : (block : Block) → too_long block ≡ None → are_short (block_text block ∷ []) ≡ true
mail-short Long e = refl
mail-short (Whole text) e = and_from _ _ (refuse_unless-holds (nat_le (length text) message_limit) (Limit Message) e) refl

-- a note of the moment on a document that is there
note-fit : (doc : ℕ) (kind : List ℕ) (value : ℤ) (text : List ℕ) (session : Session) (tables : Tables) → IsNow session.moment tables
    → IsUser session.user → missing NoMoment session.moment ≡ None → missing NoUser session.user ≡ None → bad_name kind ≡ None
    → no_doc doc (length tables.docs) ≡ None
    → fits tables (OneNote (next_note tables session doc kind value text)) ≡ true
note-fit doc kind value text session tables at is none user name there =
    let now = at-moment_or_zero tables session at none in
    let within = doc-within doc (length tables.docs) there in
    let arrived = row-within (λ doc. int_le doc.arrival (moment_or_zero session)) tables.docs doc within.0 within.1
    (each-map (λ doc. doc.arrival ≤ℤ moment_or_zero session) (λ doc. int_le doc.arrival (moment_or_zero session) ≡ true)
    tables.docs (λ doc le. le_yes doc.arrival (moment_or_zero session) le) now.1.docs) in
    and_from _ _ (and_from _ _ (and_from _ _ (and_from _ _ (same-num (length tables.notes + 1))
    (behind (λ note. note.arrival) (moment_or_zero session) tables.notes now.0 now.1.notes)) arrived) (named session.user is user))
    (name-is kind name)

-- a query of a name that the user has no query of
none-found : (p : QueryRow → Bool) (queries : List QueryRow) → is_none (find p queries) ≡ true → list_any p queries ≡ false
none-found p [] e = refl
none-found p (query ∷ queries) e = go (p query) refl (none-found p queries) e where
  go : (b : Bool) → p query ≡ b → (is_none (find p queries) ≡ true → list_any p queries ≡ false)
      → is_none (if b then Some query else find p queries) ≡ true → list_any p (query ∷ queries) ≡ false
  go true is rest e = absurd (differ e) where
    differ : false ≡ true → ⊥
    differ e = cc
  go false is rest e = rw is (rest e)

query-fit : (name source : List ℕ) (session : Session) (tables : Tables) → IsNow session.moment tables → IsUser session.user
    → missing NoMoment session.moment ≡ None → missing NoUser session.user ≡ None → bad_name name ≡ None
    → refuse_unless (is_none (query_named (user_of session) name tables)) Taken ≡ None
    → fits tables (OneQuery (next_query tables session name source)) ≡ true
query-fit name source session tables at is none user bad free =
    let now = at-moment_or_zero tables session at none in
    let by = each-map (λ query. (query.arrival ≤ℤ moment_or_zero session) × (start_of query ≤ℤ moment_or_zero session))
    (λ query. query.arrival ≤ℤ moment_or_zero session) tables.queries (λ query le. le.0) now.1.queries in
    let absent = none-found (is_query_of (user_of session) name)
    tables.queries (refuse_unless-holds (is_none (query_named (user_of session) name tables)) Taken free) in
    and_from _ _ (and_from _ _ (and_from _ _ (and_from _ _ (same-num (length tables.queries + 1)) (behind (λ query. query.arrival)
    (moment_or_zero session) tables.queries now.0 by)) (named session.user is user)) (name-is name bad)) (ap not absent)

filter-fit : (source : List ℕ) (session : Session) (tables : Tables) → IsNow session.moment tables → IsUser session.user
    → missing NoMoment session.moment ≡ None → missing NoUser session.user ≡ None
    → fits tables (OneFilter (next_filter tables session source)) ≡ true
filter-fit source session tables at is none user =
    let now = at-moment_or_zero tables session at none in
    and_from _ _ (and_from _ _ (same-num (length tables.filters + 1))
    (behind (λ filter. filter.arrival) (moment_or_zero session) tables.filters now.0 now.1.filters)) (named session.user is user)

-- a run, in which each document is delivered for the first time
run-fit : (session : Session) (tables : Tables) (query : Option QueryRow) → ((q : QueryRow) → query ≡ Some q → In q tables.queries)
    → IsKept query_truth start_of tables → IsNow session.moment tables → missing NoMoment session.moment ≡ None
    → Fit tables (run_query query session tables)
run-fit session tables None has kept at none change e = absurd (no-change change e)
run-fit session tables (Some q) has kept at none change e =
    let now = at-moment_or_zero tables session at none in
    made tables (run_change (query_truth q) (start_of q) tables q.num (moment_or_zero session)) change
    (run-fits query_truth start_of (moment_or_zero session) tables q kept now.1 now.0.0 now.0.1 (has q refl)) e

moment-fit : (second : Option ℤ) (session : Session) (tables : Tables) → Fit tables (set_moment second session)
moment-fit None session tables change e = absurd (no-change change e)
moment-fit (Some second) session tables change e = absurd (no-change change e)

box-fit : (query : Option QueryRow) (name : List ℕ) (session : Session) (tables : Tables) → Fit tables (show_box query name session tables)
box-fit None name session tables change e = absurd (no-change change e)
box-fit (Some q) name session tables change e = absurd (no-change change e)

list-fit : (query : Option QueryRow) (name : List ℕ) (session : Session) (tables : Tables)
    → Fit tables (show_list query name session tables)
list-fit None name session tables change e = absurd (no-change change e)
list-fit (Some q) name session tables change e = absurd (no-change change e)

lines-fit : (query : Option QueryRow) (name : List ℕ) (session : Session) (tables : Tables)
    → Fit tables (show_lines query name session tables)
lines-fit None name session tables change e = absurd (no-change change e)
lines-fit (Some q) name session tables change e = absurd (no-change change e)

wake-fit : (query : Option QueryRow) (name : List ℕ) (session : Session) (tables : Tables)
    → Fit tables (show_wake query name session tables)
wake-fit None name session tables change e = absurd (no-change change e)
wake-fit (Some q) name session tables change e = absurd (no-change change e)

digest-fit : (query : Option QueryRow) (name : List ℕ) (ordinal : ℕ) (session : Session) (tables : Tables)
    → Fit tables (show_digest query name ordinal session tables)
digest-fit None name ordinal session tables change e = absurd (no-change change e)
digest-fit (Some q) name ordinal session tables change e = absurd (no-change change e)

ask-fit : (second : Option ℤ) (source : List ℕ) (session : Session) (tables : Tables) → Fit tables (ask_at second source session tables)
ask-fit None source session tables change e = absurd (no-change change e)
ask-fit (Some second) source session tables change e = absurd (no-change change e)

command-fits : (command : Command) (session : Session) (tables : Tables) → IsSoundFor command tables session
    → Each (λ check. check ≡ None) (checks command session tables) → Fit tables (accepted command session tables)
command-fits (Bad refusal) session tables sound pass change e = absurd (no-change change e)
command-fits (At text) session tables sound pass change e = moment-fit (moment_of text) session tables change e
command-fits (AsUser name) session tables sound pass change e = absurd (no-change change e)
command-fits (Mail block) session tables sound pass change e =
    some-fit tables (next_docs tables (moment_or_zero session) (block_text block ∷ [])) change
    (texts-fit (block_text block ∷ []) session tables sound.now pass.0 (mail-short block pass.1.0)) e
command-fits (Define name source) session tables sound pass change e =
    made tables (OneQuery (next_query tables session name (stored_source source))) change
    (query-fit name (stored_source source) session tables sound.now sound.user pass.0 pass.1.0 pass.1.1.0 pass.1.1.1.0) e
command-fits (Run name) session tables sound pass change e =
    run-fit session tables (query_named (user_of session) name tables) (find-in (is_query_of (user_of session) name) tables.queries)
    (sound.kept refl) sound.now pass.0 change e
command-fits (BoxOf name) session tables sound pass change e =
    box-fit (query_named (user_of session) name tables) name session tables change e
command-fits (Mbox block) session tables sound pass change e =
    some-fit tables (next_docs tables (moment_or_zero session) (messages_of block)) change (texts-fit (messages_of block) session tables
    sound.now pass.0 (refuse_unless-holds (are_short (messages_of block)) (Limit Message) pass.1.0)) e
command-fits (AddNote doc kind value text) session tables sound pass change e =
    made tables (OneNote (next_note tables session doc kind value text)) change
    (note-fit doc kind value text session tables sound.now sound.user pass.0 pass.1.0 pass.1.1.0 pass.1.1.1.0) e
command-fits (ListOf name) session tables sound pass change e =
    list-fit (query_named (user_of session) name tables) name session tables change e
command-fits (Filter block) session tables sound pass change e =
    made tables (OneFilter (next_filter tables session (block_text block))) change
    (filter-fit (block_text block) session tables sound.now sound.user pass.0 pass.1.0) e
command-fits (Explain name) session tables sound pass change e =
    lines-fit (query_named (user_of session) name tables) name session tables change e
command-fits (Ask moment source) session tables sound pass change e = ask-fit (moment_of moment) source session tables change e
command-fits (Wake name) session tables sound pass change e =
    wake-fit (query_named (user_of session) name tables) name session tables change e
command-fits (ScoresOf kind) session tables sound pass change e = absurd (no-change change e)
command-fits (Find lookup) session tables sound pass change e = absurd (no-change change e)
command-fits (DigestOf name ordinal) session tables sound pass change e =
    digest-fit (query_named (user_of session) name tables) name ordinal session tables change e

-- the rows that a command adds at a point that is sound for it fit
pub accepted_fits : (tables : Tables) (session : Session) (command : Command) (change : Change) → IsSoundFor command tables session
    → (answer_of command session tables).change ≡ Some change → fits tables change ≡ true
accepted_fits tables session command change sound = go (verdict command session tables) refl where
  go : (v : Option Refusal) → verdict command session tables ≡ v → (answer_by v command session tables).change ≡ Some change
      → fits tables change ≡ true
  go None none e = command-fits command session tables sound (all-none (checks command session tables) none) change e
  go (Some refusal) is e = absurd (no-change change e)
