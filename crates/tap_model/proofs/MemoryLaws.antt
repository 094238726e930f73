-- No command of a script is answered by `no 18`.
use Rattle.std.proofs.Common.{◌≡◌, ◌∙◌, sym, ap, refl, arith, ℕ, ◌+◌, ℤ, List, [], ◌∷◌, length, Bool, true, false, not, Option, Some, None}
use Rattle.std.proofs.Common.{if◌then◌else◌, inl, inr}
use Rattle.std.specs.Prelude.{◌||◌, ◌==◌, ◌&&◌, nat_le, int_le, int_lt, get_or, codes, Result, Ok, Err}
use Rattle.std.specs.List.{list_all}
use Rattle.std.proofs.lemmas.Bool.{false≢true}
use Rattle.std.proofs.lemmas.List.Folds.{list_all-append}
use Rattle.tap_base.specs.Names.{is_name}
use Rattle.tap_base.specs.Numbers.{moment_of}
use Rattle.tap_rows.specs.declared.tables.Tables.{Tables}
use Rattle.tap_rows.specs.declared.rows.Doc.{Doc}
use Rattle.tap_rows.specs.declared.rows.QueryRow.{QueryRow}
use Rattle.tap_rows.specs.Kept.{Each}
use Rattle.mail_lines.specs.declared.line.Line.{Line}
use Rattle.mail_lines.specs.Lines.{lines}
use Rattle.mail_lines.specs.declared.block.Block.{Block}
use Rattle.mail_lines.specs.declared.block.Block.TheVariants.{Whole, Long}
use Rattle.tql_lex.specs.declared.fault.LexFault.{LexFault}
use Rattle.tql_lex.specs.declared.fault.LexFault.TheVariants as L
use Rattle.tql_lex.specs.declared.token.Token.{Token}
use Rattle.tql_lex.specs.Tokens.{lexed}
use Rattle.tql_tree.specs.Syntax.{Syntax}
use Rattle.tql_parse.specs.declared.fault.ParseFault.{ParseFault}
use Rattle.tql_parse.specs.declared.fault.ParseFault.TheVariants as P
use Rattle.tql_parse.specs.Reading.{query_at}
use Rattle.tql_parse.proofs.GrammarLaws.{read_by_grammar}
use Rattle.tql_core.specs.Condition.{Condition}
use Rattle.tql_types.specs.declared.fault.TypeFault.{TypeFault}
use Rattle.tql_types.specs.declared.fault.TypeFault.TheVariants as Y
use Rattle.tql_types.specs.Core.{typed}
use Rattle.tql_text.specs.Texts.{of_typing, of_tree, of_tokens}
use Rattle.filter_rules.specs.declared.fault.RuleFault.{RuleFault}
use Rattle.filter_rules.specs.declared.fault.RuleFault.TheVariants as R
use Rattle.filter_rules.specs.Rules.{Rule as FilterRule}
use Rattle.filter_rules.specs.RuleTexts.{rules_of}
use Rattle.restart_core.specs.Starts.{condition_text, stored_source}
use Rattle.script_lang.specs.declared.command.Command.{Command}
use Rattle.script_lang.specs.declared.command.Command.TheVariants.{At, AsUser, Mail, Mbox, AddNote, Define, Run, BoxOf, ListOf, Filter}
use Rattle.script_lang.specs.declared.command.Command.TheVariants.{Explain, Ask, Wake, ScoresOf, DigestOf, Find, Bad}
use Rattle.script_lang.specs.declared.lookup.Lookup.{Lookup}
use Rattle.script_lang.specs.declared.lookup.Lookup.TheVariants.{ShowDoc, ListNotes, ListQueries, Count}
use Rattle.script_lang.specs.declared.lookup.Found.{Found}
use Rattle.script_lang.specs.declared.lookup.Found.TheVariants as F
use Rattle.script_lang.specs.declared.refusal.Refusal.{Refusal}
use Rattle.script_lang.specs.declared.refusal.Refusal.TheVariants.{Unknown, Form, Cut, BadMoment, Backwards, NoMoment, NoUser, BadName}
use Rattle.script_lang.specs.declared.refusal.Refusal.TheVariants.{Taken, NoQuery, NoDoc}
use Rattle.script_lang.specs.declared.refusal.Refusal.TheVariants.{Lex, Parse, Types, NotOver, Limit, Rule, ManyRules, Memory, NoRun}
use Rattle.script_lang.specs.declared.refusal.LimitName.{LimitName}
use Rattle.script_lang.specs.declared.refusal.LimitName.TheVariants as N
use Rattle.script_lang.specs.declared.reply.Reply.{Reply}
use Rattle.script_lang.specs.declared.reply.Reply.TheVariants as reply
use Rattle.script_lang.specs.declared.state.State.{State}
use Rattle.script_lang.specs.declared.state.State.TheVariants.{Outside}
use Rattle.script_lang.specs.Script.{commands_of_line, after_line, commands_from, state_after, at_end, script}
use Rattle.script_lang.specs.Proper.{is_of_text, is_proper}
use Rattle.script_lang.specs.Replies.{limit_words, lex_text, parse_text, type_text, refusal_text, found_text, first_text, is_accepted}
use Rattle.tap_model.specs.declared.session.Session.{Session}
use Rattle.tap_model.specs.Limits.{limit_refusal, stored_bytes, owners_in, different, queries_of, new_users}
use Rattle.tap_model.specs.Limits.{message_limit, filter_text_limit, note_text_limit, document_limit, note_limit, run_limit, pick_limit}
use Rattle.tap_model.specs.Limits.{user_query_limit, query_limit, filter_limit, user_limit, store_limit}
use Rattle.tap_model.specs.Sessions.{user_of, last_moment}
use Rattle.tap_model.specs.Queries.{query_named}
use Rattle.tap_model.specs.Verdicts.{first_refusal, missing, refuse_unless, no_moment, no_user, bad_name, reading_refusal, text_fault}
use Rattle.tap_model.specs.Verdicts.{is_back, not_over}
use Rattle.tap_model.specs.Verdicts.{taken, no_query, runs_found, no_run, too_long, messages_of, long_block, bytes_of_all, no_doc}
use Rattle.tap_model.specs.Verdicts.{long_note}
use Rattle.tap_model.specs.Verdicts.{rules_refusal, filter_fault, long_filter, block_text, delivers, lookup_checks, checks, verdict}
use Rattle.tap_model.specs.Lookups.{doc_numbered, shown_doc, lookup_reply}
use Rattle.tap_model.specs.Stories.{StoryStep, GivesUp}
use Rattle.tap_model.specs.Replies.{answer_of, answer_by, accepted, set_moment, run_query, show_box, show_list, show_lines, show_wake}
use Rattle.tap_model.specs.Replies.{show_digest, ask_at}
use Rattle.tap_model.specs.Laws.{AnswersAreNotMemory}
use Rattle.script_lang.proofs.Proper.{commands-proper, end-proper}
use Rattle.tap_model.proofs.FaultLaws.{lexed-fine, typed-fine}

-- the text of the reply out of memory
abbrev no_18 : List ℕ
no_18 = codes "no 18"

-- the byte at a place tells them apart
apart : (text : List ℕ) (place b c : ℕ) → get_or text place 0 ≡ b → get_or no_18 place 0 ≡ c → (b == c) ≡ false → text ≡ no_18 → ⊥
apart text place b c here there other e = other-byte b c other (sym here ∙ ap (λ xs. get_or xs place 0) e ∙ there) where
  other-byte : (b c : ℕ) → (b == c) ≡ false → b ≡ c → ⊥
  other-byte b c other same = grind (arith, other, same)

-- the refusals that are out of memory
abbrev is_memory : Refusal → Bool
is_memory Memory = true
is_memory (Lex L.Memory) = true
is_memory (Parse P.Memory) = true
is_memory (Types Y.Memory) = true
is_memory refusal = false

-- no refusal, or one that isn't out of memory
abbrev fine : Option Refusal → Bool
fine None = true
fine (Some refusal) = not (is_memory refusal)

limit-apart : (name : LimitName) → limit_words name ≡ no_18 → ⊥
limit-apart N.Line e = apart (limit_words N.Line) 4 54 56 refl refl refl e
limit-apart N.Message e = apart (limit_words N.Message) 4 54 56 refl refl refl e
limit-apart N.Block e = apart (limit_words N.Block) 4 54 56 refl refl refl e
limit-apart N.Note e = apart (limit_words N.Note) 4 54 56 refl refl refl e
limit-apart N.Documents e = apart (limit_words N.Documents) 4 54 56 refl refl refl e
limit-apart N.Notes e = apart (limit_words N.Notes) 4 54 56 refl refl refl e
limit-apart N.Queries e = apart (limit_words N.Queries) 4 54 56 refl refl refl e
limit-apart N.AllQueries e = apart (limit_words N.AllQueries) 4 54 56 refl refl refl e
limit-apart N.Users e = apart (limit_words N.Users) 4 54 56 refl refl refl e
limit-apart N.Filters e = apart (limit_words N.Filters) 4 54 56 refl refl refl e
limit-apart N.Runs e = apart (limit_words N.Runs) 4 54 56 refl refl refl e
limit-apart N.Picks e = apart (limit_words N.Picks) 4 54 56 refl refl refl e
limit-apart N.Store e = apart (limit_words N.Store) 4 54 56 refl refl refl e

-- only out of memory has this text
pub text-apart : (refusal : Refusal) → fine (Some refusal) ≡ true → refusal_text refusal ≡ no_18 → ⊥
text-apart Unknown f e = apart (refusal_text Unknown) 4 0 56 refl refl refl e
text-apart Form f e = apart (refusal_text Form) 3 50 49 refl refl refl e
text-apart Cut f e = apart (refusal_text Cut) 3 51 49 refl refl refl e
text-apart BadMoment f e = apart (refusal_text BadMoment) 3 52 49 refl refl refl e
text-apart (Backwards last) f e = apart (refusal_text (Backwards last)) 3 53 49 refl refl refl e
text-apart NoMoment f e = apart (refusal_text NoMoment) 3 54 49 refl refl refl e
text-apart NoUser f e = apart (refusal_text NoUser) 3 55 49 refl refl refl e
text-apart BadName f e = apart (refusal_text BadName) 3 56 49 refl refl refl e
text-apart Taken f e = apart (refusal_text Taken) 3 57 49 refl refl refl e
text-apart NoQuery f e = apart (refusal_text NoQuery) 4 48 56 refl refl refl e
text-apart NoDoc f e = apart (refusal_text NoDoc) 4 49 56 refl refl refl e
text-apart (Lex (L.BadByte p)) f e = apart (lex_text (L.BadByte p)) 4 50 56 refl refl refl e
text-apart (Lex (L.OpenString p)) f e = apart (lex_text (L.OpenString p)) 4 50 56 refl refl refl e
text-apart (Lex (L.BigNumber p)) f e = apart (lex_text (L.BigNumber p)) 4 50 56 refl refl refl e
text-apart (Lex (L.TooLong n)) f e = apart (lex_text (L.TooLong n)) 4 50 56 refl refl refl e
text-apart (Lex L.Memory) f e = absurd (false≢true f)
text-apart (Parse (P.Unexpected p)) f e = apart (parse_text (P.Unexpected p)) 4 51 56 refl refl refl e
text-apart (Parse P.Ended) f e = apart (parse_text P.Ended) 4 51 56 refl refl refl e
text-apart (Parse (P.Deep p)) f e = apart (parse_text (P.Deep p)) 4 51 56 refl refl refl e
text-apart (Parse P.Memory) f e = absurd (false≢true f)
text-apart (Types (Y.NoVar p)) f e = apart (type_text (Y.NoVar p)) 4 52 56 refl refl refl e
text-apart (Types (Y.NoField p)) f e = apart (type_text (Y.NoField p)) 4 52 56 refl refl refl e
text-apart (Types (Y.Clash p)) f e = apart (type_text (Y.Clash p)) 4 52 56 refl refl refl e
text-apart (Types (Y.Shadow p)) f e = apart (type_text (Y.Shadow p)) 4 52 56 refl refl refl e
text-apart (Types (Y.BadTime p)) f e = apart (type_text (Y.BadTime p)) 4 52 56 refl refl refl e
text-apart (Types (Y.BigSpan p)) f e = apart (type_text (Y.BigSpan p)) 4 52 56 refl refl refl e
text-apart (Types (Y.ManyVars p)) f e = apart (type_text (Y.ManyVars p)) 4 52 56 refl refl refl e
text-apart (Types Y.ManyNodes) f e = apart (type_text Y.ManyNodes) 4 52 56 refl refl refl e
text-apart (Types Y.Memory) f e = absurd (false≢true f)
text-apart (NotOver now) f e = apart (refusal_text (NotOver now)) 4 53 56 refl refl refl e
text-apart (Limit name) f e = limit-apart name e
text-apart (Rule number place) f e = apart (refusal_text (Rule number place)) 4 55 56 refl refl refl e
text-apart ManyRules f e = apart (refusal_text ManyRules) 4 55 56 refl refl refl e
text-apart Memory f e = absurd (false≢true f)
text-apart (NoRun runs) f e = apart (refusal_text (NoRun runs)) 4 57 56 refl refl refl e

found-apart : (n : ℕ) (found : Found) → found_text n found ≡ no_18 → ⊥
found-apart n (F.DocText doc arrival) e = apart (found_text n (F.DocText doc arrival)) 0 111 110 refl refl refl e
found-apart n (F.DocNotes doc) e = apart (found_text n (F.DocNotes doc)) 0 111 110 refl refl refl e
found-apart n F.UserQueries e = apart (found_text n F.UserQueries) 0 111 110 refl refl refl e
found-apart n (F.Counts docs notes moment) e = apart (found_text n (F.Counts docs notes moment)) 0 111 110 refl refl refl e

-- what is accepted begins `ok`
ok-apart : (r : Reply) → is_accepted r ≡ true → first_text r ≡ no_18 → ⊥
ok-apart (reply.At moment) a e = apart (first_text (reply.At moment)) 0 111 110 refl refl refl e
ok-apart (reply.AsUser name) a e = apart (first_text (reply.AsUser name)) 0 111 110 refl refl refl e
ok-apart (reply.OneDoc doc) a e = apart (first_text (reply.OneDoc doc)) 0 111 110 refl refl refl e
ok-apart (reply.Docs count first) a e = apart (first_text (reply.Docs count first)) 0 111 110 refl refl refl e
ok-apart (reply.OneNote note) a e = apart (first_text (reply.OneNote note)) 0 111 110 refl refl refl e
ok-apart (reply.Defined name) a e = apart (first_text (reply.Defined name)) 0 111 110 refl refl refl e
ok-apart (reply.Ran ordinal moment hits) a e = apart (first_text (reply.Ran ordinal moment hits)) 0 111 110 refl refl refl e
ok-apart (reply.BoxOf name entries) a e = apart (first_text (reply.BoxOf name entries)) 0 111 110 refl refl refl e
ok-apart (reply.ListOf name rows) a e = apart (first_text (reply.ListOf name rows)) 0 111 110 refl refl refl e
ok-apart (reply.Filter rules) a e = apart (first_text (reply.Filter rules)) 0 111 110 refl refl refl e
ok-apart (reply.Explain name lines) a e = apart (first_text (reply.Explain name lines)) 0 111 110 refl refl refl e
ok-apart (reply.Asked moment docs) a e = apart (first_text (reply.Asked moment docs)) 0 111 110 refl refl refl e
ok-apart (reply.Wake name moment) a e = apart (first_text (reply.Wake name moment)) 0 111 110 refl refl refl e
ok-apart (reply.ScoresOf kind rows) a e = apart (first_text (reply.ScoresOf kind rows)) 0 111 110 refl refl refl e
ok-apart (reply.DigestOf name ordinal lines) a e = apart (first_text (reply.DigestOf name ordinal lines)) 0 111 110 refl refl refl e
ok-apart (reply.Found found lines) a e = found-apart (length lines) found e
ok-apart (reply.No refusal) a e = absurd (false≢true a)

-- the checks
missing-fine : {A : Type 0} (refusal : Refusal) (o : Option A) → fine (Some refusal) ≡ true → fine (missing refusal o) ≡ true
missing-fine refusal None f = f
missing-fine refusal (Some x) f = refl

unless-fine : (holds : Bool) (refusal : Refusal) → fine (Some refusal) ≡ true → fine (refuse_unless holds refusal) ≡ true
unless-fine true refusal f = refl
unless-fine false refusal f = f

limit-fine : (name : LimitName) (limit count more : ℕ) → fine (limit_refusal name limit count more) ≡ true
limit-fine name limit count more = elim ((more == 0) || nat_le (count + more) limit)
    as (λ b. fine (if b then None else Some (Limit name)) ≡ true) [ true ↦ refl | false ↦ refl ]

name-fine : (name : List ℕ) → fine (bad_name name) ≡ true
unfolding bad_name
name-fine name = unless-fine (is_name name) BadName refl

back-fine : (last second : Option ℤ) → fine (is_back last second) ≡ true
back-fine None second = refl
back-fine (Some last) None = refl
back-fine (Some last) (Some second) = unless-fine (int_le last second) (Backwards last) refl

over-fine : (second now : Option ℤ) → fine (not_over second now) ≡ true
over-fine None now = refl
over-fine (Some second) None = refl
over-fine (Some second) (Some now) = unless-fine (int_lt second now) (NotOver now) refl

run-fine : (ordinal runs : ℕ) → fine (no_run ordinal runs) ≡ true
unfolding no_run
run-fine ordinal runs = unless-fine (nat_le 1 ordinal && nat_le ordinal runs) (NoRun runs) refl

doc-fine : (doc count : ℕ) → fine (no_doc doc count) ≡ true
unfolding no_doc
doc-fine doc count = unless-fine (nat_le 1 doc && nat_le doc count) NoDoc refl

note-fine : (len : ℕ) → fine (long_note len) ≡ true
unfolding long_note
note-fine len = unless-fine (nat_le len note_text_limit) (Limit N.Note) refl

message-fine : (block : Block) → fine (too_long block) ≡ true
message-fine Long = refl
message-fine (Whole text) = unless-fine (nat_le (length text) message_limit) (Limit N.Message) refl

block-fine : (block : Block) → fine (long_block block) ≡ true
block-fine Long = refl
block-fine (Whole text) = refl

filter-block-fine : (block : Block) → fine (long_filter block) ≡ true
filter-block-fine Long = refl
filter-block-fine (Whole text) = unless-fine (nat_le (length text) filter_text_limit) (Limit N.Block) refl

typing-fine : (x : Syntax) (r : Result Condition TypeFault) → typed x ≡ r → fine (reading_refusal (of_typing r)) ≡ true
typing-fine x (Ok condition) e = refl
typing-fine x (Err (Y.NoVar p)) e = refl
typing-fine x (Err (Y.NoField p)) e = refl
typing-fine x (Err (Y.Clash p)) e = refl
typing-fine x (Err (Y.Shadow p)) e = refl
typing-fine x (Err (Y.BadTime p)) e = refl
typing-fine x (Err (Y.BigSpan p)) e = refl
typing-fine x (Err (Y.ManyVars p)) e = refl
typing-fine x (Err Y.ManyNodes) e = refl
typing-fine x (Err Y.Memory) e = absurd (typed-fine x e)

tree-fine : (tokens : List Token) (r : Result Syntax ParseFault) → query_at 32 tokens ≡ r → fine (reading_refusal (of_tree r)) ≡ true
tree-fine tokens (Ok x) e = typing-fine x (typed x) refl
tree-fine tokens (Err (P.Unexpected p)) e = refl
tree-fine tokens (Err P.Ended) e = refl
tree-fine tokens (Err (P.Deep p)) e = refl
tree-fine tokens (Err P.Memory) e = absurd ((read_by_grammar 32 tokens).no_memory e)

tokens-fine : (text : List ℕ) (r : Result (List Token) LexFault) → lexed text ≡ r → fine (reading_refusal (of_tokens r)) ≡ true
tokens-fine text (Ok tokens) e = tree-fine tokens (query_at 32 tokens) refl
tokens-fine text (Err (L.BadByte p)) e = refl
tokens-fine text (Err (L.OpenString p)) e = refl
tokens-fine text (Err (L.BigNumber p)) e = refl
tokens-fine text (Err (L.TooLong n)) e = refl
tokens-fine text (Err L.Memory) e = absurd (lexed-fine text e)

text-fine : (text : List ℕ) → fine (text_fault text) ≡ true
unfolding text_fault
text-fine text = tokens-fine text (lexed text) refl

rules-fine : (source : List ℕ) → fine (filter_fault source) ≡ true
unfolding filter_fault
rules-fine source = go (rules_of source) where
  go : (r : Result (List FilterRule) RuleFault) → fine (rules_refusal r) ≡ true
  go (Ok rules) = refl
  go (Err (R.Line number place)) = refl
  go (Err R.ManyRules) = refl
  go (Err R.Memory) = refl

-- a refusal that a script's text can have
proper-fine : (refusal : Refusal) → is_of_text refusal ≡ true → fine (Some refusal) ≡ true
proper-fine Unknown e = refl
proper-fine Form e = refl
proper-fine Cut e = refl
proper-fine BadMoment e = refl
proper-fine (Backwards last) e = refl
proper-fine NoMoment e = refl
proper-fine NoUser e = refl
proper-fine BadName e = refl
proper-fine Taken e = refl
proper-fine NoQuery e = refl
proper-fine NoDoc e = refl
proper-fine (Lex fault) e = absurd (false≢true e)
proper-fine (Parse fault) e = absurd (false≢true e)
proper-fine (Types fault) e = absurd (false≢true e)
proper-fine (NotOver now) e = refl
proper-fine (Limit name) e = refl
proper-fine (Rule number place) e = refl
proper-fine ManyRules e = refl
proper-fine Memory e = absurd (false≢true e)
proper-fine (NoRun runs) e = refl

abbrev AreFine : List (Option Refusal) → Type 0
AreFine list = Each (λ check. fine check ≡ true) list

first-fine : (list : List (Option Refusal)) → AreFine list → fine (first_refusal list) ≡ true
first-fine [] each = refl
first-fine (None ∷ list) each = first-fine list each.1
first-fine (Some refusal ∷ list) each = each.0

module _ (s : Session) (t : Tables) where
  now-fine : fine (no_moment s) ≡ true
  now-fine = missing-fine NoMoment s.moment refl

  user-fine : fine (no_user s) ≡ true
  user-fine = missing-fine NoUser s.user refl

  query-fine : (name : List ℕ) → fine (no_query s name t) ≡ true
  query-fine name = missing-fine NoQuery (query_named (user_of s) name t) refl

  -- each check of a look-up
  lookup-fine : (lookup : Lookup) → AreFine (lookup_checks lookup s t)
  lookup-fine (ShowDoc num) = (doc-fine num (length t.docs), tt)
  lookup-fine (ListNotes num) = (doc-fine num (length t.docs), tt)
  lookup-fine ListQueries = (user-fine, tt)
  lookup-fine Count = tt

  -- the reply to a look-up
  lookup-apart : (lookup : Lookup) → first_text (lookup_reply lookup s t) ≡ no_18 → ⊥
  lookup-apart (ShowDoc num) e = go (doc_numbered num t.docs) e where
    go : (o : Option Doc) → first_text (shown_doc num o) ≡ no_18 → ⊥
    go None e = text-apart NoDoc refl e
    go (Some doc) e = ok-apart (shown_doc num (Some doc)) refl e
  lookup-apart (ListNotes num) e = ok-apart (lookup_reply (ListNotes num) s t) refl e
  lookup-apart ListQueries e = ok-apart (lookup_reply ListQueries s t) refl e
  lookup-apart Count e = ok-apart (lookup_reply Count s t) refl e

  -- each check of a command of a script
  checks-fine : (c : Command) → is_proper c ≡ true → AreFine (checks c s t)
  checks-fine (Bad refusal) p = (proper-fine refusal p, tt)
  checks-fine (At text) p = (missing-fine BadMoment (moment_of text) refl, (back-fine (last_moment s t) (moment_of text), tt))
  checks-fine (AsUser name) p = (name-fine name, tt)
  checks-fine (Mail block) p = (
    now-fine,
    (
      message-fine block,
      (
        limit-fine N.Documents document_limit (length t.docs) 1,
        (limit-fine N.Store store_limit (stored_bytes t) (length (block_text block)), tt),
      ),
    ),
  )
  checks-fine (Define name source) p = (
    now-fine,
    (
      user-fine,
      (
        name-fine name,
        (
          taken-fine,
          (
            text-fine (condition_text source),
            (
              limit-fine N.Queries user_query_limit (queries_of (user_of s) t) 1,
              (
                limit-fine N.AllQueries query_limit (length t.queries) 1,
                (
                  limit-fine N.Users user_limit (different (owners_in t))
                      (new_users (user_of s) t),
                  (limit-fine N.Store store_limit (stored_bytes t) (length (stored_source source)), tt),
                ),
              ),
            ),
          ),
        ),
      ),
    ),
  )
    where
      taken-fine : fine (taken s name t) ≡ true
      taken-fine = unless-fine _ Taken refl
  checks-fine (Run name) p = (
    now-fine,
    (
      user-fine,
      (
        name-fine name,
        (
          query-fine name,
          (limit-fine N.Runs run_limit (length t.runs) 1, (limit-fine N.Picks pick_limit (length t.picks) (delivers s name t), tt)),
        ),
      ),
    ),
  )
  checks-fine (BoxOf name) p = (user-fine, (name-fine name, (query-fine name, tt)))
  checks-fine (Mbox block) p = (
    now-fine,
    (
      unless-fine _ (Limit N.Message) refl,
      (
        block-fine block,
        (
          limit-fine N.Documents document_limit (length t.docs)
              (length (messages_of block)),
          (limit-fine N.Store store_limit (stored_bytes t) (bytes_of_all (messages_of block)), tt),
        ),
      ),
    ),
  )
  checks-fine (AddNote doc kind value text) p = (
    now-fine,
    (
      user-fine,
      (
        name-fine kind,
        (
          doc-fine doc (length t.docs),
          (
            note-fine (length text),
            (limit-fine N.Notes note_limit (length t.notes) 1, (limit-fine N.Store store_limit (stored_bytes t) (length text), tt)),
          ),
        ),
      ),
    ),
  )
  checks-fine (ListOf name) p = (user-fine, (name-fine name, (query-fine name, tt)))
  checks-fine (Filter block) p = (
    now-fine,
    (
      user-fine,
      (
        filter-block-fine block,
        (
          limit-fine N.Users user_limit (different (owners_in t))
              (new_users (user_of s) t),
          (
            limit-fine N.Filters filter_limit (length t.filters) 1,
            (limit-fine N.Store store_limit (stored_bytes t) (length (block_text block)), (rules-fine (block_text block), tt)),
          ),
        ),
      ),
    ),
  )
  checks-fine (Explain name) p = (user-fine, (name-fine name, (query-fine name, tt)))
  checks-fine (Ask moment source) p =
      (missing-fine BadMoment (moment_of moment) refl, (now-fine, (text-fine source, (over-fine (moment_of moment) s.moment, tt))))
  checks-fine (Wake name) p = (now-fine, (user-fine, (name-fine name, (query-fine name, tt))))
  checks-fine (ScoresOf kind) p = (name-fine kind, tt)
  checks-fine (Find lookup) p = lookup-fine lookup
  checks-fine (DigestOf name ordinal) p =
      (user-fine, (name-fine name, (query-fine name, (run-fine ordinal (runs_found (query_named (user_of s) name t) t), tt))))

  -- a command that isn't refused
  accepted-apart : (c : Command) → is_proper c ≡ true → first_text (accepted c s t).reply ≡ no_18 → ⊥
  accepted-apart (At text) p e = go (moment_of text) e where
    go : (o : Option ℤ) → first_text (set_moment o s).reply ≡ no_18 → ⊥
    go None e = text-apart BadMoment refl e
    go (Some second) e = ok-apart (reply.At second) refl e
  accepted-apart (AsUser name) p e = ok-apart (reply.AsUser name) refl e
  accepted-apart (Mail block) p e = ok-apart (accepted (Mail block) s t).reply refl e
  accepted-apart (Define name source) p e = ok-apart (reply.Defined name) refl e
  accepted-apart (Run name) p e = go (query_named (user_of s) name t) e where
    go : (o : Option QueryRow) → first_text (run_query o s t).reply ≡ no_18 → ⊥
    go None e = text-apart NoQuery refl e
    go (Some q) e = ok-apart (run_query (Some q) s t).reply refl e
  accepted-apart (BoxOf name) p e = go (query_named (user_of s) name t) e where
    go : (o : Option QueryRow) → first_text (show_box o name s t).reply ≡ no_18 → ⊥
    go None e = text-apart NoQuery refl e
    go (Some q) e = ok-apart (show_box (Some q) name s t).reply refl e
  accepted-apart (Bad refusal) p e = text-apart refusal (proper-fine refusal p) e
  accepted-apart (Mbox block) p e = ok-apart (accepted (Mbox block) s t).reply refl e
  accepted-apart (AddNote doc kind value text) p e = ok-apart (accepted (AddNote doc kind value text) s t).reply refl e
  accepted-apart (ListOf name) p e = go (query_named (user_of s) name t) e where
    go : (o : Option QueryRow) → first_text (show_list o name s t).reply ≡ no_18 → ⊥
    go None e = text-apart NoQuery refl e
    go (Some q) e = ok-apart (show_list (Some q) name s t).reply refl e
  accepted-apart (Filter block) p e = ok-apart (accepted (Filter block) s t).reply refl e
  accepted-apart (Explain name) p e = go (query_named (user_of s) name t) e where
    go : (o : Option QueryRow) → first_text (show_lines o name s t).reply ≡ no_18 → ⊥
    go None e = text-apart NoQuery refl e
    go (Some q) e = ok-apart (show_lines (Some q) name s t).reply refl e
  accepted-apart (Ask moment source) p e = go (moment_of moment) e where
    go : (o : Option ℤ) → first_text (ask_at o source s t).reply ≡ no_18 → ⊥
    go None e = text-apart BadMoment refl e
    go (Some second) e = ok-apart (ask_at (Some second) source s t).reply refl e
  accepted-apart (Wake name) p e = go (query_named (user_of s) name t) e where
    go : (o : Option QueryRow) → first_text (show_wake o name s t).reply ≡ no_18 → ⊥
    go None e = text-apart NoQuery refl e
    go (Some q) e = ok-apart (show_wake (Some q) name s t).reply refl e
  accepted-apart (ScoresOf kind) p e = ok-apart (accepted (ScoresOf kind) s t).reply refl e
  accepted-apart (Find lookup) p e = lookup-apart lookup e
  accepted-apart (DigestOf name ordinal) p e = go (query_named (user_of s) name t) e where
    go : (o : Option QueryRow) → first_text (show_digest o name ordinal s t).reply ≡ no_18 → ⊥
    go None e = text-apart NoQuery refl e
    go (Some q) e = ok-apart (show_digest (Some q) name ordinal s t).reply refl e

  answer-apart : (c : Command) → is_proper c ≡ true → first_text (answer_of c s t).reply ≡ no_18 → ⊥
  answer-apart c p e = go (verdict c s t) (first-fine (checks c s t) (checks-fine c p)) e where
    go : (v : Option Refusal) → fine v ≡ true → first_text (answer_by v c s t).reply ≡ no_18 → ⊥
    go None f e = accepted-apart c p e
    go (Some refusal) f e = text-apart refusal f e

-- the commands of a script are proper
lines-proper : (state : State) (lines : List Line) → list_all is_proper (commands_from state lines) ≡ true
lines-proper state [] = refl
lines-proper state (line ∷ lines) =
    rw (
      list_all-append is_proper (commands_of_line state line) (commands_from (after_line state line) lines),
      commands-proper state line,
      lines-proper (after_line state line) lines,
    ) refl

script-proper : (bytes : List ℕ) → list_all is_proper (script bytes) ≡ true
script-proper bytes =
    rw (
      list_all-append is_proper (commands_from Outside (lines bytes)) (at_end (state_after Outside (lines bytes))),
      lines-proper Outside (lines bytes),
      end-proper (state_after Outside (lines bytes)),
    ) refl

-- a step of which `no 18` is the reply is out of memory
step-gives-up : (t : Tables) (s : Session) (c : Command) (reply : Reply) (t' : Tables) (s' : Session) → is_proper c ≡ true
    → StoryStep t s c reply t' s' → first_text reply ≡ no_18 → GivesUp t s c reply t' s'
step-gives-up t s c reply t' s' proper (inl follows) e = absurd (answer-apart s t c proper (sym (ap first_text follows.reply_is) ∙ e))
step-gives-up t s c reply t' s' proper (inr gives) e = gives

pub answers-apart : AnswersAreNotMemory
answers-apart = record {
  proper = script-proper;
  apart = λ tables session command proper e. answer-apart session tables command proper e;
  step = step-gives-up;
}
