-- What a run delivers, and what the engine represents after it.
use Rattle.std.proofs.Common.{◌≡◌, ◌∙◌, sym, refl, ap, subst, arith, ℕ, suc, ◌+◌, ◌-◌, ℤ, List, [], ◌∷◌, ◌++◌, length, map, Option, Some}
use Rattle.std.proofs.Common.{None}
use Rattle.std.specs.Prelude.{◌==◌, slice_index_or, slice_set}
use Rattle.std.specs.Option.{option_map}
use Rattle.std.proofs.lemmas.List.{length-append, map-append}
use Rattle.std.proofs.lemmas.List.Elements.{filter-append}
use Rattle.tap_rows.specs.declared.tables.Tables.{Tables}
use Rattle.tap_rows.specs.declared.rows.QueryRow.{QueryRow}
use Rattle.tap_base.specs.declared.numbers.QueryNum.{QueryNum}
use Rattle.tap_rows.specs.declared.results.Hit.{Hit}
use Rattle.tap_rows.specs.declared.change.Change.{Change}
use Rattle.tap_rows.specs.declared.results.Entry.{Entry}
use Rattle.tap_rows.specs.declared.change.Change.TheVariants.{RunDone}
use Rattle.tap_rows.specs.Tables.{after}
use Rattle.tap_rows.specs.Results.{run_moments, covered, last_or, entry_at}
use Rattle.tap_rows.specs.Deliveries.{delivered, picked, picks_of, pick_rows, next_run, run_change}
use Rattle.tap_rows.specs.Kept.{In, IsKept}
use Rattle.tap_rows.proofs.LaterLaws.{filter-none}
use Rattle.tap_rows.proofs.PlaceLaws.{ordinal-new, moments-new, moments-other, old-picks, picks-all, picks-none, new-picks, query-bounds}
use Rattle.tap_rows.proofs.RunLaws.{last-more}
use Rattle.script_lang.specs.declared.command.Command.TheVariants.{Run}
use Rattle.script_lang.specs.declared.reply.Reply.TheVariants.{Ran}
use Rattle.tap_model.specs.declared.session.Session.{Session}
use Rattle.tap_kept.specs.declared.cached_query.CachedQuery.{CachedQuery}
use Rattle.query_eval.specs.Hits.{HitsWithRoom}
use Rattle.tap_model.specs.Sound.{IsSound}
use Rattle.tap_engine.specs.declared.engine.Engine.{Engine}
use Rattle.tap_engine.specs.declared.run.Due.{Due}
use Rattle.tap_model.specs.Sessions.{user_of, moment_or_zero}
use Rattle.tap_model.specs.Queries.{query_named, hits_of, query_truth, start_of}
use Rattle.tap_rows.specs.WellFormed.{is_query_of}
use Rattle.tap_model.specs.Verdicts.{verdict}
use Rattle.tap_kept.specs.Keeping.{cached_query, after_run}
use Rattle.tap_engine.specs.Standing.{Represents, cached_named, cached_hits, due_of}
use Rattle.tap_model.specs.Replies.{run_query}
use Rattle.tap_model.proofs.AnswerLaws.{find-in}
use Rattle.tap_engine.specs.Answering.{Answers}
use Rattle.tap_engine.proofs.UndoLaws.{answers-accepted}
use Rattle.tap_kept.proofs.PlaceLaws.{placed, placed-set, same-cached}
use Rattle.tap_engine.proofs.CheckLaws.{named-is, hits-of-query}

-- what is due is due to a query that there is
pub record IsDue (e : Engine) (t : Tables) (name : List ℕ) (due : Due) : Type 0 where
  pub q : QueryRow
  pub some : query_named (user_of e.session) name t ≡ Some q
  pub has : In q t.queries
  pub is : due ≡ record {
    query = q.num;
    moment = moment_or_zero e.session;
    runs = length (run_moments q.num.0 t.runs);
    hits = hits_of q t (moment_or_zero e.session);
  }

no-due : (due : Due) → Some due ≡ None → ⊥
no-due due e = cc

same-due : (x y : Due) → Some x ≡ Some y → x ≡ y
same-due x y e = cc

pub due-is : (e : Engine) (t : Tables) (name : List ℕ) (due : Due) → Represents e t → IsSound t e.session → (e.session.moment ≡ None → ⊥)
    → Some due ≡ due_of e (cached_named e name) → IsDue e t name due
due-is e t name due represents sound there is = go (query_named (user_of e.session) name t) refl where
  kept : Some due ≡ due_of e (option_map (cached_query t) (query_named (user_of e.session) name t))
  kept = is ∙ ap (due_of e) (named-is e t name represents)

  go : (o : Option QueryRow) → query_named (user_of e.session) name t ≡ o → IsDue e t name due
  go None none = absurd (no-due due (kept ∙ ap (λ o. due_of e (option_map (cached_query t) o)) none))
  go (Some q) some = record {
    q = q;
    some = some;
    has = find-in (is_query_of (user_of e.session) name) t.queries q some;
    is = same-due due (record {
      query = q.num;
      moment = moment_or_zero e.session;
      runs = length (run_moments q.num.0 t.runs);
      hits = cached_hits e (Some (cached_query t q));
    }) (kept ∙ ap (λ o. due_of e (option_map (cached_query t) o)) some)
        ∙ ap (λ hits. record { query = q.num; moment = moment_or_zero e.session; runs = length (run_moments q.num.0 t.runs); hits = hits })
        (hits-of-query e t q represents sound (find-in (is_query_of (user_of e.session) name) t.queries q some) there);
  }

both-parts : (a a' b b' : List Entry) → a ≡ a' → b ≡ b' → a ++ b ≡ a' ++ b'
both-parts a a' b b' e f = rw (e, f) refl

-- a query after its run
own-after : (t : Tables) (q : QueryRow) (m : ℤ) → IsKept query_truth start_of t
    → cached_query (after t (run_change (query_truth q) (start_of q) t q.num m)) q
    ≡ after_run m (map (entry_at (length (run_moments q.num.0 t.runs) + 1)) (hits_of q t m)) (cached_query t q)
own-after t q m kept =
    let run = next_run t q.num m in
    let hits = hits_of q t m in
    let picks = pick_rows (length t.picks + 1) q.num (length t.runs + 1) hits in
    let moments : run_moments q.num.0 (t.runs ++ run ∷ []) ≡ run_moments q.num.0 t.runs ++ m ∷ [] = moments-new q.num.0 t.runs run refl in
    let both : picks_of q.num.0 (t.picks ++ picks) ≡ picks_of q.num.0 t.picks ++ picks = filter-append (λ pick. pick.query.0 == q.num.0)
    t.picks picks ∙ ap (λ more. picks_of q.num.0 t.picks ++ more) (picks-all (length t.picks + 1) q.num (length t.runs + 1) hits) in
    let place = ordinal-new q.num.0 t.runs run kept.runs refl refl in
    same-cached q (covered (start_of q) q.num.0 (t.runs ++ run ∷ [])) m (length (run_moments q.num.0 (t.runs ++ run ∷ [])))
    (length (run_moments q.num.0 t.runs) + 1)
    (map (picked (t.runs ++ run ∷ [])) (picks_of q.num.0 (t.picks ++ picks)))
    (delivered q.num.0 t ++ map (entry_at (length (run_moments q.num.0 t.runs) + 1)) hits)
    (ap (last_or (start_of q)) moments ∙ last-more (start_of q) m (run_moments q.num.0 t.runs))
    (ap length moments ∙ length-append (run_moments q.num.0 t.runs) (m ∷ []))
    (ap (map (picked (t.runs ++ run ∷ []))) both ∙ map-append (picked (t.runs ++ run ∷ [])) (picks_of q.num.0 t.picks) picks
    ∙ both-parts _ _ _ _ (old-picks q.num.0 t.runs run t.picks kept.picks) (new-picks (t.runs ++ run ∷ []) (length t.picks + 1)
    q.num (length t.runs + 1) (length (run_moments q.num.0 t.runs) + 1) hits place))

-- another query after that run
other-after : (t : Tables) (q other : QueryRow) (m : ℤ) → IsKept query_truth start_of t → (q.num.0 ≡ other.num.0 → ⊥)
    → cached_query (after t (run_change (query_truth q) (start_of q) t q.num m)) other ≡ cached_query t other
other-after t q other m kept differs =
    let run = next_run t q.num m in
    let hits = hits_of q t m in
    let picks = pick_rows (length t.picks + 1) q.num (length t.runs + 1) hits in
    let moments : run_moments other.num.0 (t.runs ++ run ∷ []) ≡ run_moments other.num.0 t.runs =
    moments-other other.num.0 t.runs run differs in
    let own : picks_of other.num.0 (t.picks ++ picks) ≡ picks_of other.num.0 t.picks = filter-none (λ pick. pick.query.0 == other.num.0)
    t.picks picks (picks-none other.num.0 (length t.picks + 1) q.num (length t.runs + 1) hits differs) in
    same-cached other (covered (start_of other) other.num.0 (t.runs ++ run ∷ [])) (covered (start_of other) other.num.0 t.runs)
    (length (run_moments other.num.0 (t.runs ++ run ∷ []))) (length (run_moments other.num.0 t.runs))
    (map (picked (t.runs ++ run ∷ [])) (picks_of other.num.0 (t.picks ++ picks))) (delivered other.num.0 t)
    (ap (last_or (start_of other)) moments) (ap length moments)
    (ap (map (picked (t.runs ++ run ∷ []))) own ∙ old-picks other.num.0 t.runs run t.picks kept.picks)

-- the query in memory there
pub due-kept : (e : Engine) (t : Tables) (due : Due) (q : QueryRow) (x : CachedQuery) → Represents e t → IsKept query_truth start_of t
    → In q t.queries → due.query.0 ≡ q.num.0 → slice_index_or e.queries (due.query.0 - 1) x ≡ cached_query t q
due-kept e t due q x represents kept has is =
    let bounds = query-bounds 1 t.queries q kept.queries has in
    rw represents.queries (placed (cached_query t) 1 (due.query.0 - 1) t.queries q x kept.queries has (omega (arith, is, bounds.0)))

-- as many picks as hits
rows-many : (num : ℕ) (query : QueryNum) (run : ℕ) (hits : List Hit) → length (pick_rows num query run hits) ≡ length hits
rows-many num query run [] = refl
rows-many num query run (hit ∷ hits) = ap suc (rows-many (num + 1) query run hits)

-- the engine with one more run
represents-placed : (e : Engine) (t : Tables) (h : HitsWithRoom) (q : QueryRow) (i : ℕ) (m : ℤ) (kept : CachedQuery) → Represents e t
    → IsKept query_truth start_of t → In q t.queries → q.num.0 ≡ 1 + i → (e.session.moment ≡ None → ⊥) → kept ≡ cached_query t q
    → Represents (record e {
      hits = h;
      queries = slice_set e.queries i
          (after_run m (map (entry_at (length (run_moments q.num.0 t.runs) + 1)) (hits_of q t m)) kept);
      run_count = e.run_count + 1;
      pick_count = e.pick_count + length (hits_of q t m);
    }) (after t (run_change (query_truth q) (start_of q) t q.num m))
represents-placed e t h q i m kept represents is-kept has at there is = record {
  rows = represents.rows;
  queries = rw (represents.queries, is, sym (own-after t q m is-kept))
      (placed-set (cached_query t) (cached_query (after t (run_change (query_truth q) (start_of q) t q.num m))) 1 i t.queries q
      is-kept.queries has at (λ other differs. other-after t q other m is-kept differs));
  run_count = ap (λ n. n + 1) represents.run_count ∙ sym (length-append t.runs (next_run t q.num m ∷ []));
  pick_count = ap (λ n. n + length (hits_of q t m)) represents.pick_count
      ∙ ap (λ n. length t.picks + n) (sym (rows-many (length t.picks + 1) q.num (length t.runs + 1) (hits_of q t m)))
      ∙ sym (length-append t.picks (pick_rows (length t.picks + 1) q.num (length t.runs + 1) (hits_of q t m)));
  bytes = represents.bytes;
  users = represents.users;
  owners = represents.owners;
  filters = represents.filters;
  votes = represents.votes;
  greatest = λ none. absurd (there none);
}

-- the rows of a run after that many runs and picks
abbrev pub run_rows : ℕ → ℕ → Due → Change
run_rows runs picks due =
    RunDone (record { num = runs + 1; query = due.query; moment = due.moment }) (pick_rows (picks + 1) due.query (runs + 1) due.hits)

rows-are : (e : Engine) (t : Tables) (name : List ℕ) (due : Due) → Represents e t → (d : IsDue e t name due)
    → run_rows e.run_count e.pick_count due ≡ run_change (query_truth d.q) (start_of d.q) t d.q.num (moment_or_zero e.session)
rows-are e t name due represents d = ap (λ n. run_rows n e.pick_count due) represents.run_count
    ∙ ap (λ n. run_rows (length t.runs) n due) represents.pick_count ∙ ap (run_rows (length t.runs) (length t.picks)) d.is

pub represents-run : (e : Engine) (t : Tables) (name : List ℕ) (due : Due) (h : HitsWithRoom) (e' : Engine) → Represents e t
    → IsKept query_truth start_of t → (d : IsDue e t name due) → (e.session.moment ≡ None → ⊥)
    → ((x : CachedQuery) → e' ≡ record e {
      hits = h;
      queries = slice_set e.queries (due.query.0 - 1)
          (after_run due.moment (map (entry_at (due.runs + 1)) due.hits) (slice_index_or e.queries (due.query.0 - 1) x));
      run_count = e.run_count + 1;
      pick_count = e.pick_count + length due.hits;
    })
    → Represents e' (after t (run_rows e.run_count e.pick_count due))
represents-run e t name due h e' represents kept d there is-e =
    let q = d.q in
    let num : due.query.0 ≡ q.num.0 = ap (λ x. x.query.0) d.is in
    let x : CachedQuery = cached_query t q in
    let i : ℕ = due.query.0 - 1 in
    let bounds = query-bounds 1 t.queries q kept.queries d.has in
    let engine : e' ≡ record e {
      hits = h;
      queries = slice_set e.queries i (after_run (moment_or_zero e.session) (map (entry_at (length (run_moments q.num.0 t.runs) + 1))
          (hits_of q t (moment_or_zero e.session))) (slice_index_or e.queries i x));
      run_count = e.run_count + 1;
      pick_count = e.pick_count + length (hits_of q t (moment_or_zero e.session));
    } =
    is-e x ∙ ap (λ y. record e {
      hits = h;
      queries = slice_set e.queries i (after_run y.moment (map (entry_at (y.runs + 1)) y.hits)
          (slice_index_or e.queries i x));
      run_count = e.run_count + 1;
      pick_count = e.pick_count + length y.hits;
    }) d.is in
    let rows : run_rows e.run_count e.pick_count due ≡ run_change (query_truth q) (start_of q) t q.num (moment_or_zero e.session) =
    rows-are e t name due represents d in
    subst (λ change. Represents e' (after t change)) (sym rows)
    (subst (λ k. Represents k (after t (run_change (query_truth q) (start_of q) t q.num (moment_or_zero e.session)))) (sym engine)
    (represents-placed e t h q i (moment_or_zero e.session) (slice_index_or e.queries i x) represents kept
    d.has (omega (arith, num, bounds.0)) there (due-kept e t due q x represents kept d.has num)))

-- a run that isn't refused
pub answers-run : (e : Engine) (t : Tables) (name : List ℕ) (due : Due) (change : Change) (s' : Session) → Represents e t
    → verdict (Run name) e.session t ≡ None → (d : IsDue e t name due)
    → change ≡ run_rows e.run_count e.pick_count due → s' ≡ e.session
    → Answers t e.session (Run name) (Ran (due.runs + 1) due.moment due.hits) (Some change) s'
answers-run e t name due change s' represents none d is-change is-s =
    let accepted = answers-accepted t e.session (Run name) none in
    let q = d.q in
    record {
      fine = none;
      reply_is = ap (λ due. Ran (due.runs + 1) due.moment due.hits) d.is ∙ sym (ap (λ o. (run_query o e.session t).reply) d.some)
          ∙ accepted.reply_is;
      change_is = ap Some (is-change ∙ rows-are e t name due represents d) ∙ sym (ap (λ o. (run_query o e.session t).change) d.some)
          ∙ accepted.change_is;
      session_is = is-s ∙ sym (ap (λ o. (run_query o e.session t).session) d.some) ∙ accepted.session_is;
    }
