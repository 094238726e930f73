-- What is written is read back unchanged.
use Rattle.std.proofs.Common.{◌≡◌, ◌<◌, ◌^◌, sym, ℕ, List, [], ◌∷◌, ◌++◌, map, pos, ap, ◌∙◌, arith}
use Rattle.std.proofs.lemmas.Bool.Decides.{nat_tests}
use Rattle.std.proofs.lemmas.List.{map-append}
use Rattle.tap_rows.specs.declared.rows.Doc.{Doc}
use Rattle.tap_rows.specs.declared.rows.Note.{Note}
use Rattle.tap_rows.specs.declared.rows.QueryRow.{QueryRow}
use Rattle.tap_rows.specs.declared.rows.RunRow.{RunRow}
use Rattle.tap_rows.specs.declared.rows.Pick.{Pick}
use Rattle.tap_rows.specs.declared.rows.FilterRow.{FilterRow}
use Rattle.sqlite_value.specs.declared.value.Value.TheVariants.{Int}
use Rattle.sqlite_value.specs.Order.{Row}
use Rattle.keeper_sql.specs.RowsAsValues.{number_in_value, as_kept, given_doc, doc_in, given_note, note_in, given_query, query_in}
use Rattle.keeper_sql.specs.RowsAsValues.{given_run, run_in, given_pick, pick_in, given_filter, filter_in}

pub number : (n : ℕ) → n < 2 ^ 32 → number_in_value (Int (pos n)) ≡ n
number n low = grind (arith, nat_tests)

pub read_doc : (d : Doc) → d.num.0 < 2 ^ 32 → doc_in (as_kept (given_doc d)) ≡ d
read_doc d low = let num = number d.num.0 low in (λ i. record { num = record { 0 = num i }; arrival = d.arrival; text = d.text })

pub read_note : (n : Note) → (n.num.0 < 2 ^ 32) × (n.doc.0 < 2 ^ 32) → note_in (as_kept (given_note n)) ≡ n
read_note n low =
    let num = number n.num.0 low.0 in
    let doc = number n.doc.0 low.1 in
    (λ i. record {
      num = record { 0 = num i };
      doc = record { 0 = doc i };
      author = n.author;
      kind = n.kind;
      value = n.value;
      arrival = n.arrival;
      text = n.text;
    })

pub read_query : (q : QueryRow) → q.num.0 < 2 ^ 32 → query_in (as_kept (given_query q)) ≡ q
read_query q low =
    let num = number q.num.0 low in
    (λ i. record { num = record { 0 = num i }; owner = q.owner; name = q.name; source = q.source; arrival = q.arrival })

pub read_run : (r : RunRow) → (r.num < 2 ^ 32) × (r.query.0 < 2 ^ 32) → run_in (as_kept (given_run r)) ≡ r
read_run r low =
    let num = number r.num low.0 in
    let query = number r.query.0 low.1 in
    (λ i. record { num = num i; query = record { 0 = query i }; moment = r.moment })

pub read_pick : (p : Pick) → (p.num < 2 ^ 32) × (p.query.0 < 2 ^ 32) × (p.run < 2 ^ 32) × (p.doc.0 < 2 ^ 32)
    → pick_in (as_kept (given_pick p)) ≡ p
read_pick p low =
    let num = number p.num low.0 in
    let query = number p.query.0 low.1 in
    let run = number p.run low.2 in
    let doc = number p.doc.0 low.3 in
    (λ i. record { num = num i; query = record { 0 = query i }; run = run i; doc = record { 0 = doc i }; first = p.first })

pub read_filter : (f : FilterRow) → f.num < 2 ^ 32 → filter_in (as_kept (given_filter f)) ≡ f
read_filter f low = let num = number f.num low in (λ i. record { num = num i; owner = f.owner; source = f.source; arrival = f.arrival })

-- one more row is read back
pub read_more : {X : Type 0} (read : Row → X) (write : X → Row) (first : List X) (x : X) (rows : List Row) (all : List X)
    → rows ≡ map write first ++ write x ∷ [] → all ≡ first ++ x ∷ []
    → map read (map write first) ≡ first → read (write x) ≡ x → map read rows ≡ all
read_more read write first x rows all is more before last =
    ap (map read) is ∙ map-append read (map write first) (write x ∷ []) ∙ ap (λ l. l ++ read (write x) ∷ []) before
    ∙ ap (λ y. first ++ y ∷ []) last ∙ sym more
