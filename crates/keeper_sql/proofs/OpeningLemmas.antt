-- How a store is opened.
use Rattle.std.proofs.Common.{◌≡◌, inl, inr, ℤ, sym, ap, subst, ◌∙◌}
use Rattle.sqlite_schema.specs.declared.schema.Schema.{Schema}
use Rattle.sqlite.specs.Effect.{Database}
use Rattle.sqlite.specs.State.{State, IsUnchanged}
use Rattle.keeper_sql.specs.Schema.{store_schema, no_schema, schema_prefix}
use Rattle.keeper_sql.specs.Store.{IsMeta, Makes, Settles, OpensTo, OpensAt, IsOurs, WritesVersion, Undone}

bare : store_schema ≡ no_schema → ⊥
bare e = let tables = ap (λ (s : Schema). s.tables) e in cc

pub made_ours : (old mid : State) → IsOurs old.now → Makes (schema_prefix 0) 0 (schema_prefix 7) 7 old mid
    → (mid.now.schema ≡ store_schema) × IsMeta (mid.now.trees 0)
made_ours old mid (inl (has, meta)) made =
    let now = made.kept has in
    (ap (λ (d : Database). d.schema) now ∙ has, subst (λ (d : Database). IsMeta (d.trees 0)) (sym now) meta)
made_ours old mid (inr none) made = let all = made.made (record { schema = none; empty = tt }) in (all.schema, inl all.empty.0)

pub opens_at : (v : ℤ) (old mid new : State) → Makes (schema_prefix 0) 0 (schema_prefix 7) 7 old mid → Settles v mid new → OpensAt v old new
opens_at v old mid new made settled = record {
  was_open = λ now. made.was_open (settled.was_open now);
  is_open = λ was. settled.is_open (made.is_open was);
  mode = settled.mode;
  committed = settled.committed ∙ made.committed;
  to = record {
    schema = settled.writes.schema;
    meta = settled.writes.meta;
    store = λ has. subst (λ (d : Database). WritesVersion v d new.now) (made.kept has) settled.writes;
    was = λ has w row. settled.was w (ap (λ (d : Database). d.trees 0) (made.kept has) ∙ row);
    none = λ none.
        let all = made.made (record { schema = none; empty = tt }) in
        let w = settled.writes in (
          settled.fresh all.empty.0,
          (
            w.docs ∙ all.empty.1.0,
            (
              w.notes ∙ all.empty.1.1.0,
              (
                w.queries ∙ all.empty.1.1.1.0,
                (w.runs ∙ all.empty.1.1.1.1.0, (w.picks ∙ all.empty.1.1.1.1.1.0, (w.filters ∙ all.empty.1.1.1.1.1.1.0, tt))),
              ),
            ),
          ),
        );
  };
}

pub undone_then : (old mid new : State) → Makes (schema_prefix 0) 0 (schema_prefix 7) 7 old mid → Undone mid new → Undone old new
undone_then old mid new made h =
    record { was_open = λ now. made.was_open (h.was_open now); committed = λ now. h.committed now ∙ made.committed }

pub opens_still : (v : ℤ) (old mid new : State) → OpensAt v old mid → IsUnchanged mid new → OpensAt v old new
opens_still v old mid new at same = record {
  was_open = λ _. at.was_open same.0.was_open;
  is_open = λ _. same.0.is_open;
  mode = same.0.mode ∙ at.mode;
  committed = same.0.committed_is ∙ at.committed;
  to = subst (OpensTo v old.now) (sym same.0.now_is) at.to;
}
