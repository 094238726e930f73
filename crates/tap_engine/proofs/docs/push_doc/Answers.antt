use Rattle.std.proofs.Common.{◌∙◌, sym, ap, subst, w64}
use Rattle.std.specs.Prelude.{◌≤ℤ◌}
use Rattle.std.proofs.lemmas.Int.{to_z-of_z}
use Rattle.tap_rows.specs.declared.rows.Doc.{Doc}
use Rattle.tap_rows.specs.Kept.{Each}
use Rattle.tap_engine.proofs.docs.push_doc.Goals as goal

pub add_doc-requires-clause-after : goal.add_doc-requires-clause-after
add_doc-requires-clause-after c =
    subst (λ z. Each (λ (other : Doc). other.arrival ≤ℤ z) c.args.index.now.docs)
    (sym (ap (λ (d : Doc). d.arrival) c.in_ok-keep.ensures ∙ to_z-of_z w64 c.args.moment c.ranges.moment)) c.requires.arrives.after
