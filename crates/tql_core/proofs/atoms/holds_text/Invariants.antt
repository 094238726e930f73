use Rattle.std.proofs.Common.{◌≡◌, drop}
use Rattle.std.specs.List.{list_any}
use Rattle.std.specs.Ordering.{is_eq}
use Rattle.tql_core.specs.Values.{text_cmp}
use Rattle.tql_core.proofs.atoms.holds_text.Given as goal

abbrev pub invariant-loop-held : goal.invariant-loop-held
invariant-loop-held l =
    list_any (λ x. is_eq (text_cmp x l.text)) l.texts ≡ list_any (λ x. is_eq (text_cmp x l.text)) (drop l.held-index l.texts)
