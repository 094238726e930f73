use Rattle.std.proofs.Common.{ℕ, List, sym, subst, arith}
use Rattle.std.specs.List.{All}
use Rattle.std.specs.Str.{IsUtf8}
use Rattle.std.proofs.lemmas.List.Elements.{All-get_or}
use Rattle.command_words.proofs.strs.as_strs.Goals as goal

pub as_str-requires : goal.as_str-requires
as_str-requires c =
    let all = subst (λ (texts : List (List ℕ)). All IsUtf8 texts) (sym c.as_slice-text-items.ensures) c.requires in
    subst IsUtf8 (sym c.text-item.is)
    (All-get_or IsUtf8 c.as_slice-text-items.result.now c.loop-text.text-index c.text-item.result (omega arith) all)
