use Rattle.std.proofs.Common.{List, ℕ, sym, subst}
use Rattle.std.specs.List.{All}
use Rattle.std.specs.Str.{IsUtf8}
use Rattle.std.proofs.lemmas.List.Elements.{All-push}
use Rattle.library_tests.proofs.option_tests.words_in.Goals as goal

pub loop-word-preserved : goal.loop-word-preserved
loop-word-preserved c =
    let text = subst IsUtf8 (sym c.in_ok-from_slice.ensures) c.as_bytes.ensures.utf8 in
    subst (λ (words : List (List ℕ)). All IsUtf8 words) (sym c.in_ok-push.ensures.ok)
    (All-push IsUtf8 c.loop-word.words c.in_ok-from_slice.field-0 c.loop-word.invariant text)
