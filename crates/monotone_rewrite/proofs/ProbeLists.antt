-- The probes of a list of marks, one mark after another.
use Rattle.std.proofs.Common.{◌≡◌, ◌∙◌, refl, sym, ap, ℕ, Bool, true, false, List, [], ◌∷◌, ◌++◌, drop, append_assoc}
use Rattle.std.specs.Prelude.{map}
use Rattle.std.specs.List.{filter}
use Rattle.tql_core.specs.Condition.{Condition}
use Rattle.time_marks.specs.declared.mark.Mark.{Mark}
use Rattle.time_marks.specs.Probes.{Probe}
use Rattle.monotone_rewrite.specs.Query.{probe_of, fold_probe, can_find}

abbrev pub probes_for : Condition → List Mark → List Probe
probes_for c ms = filter can_find (map fold_probe (map (probe_of c) ms))

-- a probe and those of the marks behind it
one_and_rest : (c : Condition) (mark : Mark) (ms : List Mark)
    → probes_for c (mark ∷ ms) ≡ filter can_find (fold_probe (probe_of c mark) ∷ []) ++ probes_for c ms
one_and_rest c mark ms = go (can_find (fold_probe (probe_of c mark))) refl where
  go : (b : Bool) → can_find (fold_probe (probe_of c mark)) ≡ b
      → probes_for c (mark ∷ ms) ≡ filter can_find (fold_probe (probe_of c mark) ∷ []) ++ probes_for c ms
  go true e = rw e refl
  go false e = rw e refl

pub next_mark : (c : Condition) (ms rest : List Mark) (i : ℕ) (mark : Mark) (xs ys : List Probe)
    → probes_for c ms ≡ xs ++ probes_for c (drop i ms) → drop i ms ≡ mark ∷ rest
    → ys ≡ xs ++ filter can_find (fold_probe (probe_of c mark) ∷ []) → probes_for c ms ≡ ys ++ probes_for c rest
next_mark c ms rest i mark xs ys e d y =
    e ∙ ap (λ z. xs ++ probes_for c z) d ∙ ap (λ z. xs ++ z) (one_and_rest c mark rest) ∙ sym (append_assoc xs _ _)
    ∙ ap (λ z. z ++ probes_for c rest) (sym y)
