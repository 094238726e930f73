-- Marks below a path.
use Rattle.std.proofs.Common.{◌≡◌, List, [], ◌∷◌, ◌++◌, refl, sym, ap, ◌∙◌, append_assoc}
use Rattle.std.specs.Prelude.{map}
use Rattle.std.proofs.lemmas.List.{map-append}
use Rattle.time_marks.specs.declared.mark.Step.{Step}
use Rattle.time_marks.specs.declared.mark.Mark.{Mark}
use Rattle.time_marks.specs.Marks.{under_step, below}

below_after : (path : List Step) (step : Step) (ms : List Mark)
    → map (below path) (map (under_step step) ms) ≡ map (below (path ++ step ∷ [])) ms
below_after path step [] = refl
below_after path step (k ∷ ms) = rw (below_after path step ms)
    (ap (λ p. record { path = p; at = k.at } ∷ map (below (path ++ step ∷ [])) ms) (sym (append_assoc path (step ∷ []) k.path)))

-- what a bound variable's two parts append
pub exists_added : (old mid new : List Mark) (path longer : List Step) (step : Step) (ms ns : List Mark)
    → new ≡ mid ++ map (below longer) ns → mid ≡ old ++ map (below longer) ms → longer ≡ path ++ step ∷ []
    → new ≡ old ++ map (below path) (map (under_step step) (ms ++ ns))
exists_added old mid new path longer step ms ns n m e = n
    ∙ rw (m, e, below_after path step (ms ++ ns), map-append (below (path ++ step ∷ [])) ms ns) (append_assoc old _ _)
