-- Which accesses some guards give.
use Rattle.std.specs.Prelude.{◌≡◌, ◌<◌, List, [], ◌∷◌, length}
use Rattle.access_plan.specs.declared.access.Access.{Access}
use Rattle.access_plan.specs.Views.{access_at}
use Rattle.probe_eval.specs.declared.given.Given.{Given}
use Rattle.probe_eval.specs.declared.given.Given.TheVariants as G

-- what is said of the accesses is so: several are more than one
abbrev pub IsGiven : Given → List Access → Type 0
IsGiven G.None xs = xs ≡ []
IsGiven (G.One access) xs = xs ≡ access_at access ∷ []
IsGiven G.Several xs = 1 < length xs
