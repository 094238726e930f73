-- How many different owners there are once there is one more row.
use Rattle.std.proofs.Common.{◌≡◌, ◌∙◌, sym, refl, ap, subst, ℕ, List, [], ◌∷◌, ◌++◌, ◌+◌, length, Bool, true, false, if◌then◌else◌}
use Rattle.std.specs.Prelude.{◌||◌}
use Rattle.std.specs.Str.{bytes_eq}
use Rattle.std.proofs.lemmas.List.{length-append}
use Rattle.std.proofs.lemmas.List.Folds.{list_any-append}
use Rattle.tap_rows.proofs.Tests.{bytes_same, bytes_flip}
use Rattle.tap_base.specs.Words.{has_text}
use Rattle.tap_model.specs.Limits.{different}
use Rattle.tap_model.proofs.WindowLaws.{or-swap}
use Rattle.tap_kept.specs.Keeping.{with_owner}

-- one more text is one more that may be looked for
pub holds-in : (a b : List (List ℕ)) (u v : List ℕ) → has_text (a ++ u ∷ b) v ≡ (bytes_eq v u || has_text (a ++ b) v)
holds-in a b u v =
    list_any-append (λ other. bytes_eq v other) a (u ∷ b) ∙ or-swap (has_text a v) (bytes_eq v u) (has_text b v)
    ∙ ap (λ x. bytes_eq v u || x) (sym (list_any-append (λ other. bytes_eq v other) a b))

-- two texts that count or don't, in either order
either-first : (x u : Bool) (d : ℕ) → (if x then (if u then d else d + 1) else (if u then d else d + 1) + 1)
    ≡ (if u then (if x then d else d + 1) else (if x then d else d + 1) + 1)
either-first true true d = refl
either-first true false d = refl
either-first false true d = refl
either-first false false d = refl

different-step : (x u : List ℕ) (a b : List (List ℕ))
    → different (a ++ u ∷ b) ≡ (if has_text (a ++ b) u then different (a ++ b) else different (a ++ b) + 1) → (s : Bool) → bytes_eq x u ≡ s
    → (if bytes_eq x u || has_text (a ++ b) x then different (a ++ u ∷ b) else different (a ++ u ∷ b) + 1)
    ≡ (if bytes_eq u x || has_text (a ++ b) u then (if has_text (a ++ b) x then different (a ++ b) else different (a ++ b) + 1)
    else (if has_text (a ++ b) x then different (a ++ b) else different (a ++ b) + 1) + 1)
different-step x u a b rest true e =
    rw (e, bytes_flip u x ∙ e, rest)
    (ap (λ z. if has_text (a ++ b) z then different (a ++ b) else different (a ++ b) + 1) (sym (bytes_same x u e)))
different-step x u a b rest false e =
    rw (e, bytes_flip u x ∙ e, rest) (either-first (has_text (a ++ b) x) (has_text (a ++ b) u) (different (a ++ b)))

-- one more text counts unless it is there
pub different-in : (a b : List (List ℕ)) (u : List ℕ)
    → different (a ++ u ∷ b) ≡ (if has_text (a ++ b) u then different (a ++ b) else different (a ++ b) + 1)
different-in [] b u = refl
different-in (x ∷ a) b u = ap (λ h. if h then different (a ++ u ∷ b) else different (a ++ u ∷ b) + 1) (holds-in a b u x)
    ∙ different-step x u a b (different-in a b u) (bytes_eq x u) refl

length-with : (h : Bool) (owners : List (List ℕ)) (u : List ℕ)
    → length (if h then owners else owners ++ u ∷ []) ≡ (if h then length owners else length owners + 1)
length-with true owners u = refl
length-with false owners u = length-append owners (u ∷ [])

-- the owners in memory are as many as the different ones of the rows
pub users-more : (owners : List (List ℕ)) (a b : List (List ℕ)) (u : List ℕ) → length owners ≡ different (a ++ b)
    → has_text owners u ≡ has_text (a ++ b) u → length (with_owner owners u) ≡ different (a ++ u ∷ b)
users-more owners a b u count has = length-with (has_text owners u) owners u ∙ rw (has, count) (sym (different-in a b u))

holds-with : (owners : List (List ℕ)) (u v : List ℕ) (h : Bool) → has_text owners u ≡ h
    → has_text (if h then owners else owners ++ u ∷ []) v ≡ (bytes_eq v u || has_text owners v)
holds-with owners u v false e = list_any-append (λ other. bytes_eq v other) owners (u ∷ [])
    ∙ swapped (has_text owners v) (bytes_eq v u) where
      swapped : (a b : Bool) → (a || (b || false)) ≡ (b || a)
      swapped true true = refl
      swapped true false = refl
      swapped false true = refl
      swapped false false = refl
holds-with owners u v true e = go (bytes_eq v u) refl where
  go : (s : Bool) → bytes_eq v u ≡ s → has_text owners v ≡ (bytes_eq v u || has_text owners v)
  go true f = rw f (subst (λ z. has_text owners z ≡ true) (sym (bytes_same v u f)) e)
  go false f = rw f refl

-- a user owns a query or a filter by the owners in memory if and only if by the rows
pub owners-more : (owners : List (List ℕ)) (a b : List (List ℕ)) (u v : List ℕ) → ((w : List ℕ) → has_text owners w ≡ has_text (a ++ b) w)
    → has_text (with_owner owners u) v ≡ has_text (a ++ u ∷ b) v
owners-more owners a b u v same = holds-with owners u v (has_text owners u) refl ∙ ap (λ x. bytes_eq v u || x) (same v)
    ∙ sym (holds-in a b u v)
