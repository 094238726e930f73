-- What is missing in a list of texts depends on what it holds alone, not on how often or in which order.
use Rattle.std.proofs.Common.{◌≡◌, ◌∙◌, sym, ap, refl, arith, ℕ, List, [], ◌∷◌, ◌++◌, drop, length, Bool, true, false, if◌then◌else◌, ◌≤◌}
use Rattle.std.specs.Prelude.{◌||◌}
use Rattle.std.specs.Str.{bytes_eq}
use Rattle.std.proofs.lemmas.List.{append_assoc, append-nil, length-append}
use Rattle.std.proofs.lemmas.List.Folds.{list_any-append}
use Rattle.std.proofs.lemmas.Slice.Eq.{bytes_eq-Decides}
use Rattle.std.proofs.Math.Seq.{drop-append_seam}
use Rattle.tap_base.specs.Words.{with_new, has_text}

-- the texts that are not in the list yet, in order of first appearance
abbrev pub missing : List (List ℕ) → List (List ℕ) → List (List ℕ)
missing held [] = []
missing held (x ∷ xs) = if has_text held x then missing held xs else x ∷ missing (held ++ x ∷ []) xs

pub with_missing : (held xs : List (List ℕ)) → with_new held xs ≡ held ++ missing held xs
with_missing held [] = sym (append-nil held)
with_missing held (x ∷ xs) =
    elim (has_text held x) as (λ b. (if b then with_new held xs else with_new (held ++ x ∷ []) xs)
    ≡ held ++ (if b then missing held xs else x ∷ missing (held ++ x ∷ []) xs)) [
      | true ↦ with_missing held xs
      | false ↦ with_missing (held ++ x ∷ []) xs ∙ append_assoc held (x ∷ []) (missing (held ++ x ∷ []) xs)
    ]

same_missing : (a b : List (List ℕ)) → ((t : List ℕ) → has_text a t ≡ has_text b t) → (xs : List (List ℕ)) → missing a xs ≡ missing b xs
same_missing a b same [] = refl
same_missing a b same (x ∷ xs) =
    let more : (t : List ℕ)
    → has_text (a ++ x ∷ []) t ≡ has_text (b ++ x ∷ []) t = λ t. list_any-append (λ other. bytes_eq t other) a (x ∷ [])
    ∙ ap (λ h. h || has_text (x ∷ []) t) (same t) ∙ sym (list_any-append (λ other. bytes_eq t other) b (x ∷ [])) in
    rw (same x) (elim (has_text b x)
    as (λ h. (if h then missing a xs else x ∷ missing (a ++ x ∷ []) xs) ≡ (if h then missing b xs else x ∷ missing (b ++ x ∷ []) xs)) [
      | true ↦ same_missing a b same xs
      | false ↦ ap (λ rest. x ∷ rest) (same_missing (a ++ x ∷ []) (b ++ x ∷ []) more xs)
    ])

-- a text that is there already adds nothing
pub absorbed : (held : List (List ℕ)) (x t : List ℕ) (rest : Bool) → has_text held x ≡ true
    → (has_text held t || (bytes_eq t x || rest)) ≡ (has_text held t || rest)
absorbed held x t rest there = go (bytes_eq t x) refl where
  go : (b : Bool) → bytes_eq t x ≡ b → (has_text held t || (bytes_eq t x || rest)) ≡ (has_text held t || rest)
  go false e = rw e refl
  go true e =
      let same : t ≡ x = (bytes_eq-Decides t x).0 e in
      let here : has_text held t ≡ true = ap (has_text held) same ∙ there in
      rw here refl

three : (x y z : Bool) → ((x || (y || false)) || z) ≡ (x || (y || z))
three true y z = refl
three false true z = refl
three false false z = refl

-- the list that is made holds what both lists hold
pub both_held : (held xs : List (List ℕ)) (t : List ℕ) → has_text (with_new held xs) t ≡ (has_text held t || has_text xs t)
both_held held [] t = go (has_text held t) where
  go : (b : Bool) → b ≡ (b || false)
  go true = refl
  go false = refl
both_held held (x ∷ xs) t = go (has_text held x) refl (both_held held xs t) (both_held (held ++ x ∷ []) xs t) where
  go : (b : Bool) → has_text held x ≡ b → has_text (with_new held xs) t ≡ (has_text held t || has_text xs t)
      → has_text (with_new (held ++ x ∷ []) xs) t ≡ (has_text (held ++ x ∷ []) t || has_text xs t)
      → has_text (with_new held (x ∷ xs)) t ≡ (has_text held t || has_text (x ∷ xs) t)
  go true e was more = ap (λ b. has_text (if b then with_new held xs else with_new (held ++ x ∷ []) xs) t) e ∙ was
      ∙ sym (absorbed held x t (has_text xs t) e)
  go false e was more =
      ap (λ b. has_text (if b then with_new held xs else with_new (held ++ x ∷ []) xs) t) e ∙ more
      ∙ ap (λ b. b || has_text xs t) (list_any-append (λ other. bytes_eq t other) held (x ∷ []))
      ∙ three (has_text held t) (bytes_eq t x) (has_text xs t)

-- what a set that began with the list has more is what the list lacks
pub appended : (held set all xs rest : List (List ℕ)) → set ≡ with_new [] held → all ≡ with_new set xs → rest ≡ drop (length set) all
    → held ++ rest ≡ with_new held xs
appended held set all xs rest is-set is-all is-rest =
    let same : (t : List ℕ) → has_text set t ≡ has_text held t = λ t. ap (λ l. has_text l t) is-set ∙ both_held [] held t in
    let whole : all ≡ set ++ missing set xs = is-all ∙ with_missing set xs in
    let added : rest ≡ missing set xs = is-rest ∙ ap (drop (length set)) whole ∙ drop-append_seam set (missing set xs) in
    ap (λ l. held ++ l) (added ∙ same_missing set held same xs) ∙ sym (with_missing held xs)

-- nothing is lost
pub none_lost : (held xs : List (List ℕ)) → length held ≤ length (with_new held xs)
none_lost held xs = rw (with_missing held xs, length-append held (missing held xs)) (omega arith)
