-- The entries of a map from keys to places, as lists. `seen` is what a key is seen as.
use Rattle.std.proofs.Common.{◌≡◌, ℕ, Bool, false, List, [], ◌∷◌, Some, None, map, refl, ap, ◌∙◌, inl, inr}
use Rattle.std.specs.Prelude.{Vec}
use Rattle.std.specs.Map.{lookup, set_value}
use Rattle.std.proofs.lemmas.Bool.{cases_Bool, true≢false}
use Rattle.indexmap.specs.IndexMap.{insert_entry}
use Rattle.row_index.specs.Places.{under, posted, unposted, is_used_key, with_place, without_place}

module _ {K Q : Type 0} (eq : Q → Q → Bool) (seen : K → Q) where
  abbrev pub finds : Q → K → Bool
  finds key k = eq key (seen k)

module _ {Z K Q : Type 0} (eq : Q → Q → Bool) (seen : K → Q) where
  abbrev pub plain : List (K × Vec ℕ Z) → List (Q × List ℕ)
  plain es = map (λ (e : K × Vec ℕ Z). (seen e.0, e.1.items)) es

  pub under_found : (key : Q) (es : List (K × Vec ℕ Z)) (v : Vec ℕ Z) → lookup (finds eq seen key) es ≡ Some v
      → v.items ≡ under eq key (plain es)
  under_found key [] v h = absurd cc
  under_found key (e ∷ es) v h =
      elim (cases_Bool (eq key (seen e.0))) [
        | inl b ↦ rw b (ap (λ w. w.items) (let q : v ≡ e.1 = (let q' = rw b at h in cc) in q))
        | inr b ↦ rw b (under_found key es v (rw b at h))
      ]

  pub under_none : (key : Q) (es : List (K × Vec ℕ Z)) → lookup (finds eq seen key) es ≡ None → [] ≡ under eq key (plain es)
  under_none key [] h = refl
  under_none key (e ∷ es) h =
      elim (cases_Bool (eq key (seen e.0))) [
        | inl b ↦ absurd (let q' = rw b at h in cc)
        | inr b ↦ rw b (under_none key es (rw b at h))
      ]

  pub absent : (key : Q) (es : List (K × Vec ℕ Z)) → lookup (finds eq seen key) es ≡ None → is_used_key eq key (plain es) ≡ false
  absent key [] h = refl
  absent key (e ∷ es) h =
      elim (cases_Bool (eq key (seen e.0))) [
        | inl b ↦ absurd (let q' = rw b at h in cc)
        | inr b ↦ rw b (absent key es (rw b at h))
      ]

  abbrev entries_with : List (K × Vec ℕ Z) → K → Vec ℕ Z → List (K × Vec ℕ Z)
  entries_with es k v = insert_entry (λ x y. eq (seen x) (seen y)) es k v

  begun_with : (es : List (K × Vec ℕ Z)) (k : K) (v : Vec ℕ Z) (place : ℕ) → v.items ≡ place ∷ []
      → is_used_key eq (seen k) (plain es) ≡ false
      → plain (entries_with es k v) ≡ posted eq (seen k) place (plain es)
  begun_with [] k v place f h = ap (λ z. (seen k, z) ∷ []) f
  begun_with (x ∷ es) k v place f h =
      elim (cases_Bool (eq (seen k) (seen x.0))) [
        | inl b ↦ absurd (let q' = rw b at h in true≢false q')
        | inr b ↦ let q = rw b at h in rw b (ap (λ z. (seen x.0, x.1.items) ∷ z) (begun_with es k v place f q))
      ]

  pub begun : (es fs : List (K × Vec ℕ Z)) (k : K) (v : Vec ℕ Z) (key : Q) (place : ℕ) → fs ≡ entries_with es k v → (seen k) ≡ key
      → v.items ≡ place ∷ [] → is_used_key eq key (plain es) ≡ false → plain fs ≡ posted eq key place (plain es)
  begun es fs k v key place i e f h =
      let h' : is_used_key eq (seen k) (plain es) ≡ false = ap (λ z. is_used_key eq z (plain es)) e ∙ h in
      ap plain i ∙ begun_with es k v place f h' ∙ ap (λ z. posted eq z place (plain es)) e

  pub changed : (key : Q) (place : ℕ) (es : List (K × Vec ℕ Z)) (v w : Vec ℕ Z) → lookup (finds eq seen key) es ≡ Some v
      → w.items ≡ with_place place v.items → plain (set_value (finds eq seen key) es w) ≡ posted eq key place (plain es)
  changed key place [] v w h e = absurd cc
  changed key place (x ∷ es) v w h e =
      elim (cases_Bool (eq key (seen x.0))) [
        | inl b ↦
            let q : v ≡ x.1 = (let q' = rw b at h in cc) in
            let r : w.items ≡ with_place place x.1.items = e ∙ ap (λ z. with_place place z.items) q in
            rw (b, r) refl
        | inr b ↦ let q = rw b at h in rw b (ap (λ z. (seen x.0, x.1.items) ∷ z) (changed key place es v w q e))
      ]

  pub lessened : (key : Q) (place : ℕ) (es : List (K × Vec ℕ Z)) (v w : Vec ℕ Z) → lookup (finds eq seen key) es ≡ Some v
      → w.items ≡ without_place place v.items → plain (set_value (finds eq seen key) es w) ≡ unposted eq key place (plain es)
  lessened key place [] v w h e = absurd cc
  lessened key place (x ∷ es) v w h e =
      elim (cases_Bool (eq key (seen x.0))) [
        | inl b ↦
            let q : v ≡ x.1 = (let q' = rw b at h in cc) in
            let r : w.items ≡ without_place place x.1.items = e ∙ ap (λ z. without_place place z.items) q in
            rw (b, r) refl
        | inr b ↦ let q = rw b at h in rw b (ap (λ z. (seen x.0, x.1.items) ∷ z) (lessened key place es v w q e))
      ]

  pub kept : (key : Q) (es : List (K × Vec ℕ Z)) (v w : Vec ℕ Z) → lookup (finds eq seen key) es ≡ Some v → w.items ≡ v.items
      → plain (set_value (finds eq seen key) es w) ≡ plain es
  kept key [] v w h e = absurd cc
  kept key (x ∷ es) v w h e =
      elim (cases_Bool (eq key (seen x.0))) [
        | inl b ↦
            let q : v ≡ x.1 = (let q' = rw b at h in cc) in
            let r : w.items ≡ x.1.items = e ∙ ap (λ z. z.items) q in
            rw (b, r) refl
        | inr b ↦ let q = rw b at h in rw b (ap (λ z. (seen x.0, x.1.items) ∷ z) (kept key es v w q e))
      ]

  pub not_there : (key : Q) (place : ℕ) (es : List (K × Vec ℕ Z)) → lookup (finds eq seen key) es ≡ None
      → plain es ≡ unposted eq key place (plain es)
  not_there key place [] h = refl
  not_there key place (x ∷ es) h =
      elim (cases_Bool (eq key (seen x.0))) [
        | inl b ↦ absurd (let q' = rw b at h in cc)
        | inr b ↦ let q = rw b at h in rw b (ap (λ z. (seen x.0, x.1.items) ∷ z) (not_there key place es q))
      ]

  -- the same of a map that get_mut lent, if ps are the entries as the map is seen
  pub put_back : (key : Q) (place : ℕ) (es fs : List (K × Vec ℕ Z)) (ps : List (Q × List ℕ)) (v w : Vec ℕ Z) → plain es ≡ ps
      → lookup (finds eq seen key) es ≡ Some v → fs ≡ set_value (finds eq seen key) es w → w.items ≡ with_place place v.items
      → plain fs ≡ posted eq key place ps
  put_back key place es fs ps v w p h f e = ap plain f ∙ changed key place es v w h e ∙ ap (λ z. posted eq key place z) p

  pub put_as_was : (key : Q) (es fs : List (K × Vec ℕ Z)) (ps : List (Q × List ℕ)) (v w : Vec ℕ Z) → plain es ≡ ps
      → lookup (finds eq seen key) es ≡ Some v → fs ≡ set_value (finds eq seen key) es w → w.items ≡ v.items → plain fs ≡ ps
  put_as_was key es fs ps v w p h f e = ap plain f ∙ kept key es v w h e ∙ p

  pub put_less : (key : Q) (place : ℕ) (es fs : List (K × Vec ℕ Z)) (ps : List (Q × List ℕ)) (v w : Vec ℕ Z) → plain es ≡ ps
      → lookup (finds eq seen key) es ≡ Some v → fs ≡ set_value (finds eq seen key) es w → w.items ≡ without_place place v.items
      → plain fs ≡ unposted eq key place ps
  put_less key place es fs ps v w p h f e = ap plain f ∙ lessened key place es v w h e ∙ ap (λ z. unposted eq key place z) p

  pub put_none : (key : Q) (place : ℕ) (es fs : List (K × Vec ℕ Z)) (ps : List (Q × List ℕ)) → plain es ≡ ps
      → lookup (finds eq seen key) es ≡ None → fs ≡ es → plain fs ≡ unposted eq key place ps
  put_none key place es fs ps p h f = ap plain f ∙ not_there key place es h ∙ ap (λ z. unposted eq key place z) p

  pub put_first : (key : Q) (place : ℕ) (es fs : List (K × Vec ℕ Z)) (ps : List (Q × List ℕ)) (k : K) (v : Vec ℕ Z) → plain es ≡ ps
      → fs ≡ entries_with es k v → (seen k) ≡ key → v.items ≡ place ∷ [] → is_used_key eq key ps ≡ false → plain fs ≡ posted eq key place ps
  put_first key place es fs ps k v p i e f h = begun es fs k v key place i e f (ap (λ z. is_used_key eq key z) p ∙ h)
      ∙ ap (λ z. posted eq key place z) p

  pub none_there : (key : Q) (es fs : List (K × Vec ℕ Z)) → fs ≡ es → lookup (finds eq seen key) es ≡ None
      → is_used_key eq key (plain fs) ≡ false
  none_there key es fs f h = ap (λ z. is_used_key eq key (plain z)) f ∙ absent key es h

  pub under_some : (key : Q) (es : List (K × Vec ℕ Z)) (ps : List (Q × List ℕ)) (v : Vec ℕ Z) (xs : List ℕ) → plain es ≡ ps
      → lookup (finds eq seen key) es ≡ Some v → xs ≡ v.items → xs ≡ under eq key ps
  under_some key es ps v xs p h e = e ∙ under_found key es v h ∙ ap (λ z. under eq key z) p

  pub under_nothing : (key : Q) (es : List (K × Vec ℕ Z)) (ps : List (Q × List ℕ)) → plain es ≡ ps → lookup (finds eq seen key) es ≡ None
      → [] ≡ under eq key ps
  under_nothing key es ps p h = under_none key es h ∙ ap (λ z. under eq key z) p
