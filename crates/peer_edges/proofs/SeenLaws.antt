-- What a watched source saw, with one time more.
use Rattle.std.proofs.Common.{◌≡◌, refl, subst, sym, ℕ, List, [], ◌∷◌, ◌++◌, Option, Some, inl, inr, drop}
use Rattle.std.specs.Prelude.{◌⊎◌}
use Rattle.peer_edges.specs.declared.watched_source.Seen.{Seen}
use Rattle.peer_edges.specs.Watched.{WasSeen}

pub seen-more : (bytes : List ℕ) (old : List Seen) (one : Seen) (l o : Option (List ℕ))
    → WasSeen bytes (old ++ one ∷ []) l o → WasSeen bytes old l o ⊎ ((l ≡ Some (drop one.at bytes)) × (o ≡ Some one.out))
seen-more bytes [] one l o (inl is) = inr is
seen-more bytes [] one l o (inr none) = absurd none
seen-more bytes (first ∷ old) one l o (inl is) = inl (inl is)
seen-more bytes (first ∷ old) one l o (inr later) = next (seen-more bytes old one l o later) where
  next : WasSeen bytes old l o ⊎ ((l ≡ Some (drop one.at bytes)) × (o ≡ Some one.out))
      → WasSeen bytes (first ∷ old) l o ⊎ ((l ≡ Some (drop one.at bytes)) × (o ≡ Some one.out))
  next (inl was) = inl (inr was)
  next (inr is) = inr is

pub seen-last : (bytes : List ℕ) (old : List Seen) (one : Seen) → WasSeen bytes (old ++ one ∷ []) (Some (drop one.at bytes)) (Some one.out)
seen-last bytes [] one = inl (refl, refl)
seen-last bytes (first ∷ old) one = inr (seen-last bytes old one)

pub seen-once : (bytes : List ℕ) (old new : List Seen) (one : Seen) (taken : List ℕ) → new ≡ old ++ one ∷ [] → one.out ≡ taken
    → (l o : Option (List ℕ)) → WasSeen bytes new l o → WasSeen bytes old l o ⊎ ((l ≡ Some (drop one.at bytes)) × (o ≡ Some taken))
seen-once bytes old new one taken is out l o was =
    subst (λ xs. WasSeen bytes old l o ⊎ ((l ≡ Some (drop one.at bytes)) × (o ≡ Some xs))) out
    (seen-more bytes old one l o (subst (λ xs. WasSeen bytes xs l o) is was))

pub seen-now : (bytes : List ℕ) (old new : List Seen) (one : Seen) (taken : List ℕ) → new ≡ old ++ one ∷ [] → one.out ≡ taken
    → WasSeen bytes new (Some (drop one.at bytes)) (Some taken)
seen-now bytes old new one taken is out =
    subst (λ xs. WasSeen bytes new (Some (drop one.at bytes)) (Some xs)) out
    (subst (λ xs. WasSeen bytes xs (Some (drop one.at bytes)) (Some one.out)) (sym is) (seen-last bytes old one))
