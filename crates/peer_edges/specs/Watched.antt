-- What a watched source saw.
use Rattle.std.specs.Prelude.{ℕ, ◌≡◌, ◌⊎◌, List, [], ◌∷◌, Option, Some, drop}
use Rattle.peer_edges.specs.declared.watched_source.Seen.{Seen}

-- among what a source over these bytes saw is a time when these were left and these were out
abbrev pub WasSeen : List ℕ → List Seen → Option (List ℕ) → Option (List ℕ) → Type 0
WasSeen bytes [] left out = ⊥
WasSeen bytes (seen ∷ more) left out = ((left ≡ Some (drop seen.at bytes)) × (out ≡ Some seen.out)) ⊎ WasSeen bytes more left out
