-- When a run is next worthwhile, by the least mark among what would be found.
use Rattle.std.specs.Prelude.{ℤ, pos, ◌+ℤ◌, Option, Some, None, List, [], ◌∷◌, int_le, if◌then◌else◌}
use Rattle.std.specs.Option.{option_map}
use Rattle.tap_rows.specs.declared.results.Hit.{Hit}

-- the lesser of two seconds
abbrev pub lesser : ℤ → ℤ → ℤ
lesser a b = if int_le a b then a else b

-- the greater of two seconds
abbrev pub greater : ℤ → ℤ → ℤ
greater a b = if int_le a b then b else a

-- the lesser of a second and another one, if there is one
abbrev pub lesser_or : ℤ → Option ℤ → Option ℤ
lesser_or a None = Some a
lesser_or a (Some b) = Some (lesser a b)

-- the least mark among hits, if there is one
abbrev pub least_mark : List Hit → Option ℤ
least_mark [] = None
least_mark (h ∷ hs) = lesser_or h.first (least_mark hs)

-- the second after a mark
abbrev pub after_mark : ℤ → ℤ
after_mark b = b +ℤ pos 1

-- the greater of now and the second after the least mark, if there is a hit
abbrev pub next_wake : ℤ → List Hit → Option ℤ
next_wake now hits = option_map (λ b. greater now (after_mark b)) (least_mark hits)
