-- One hit a document, with its least second.
use Rattle.std.specs.Prelude.{ℕ, Bool, ◌&&◌, List, [], ◌∷◌, nat_eq, nat_lt, nat_le, int_le, if◌then◌else◌}
use Rattle.std.specs.List.{list_any}
use Rattle.tap_rows.specs.declared.results.Hit.{Hit}

-- the one of the lesser second
abbrev pub lower : Hit → Hit → Hit
lower x h = if int_le x.first h.first then x else h

-- the stored hits with one more, or with that of its document lowered
abbrev pub with_lowered : List Hit → Hit → List Hit
with_lowered [] h = h ∷ []
with_lowered (x ∷ xs) h = if nat_eq x.doc.0 h.doc.0 then lower x h ∷ xs else x ∷ with_lowered xs h

-- the stored hits after all of these
abbrev pub lowest : List Hit → List Hit → List Hit
lowest kept [] = kept
lowest kept (h ∷ hs) = lowest (with_lowered kept h) hs

-- has the document a place among n?
abbrev pub has_place : ℕ → ℕ → Bool
has_place n doc = nat_lt 0 doc && nat_le doc n

-- the stored hits with one more, if its document has a place
abbrev pub with_hit : ℕ → List Hit → Hit → List Hit
with_hit n kept h = if has_place n h.doc.0 then with_lowered kept h else kept

-- the stored hits after all of these, of documents whose number has a place
abbrev pub keeping : ℕ → List Hit → List Hit → List Hit
keeping n kept [] = kept
keeping n kept (h ∷ hs) = keeping n (with_hit n kept h) hs

-- is one of the hits of the same document, and no later?
abbrev pub has_lower : List Hit → Hit → Bool
has_lower hits h = list_any (λ x. nat_eq x.doc.0 h.doc.0 && int_le x.first h.first) hits
