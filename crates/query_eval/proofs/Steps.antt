-- One turn of a loop over rows whose hits are stored.
use Rattle.std.proofs.Common.{◌≡◌, ◌∙◌, ℕ, List, [], ◌∷◌, ◌++◌, refl, sym, ap}
use Rattle.std.specs.List.{flat_map}
use Rattle.tap_rows.specs.declared.results.Hit.{Hit}
use Rattle.query_eval.specs.Lowest.{with_hit, keeping}

pub keeping_append : (n : ℕ) (kept xs ys : List Hit) → keeping n kept (xs ++ ys) ≡ keeping n (keeping n kept xs) ys
keeping_append n kept [] ys = refl
keeping_append n kept (x ∷ xs) ys = keeping_append n (with_hit n kept x) xs ys

module _ {A : Type 0} where
  -- the hits of the row that was handed out are stored
  pub hits_step : (f : A → List Hit) (whole : List Hit) (n k : ℕ) (kept now : List Hit) (rows left : List A) (r : A) → whole
      ≡ keeping n kept (flat_map f rows) → rows ≡ r ∷ left → now ≡ keeping n kept (f r) → k ≡ n → whole ≡ keeping k now (flat_map f left)
  hits_step f whole n k kept now rows left r h e g q =
      h ∙ ap (λ z. keeping n kept (flat_map f z)) e ∙ keeping_append n kept (f r) (flat_map f left)
      ∙ ap (λ z. keeping n z (flat_map f left)) (sym g) ∙ ap (λ z. keeping z now (flat_map f left)) (sym q)

  -- if no row that is left has a hit, those so far are all
  pub hits_end : (f : A → List Hit) (whole : List Hit) (n k : ℕ) (kept now : List Hit) (rows left : List A) (r : A)
      → whole ≡ keeping n kept (flat_map f rows) → rows ≡ r ∷ left → now ≡ keeping n kept (f r) → k ≡ n → flat_map f left ≡ [] → now ≡ whole
  hits_end f whole n k kept now rows left r h e g q z = sym (hits_step f whole n k kept now rows left r h e g q ∙ ap (keeping k now) z)
