-- The beginnings of lists.
use Rattle.std.specs.Prelude.{◌≡◌, List, ◌++◌}

-- the list begins with the front
pub record IsPrefix {A : Type 0} (front whole : List A) : Type 0 where
  pub rest : List A
  pub is : whole ≡ front ++ rest
