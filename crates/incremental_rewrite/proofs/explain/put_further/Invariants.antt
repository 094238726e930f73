use Rattle.std.proofs.Common.{◌≡◌, ◌++◌, drop, codes}
use Rattle.std.specs.List.{flat_map}
use Rattle.incremental_rewrite.specs.Lines.{atom_text}
use Rattle.incremental_rewrite.proofs.explain.put_further.Given as goal

-- what is left follows what was put
abbrev pub invariant-loop-atom : goal.invariant-loop-atom
invariant-loop-atom l = l.fn.into ++ flat_map (λ a. codes " AND " ++ atom_text a) l.atoms
    ≡ l.into ++ flat_map (λ a. codes " AND " ++ atom_text a) (drop l.atom-index l.atoms)
