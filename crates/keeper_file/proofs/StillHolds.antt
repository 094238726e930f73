-- What an open that failed left of the files still holds their database.
use Rattle.std.proofs.Common.{◌≡◌, ◌⊎◌, ℕ, ◌+◌, ◌*◌, ◌≤◌, List, Some, IsTrue, true, inl, inr, refl, sym, ap, subst, ◌∙◌, arith}
use Rattle.std.proofs.lemmas.Bool.{cases_eq, eq-eqb}
use Rattle.sqlite_wal.specs.Format.{be32}
use Rattle.sqlite_wal.specs.Recovery.{Image, IsIgnored}
use Rattle.sqlite_wal.specs.Recovery as raw
use Rattle.sqlite_pool.specs.Stored.{reserved, stored_size, is_summed, Adopts, StandsAs}
use Rattle.sqlite_pool.proofs.ProbeLemmas.{size_by_log, size_by_file, reserved_word}
use Rattle.sqlite_trees.specs.Tree.{Trees}
use Rattle.sqlite.specs.Files.{HoldsDatabase, NamesSize, SaysSums}
use Rattle.sqlite.specs.Opening.{HoldsIn}
use Rattle.keeper_file.specs.OneDatabase.{large}

module _ (size : ℕ) (old : Image) (named : NamesSize old (stored_size size)) (sums : IsTrue (is_summed size)
    → SaysSums (stored_size size) old) (db : Trees) (held : HoldsDatabase old db) (plain : reserved held.0 ≡ 0) where
  found_stored : stored_size held.0 ≡ stored_size size
  found_stored = elim (cases_eq (stored_size held.0) (stored_size size)) [
    | inl same ↦ same
    | inr other ↦
        let seen : ¬ (¬ IsIgnored old.log) =
        λ read. other (sym (size_by_log held.0 old held.2.pages held.2.found read) ∙ sym (named.0 read)) in
        absurd (seen (λ ignored. other (sym (size_by_file held.0 old held.2.pages held.2.found (large held.0 held.1)
        held.2.ours.file.sound ignored) ∙ sym (named.1 ignored))))
  ]

  not_summed : ¬ IsTrue (is_summed size)
  not_summed has =
      let word = reserved_word held.0 old held.2.pages held.2.found (large held.0 held.1) held.2.ours.file.sound in
      let moved = subst (λ n. raw.Recovers n old held.2.found.stored) found_stored held.2.found.found in
      let says = sums has held.2.found.stored word.0 moved word.1 (word.2 ∙ found_stored) in
      omega (arith, says, word.3, plain)

  found_size : held.0 ≡ size
  found_size =
      elim (cases_eq (reserved size) 8) [
        | inl eight ↦ absurd (not_summed (eq-eqb (reserved size) 8 eight))
        | inr other ↦ grind (arith, found_stored, plain, other)
      ]

  pub still_holds : (new : Image) → StandsAs size old new → HoldsDatabase new db
  still_holds new stands =
      let it : HoldsIn held.0 old db = held.2 in (
        held.0,
        held.1,
        record {
          pages = it.pages;
          wanted = it.wanted;
          schema = it.schema;
          found = subst (λ n. Adopts n new it.pages) (sym found_size)
              (stands.1 it.pages (subst (λ n. Adopts n old it.pages) found_size it.found));
          ours = it.ours;
          reads = it.reads;
          sound = it.sound;
        },
      )
