-- Two databases that the same files hold are equal.
use Rattle.std.proofs.Common.{◌≡◌, ◌≢◌, true, ℕ, ◌+◌, ◌*◌, ◌-◌, ◌≤◌, List, map, Some}
use Rattle.std.proofs.Common.{inl, inr, sym, ap, subst, ◌∙◌, arith}
use Rattle.std.proofs.lemmas.Bool.{cases_eq}
use Rattle.sqlite_wal.specs.Format.{be32}
use Rattle.sqlite_wal.specs.PageSize.{IsPageSize, size_in_file}
use Rattle.sqlite_wal.specs.Recovery.{Image, IsIgnored}
use Rattle.sqlite_wal.specs.Recovery as raw
use Rattle.sqlite_wal.proofs.RecoveryLemmas as log
use Rattle.sqlite_pages.specs.PageMap.{PageMap}
use Rattle.sqlite_pool.specs.Stored.{reserved, stored_size, trimmed, Recovers, Adopts}
use Rattle.sqlite_pool.specs.File.{in_use, header_in, version_in}
use Rattle.sqlite_pool.specs.Header.{stated_page_count}
use Rattle.sqlite_pool.proofs.ProbeLemmas.{size_by_log, size_by_file, reserved_word}
use Rattle.sqlite_trees.specs.Tree.{Trees}
use Rattle.sqlite_trees.specs.Objects.{with_version}
use Rattle.sqlite_store.specs.Listing.{IsOurs, file_trees}
use Rattle.sqlite_store.proofs.AlikeLemmas.{same_file}
use Rattle.sqlite.specs.Files.{HoldsDatabase}
use Rattle.sqlite.specs.Opening.{HoldsBy, HoldsAt, HoldsIn}
use Rattle.sqlite.proofs.OpenLemmas.{meets}
use Rattle.keeper_file.specs.PageImage.{row, row_recovers}
use Rattle.keeper_file.specs.OneLayout.{listed_once}

-- ---- one size

pub large : (size : ℕ) → IsPageSize (stored_size size) → 504 ≤ size
large size is = let few : reserved size ≤ 8 = grind arith in omega (arith, is.0)

module _ (image : Image) (a b : Trees) (p : HoldsDatabase image a) (q : HoldsDatabase image b) where
  same_stored : stored_size p.0 ≡ stored_size q.0
  same_stored = elim (cases_eq (stored_size p.0) (stored_size q.0)) [
    | inl same ↦ same
    | inr other ↦
        let seen : ¬ (¬ IsIgnored image.log) =
        λ read. other (sym (size_by_log p.0 image p.2.pages p.2.found read) ∙ size_by_log q.0 image q.2.pages q.2.found read) in
        absurd (seen (λ ignored. other (sym (size_by_file p.0 image p.2.pages p.2.found (large p.0 p.1) p.2.ours.file.sound ignored)
        ∙ size_by_file q.0 image q.2.pages q.2.found (large q.0 q.1) q.2.ours.file.sound ignored)))
  ]

  same_size : p.0 ≡ q.0
  same_size =
      let x = reserved_word p.0 image p.2.pages p.2.found (large p.0 p.1) p.2.ours.file.sound in
      let y = reserved_word q.0 image q.2.pages q.2.found (large q.0 q.1) q.2.ours.file.sound in
      let moved = subst (λ n. raw.Recovers n image p.2.found.stored) same_stored p.2.found.found in
      let pages = log.recovers_once (stored_size q.0) image p.2.found.stored q.2.found.stored moved q.2.found.found in
      let both : Some x.0 ≡ Some y.0 = sym x.1 ∙ ap (λ (f : PageMap). f 1) pages ∙ y.1 in
      let first : x.0 ≡ y.0 = cc in
      let word : reserved p.0 * 0x100_0000 + 0x0040_2020 ≡ reserved q.0 * 0x100_0000 + 0x0040_2020 = sym x.3 ∙ ap (λ f. be32 f 20) first
      ∙ y.3 in
      omega (arith, word, same_stored)

-- ---- at one size, one database

module _ (size : ℕ) (image : Image) (big : 504 ≤ size) (a b : Trees) (p : HoldsIn size image a) (q : HoldsIn size image b) where
  same_pages : q.pages ≡ p.pages
  same_pages = sym q.found.shows
      ∙ ap (trimmed size) (log.recovers_once (stored_size size) image q.found.stored p.found.stored q.found.found p.found.found)
      ∙ p.found.shows

  abbrev pages : PageMap
  pages = p.pages

  abbrev left : Image
  left = row size pages (omega (arith, big)) p.ours.file.whole (stated_page_count (header_in pages)) p.ours.file.sound.counted

  found : Recovers size left pages
  found = row_recovers size pages (omega (arith, big)) p.ours.file.whole (stated_page_count (header_in pages)) p.ours.file.sound.counted

  ours : IsOurs size true q.wanted pages
  ours = subst (IsOurs size true q.wanted) same_pages q.ours

  reads : b ≡ file_trees size q.wanted pages
  reads = q.reads ∙ ap (file_trees size q.wanted) same_pages

  one_at : a ≡ b
  one_at =
      let x : HoldsAt size left a =
      record { pages = pages; wanted = p.wanted; schema = p.schema; found = found; ours = p.ours; reads = p.reads; sound = p.sound } in
      let y : HoldsAt size left b =
      record { pages = pages; wanted = q.wanted; schema = q.schema; found = found; ours = ours; reads = reads; sound = q.sound } in
      let listed = listed_once p.schema q.schema p.wanted q.wanted _ _ (meets x) (meets y) in
      let same = same_file size p.wanted q.wanted pages (sym listed) p.ours in
      p.reads ∙ ap (λ trees. with_version trees (version_in pages)) (sym same.1) ∙ sym reads

pub holds_one : (image : Image) (a b : Trees) → HoldsDatabase image a → HoldsDatabase image b → a ≡ b
holds_one image a b p q =
    let same = same_size image a b p q in
    one_at q.0 image (large q.0 q.1) a b (subst (λ n. HoldsIn n image a) same p.2) q.2
