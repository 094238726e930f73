use Rattle.std.proofs.Common.{◌≡◌, ◌≤◌, ◌++◌, drop, take, map, length}
use Rattle.tap_rows.specs.Results.{entry_at}
use Rattle.tap_kept.specs.Keeping.{AreNew}
use Rattle.tap_kept.proofs.entries.push_hits.Given as goal

-- the entries that were there, and after them those of the hits that were added
abbrev pub invariant-loop-hit : goal.invariant-loop-hit
invariant-loop-hit l = record {
  all : l.fn.entries ++ map (entry_at l.run) l.hits ≡ l.entries ++ map (entry_at l.run) (drop l.hit-index l.hits);
  back : take (length l.fn.entries) l.entries ≡ l.fn.entries;
  new : AreNew l.entries (drop l.hit-index l.hits);
  more : length l.fn.entries ≤ length l.entries;
}
