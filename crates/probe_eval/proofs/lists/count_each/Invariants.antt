use Rattle.std.proofs.Common.{◌≡◌, ◌+◌, ◌*◌, ◌≤◌, drop, length}
use Rattle.probe_eval.specs.Shortest.{count_each}
use Rattle.probe_eval.proofs.lists.count_each.Given as goal

-- the number is that of the texts so far and that of the others
abbrev pub invariant-loop-text : goal.invariant-loop-text
invariant-loop-text l = record {
  whole : count_each l.field l.index l.texts ≡ l.sum + count_each l.field l.index (drop l.text-index l.texts);
  short : count_each l.field l.index l.texts ≤ 4294967295 * length l.texts;
}
