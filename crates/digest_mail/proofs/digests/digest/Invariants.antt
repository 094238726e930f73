use Rattle.std.proofs.Common.{◌≡◌, ◌++◌, ◌+◌, ◌≤◌, drop}
use Rattle.std.specs.List.{flat_map}
use Rattle.mail_fields.specs.Digests.{digest_lines, digested, digested_lines}
use Rattle.digest_mail.proofs.digests.digest.Given as goal

-- the lines are those so far and those of the entries that are left
abbrev pub invariant-loop-entry : goal.invariant-loop-entry
invariant-loop-entry g l = record {
  lines : digest_lines l.name l.ordinal (digested l.index.docs l.entries)
      ≡ l.lines ++ flat_map digested_lines (digested l.index.docs (drop l.entry-index l.entries));
  steps : l.steps ≤ l.fn.steps + l.entry-index;
  more : l.fn.steps ≤ l.steps;
}
