use Rattle.std.proofs.Common.{◌≡◌, ◌++◌, ◌+◌, ◌≤◌, drop, map}
use Rattle.filter_rules.specs.Rules.{rules_in}
use Rattle.filter_rules.specs.Listings.{rated_entry}
use Rattle.appraiser.proofs.listings.rate_entries.Given as goal

-- the rows are those so far and those of the entries that are left; each entry cost at most a step
abbrev pub invariant-loop-entry : goal.invariant-loop-entry
invariant-loop-entry g l = record {
  rows : map (rated_entry (rules_in l.rules) l.index.docs) l.entries
      ≡ l.rows.items ++ map (rated_entry (rules_in l.rules) l.index.docs) (drop l.entry-index l.entries);
  steps : l.steps ≤ l.fn.steps + l.entry-index;
}
