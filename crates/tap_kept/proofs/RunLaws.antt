-- The entries of one run.
use Rattle.std.proofs.Common.{◌≡◌, sym, ℕ, List, ◌++◌}
use Rattle.std.specs.Prelude.{◌==◌}
use Rattle.std.proofs.lemmas.List.Elements.{filter-append}
use Rattle.tap_rows.specs.declared.results.Entry.{Entry}
use Rattle.tap_model.specs.Replies.{entries_in_run}

-- those among some entries, and then those among more
pub run-append : (run : ℕ) (entries more : List Entry)
    → entries_in_run run entries ++ entries_in_run run more ≡ entries_in_run run (entries ++ more)
run-append run entries more = sym (filter-append (λ (entry : Entry). entry.run == run) entries more)
