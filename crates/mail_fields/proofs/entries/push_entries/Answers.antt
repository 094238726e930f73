use Rattle.mail_fields.proofs.EntryLaws.{entries-step}
use Rattle.mail_fields.proofs.entries.push_entries.Goals as goal

pub parts-preserved : goal.parts-preserved
parts-preserved c = rw c.after_byte-rest.ensures (entries-step c.args.end _ c.parts.into c.push_entry.new.into c.parts.rest.now
    c.entry_len-len.result c.parts.invariant c.entry_len-len.ensures.value c.in_ok-push_entry.ensures)
