-- Laws of digests.
use Rattle.std.specs.Prelude.{◌≡◌, ℕ, List, map}
use Rattle.mail_lines.specs.Lines.{NoEnd}
use Rattle.mail_lines.specs.Mbox.{mbox_messages}
use Rattle.mail_fields.specs.Digests.{Digested, digest_text, lined_text}

-- the messages of a digest, read as a mailbox, are the lined texts of its documents, if the name holds no LF
abbrev pub DigestsAreMailboxes : Type 0
DigestsAreMailboxes =
    (name : List ℕ) (ordinal : ℕ) (docs : List Digested) → NoEnd name
    → mbox_messages (digest_text name ordinal docs) ≡ map (λ d. lined_text d.text) docs
