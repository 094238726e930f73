use Rattle.std.proofs.Common.{◌≡◌, ◌∙◌, sym, ap, List, ℕ}
use Rattle.tap_rows.specs.declared.rows.Doc.{Doc}
use Rattle.tap_rows.specs.declared.fields.Fields.{Fields}
use Rattle.tap_rows.specs.Fields.{fields_of}
use Rattle.tap_rows.proofs.kept_doc.KeptDoc.set_words.Goals as goal

with-words : (f g : Fields) (words : List (List ℕ)) → f ≡ g → words ≡ g.words → record {
  date = f.date;
  from = f.from;
  subject = f.subject;
  msgid = f.msgid;
  inreplyto = f.inreplyto;
  to = f.to;
  cc = f.cc;
  newsgroups = f.newsgroups;
  references = f.references;
  words = words;
  size = f.size;
} ≡ g
with-words f g words e is j = record {
  date = (e j).date;
  from = (e j).from;
  subject = (e j).subject;
  msgid = (e j).msgid;
  inreplyto = (e j).inreplyto;
  to = (e j).to;
  cc = (e j).cc;
  newsgroups = (e j).newsgroups;
  references = (e j).references;
  words = is j;
  size = (e j).size;
}

pub invariant_of-self : goal.invariant_of-self
invariant_of-self c = with-words c.self.inside.fields (fields_of c.self.inside.doc.text) c.args.words c.self.invariant
    (c.requires ∙ ap (λ (doc : Doc). (fields_of doc.text).words) (sym c.self.view_is))
