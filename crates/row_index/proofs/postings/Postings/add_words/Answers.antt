use Rattle.std.proofs.Common.{◌≡◌, ◌∙◌, ◌∷◌, ap, sym, refl}
use Rattle.tap_base.specs.Words.{has_text}
use Rattle.row_index.specs.Posts.{noted_then, IsPartlyPosted}
use Rattle.row_index.proofs.TextLaws.{at_err}
use Rattle.row_index.proofs.WordPosts.{adding_none, adding_next, adding_all, adding_failed}
use Rattle.row_index.proofs.postings.Postings.add_words.Goals as goal

pub words-init : goal.words-init
words-init c = record { adding = adding_none c.args.reader.now.left c.args.reader.now.noted c.args.place c.args.self.now; words = refl }

pub words-preserved : goal.words-preserved
words-preserved c =
    let word = c.advance.new.self.word in
    let is : c.words.reader.left ≡ word ∷ c.add_word.new.reader.left = c.advance.ensures.word c.words-test.true
    ∙ ap (λ left. word ∷ left) (sym c.add_word.ensures.left) in
    record {
      adding = adding_next c.args.reader.now.left c.words.reader.left c.add_word.new.reader.left c.args.reader.now.noted
          c.words.reader.noted c.add_word.new.reader.noted word c.args.place c.args.self.now c.words.self c.add_word.new.self is
          c.in_ok-add_word.ensures.ok
          (c.in_ok-add_word.ensures.noted ∙ ap (noted_then c.args.place word c.words.self) c.advance.ensures.noted)
          c.words.invariant.adding;
      words = c.add_word.ensures.words ∙ c.advance.ensures.words ∙ c.words.invariant.words;
    }

pub returns-in_err-add_word-clause-err : goal.returns-in_err-add_word-clause-err
returns-in_err-add_word-clause-err c =
    at_err _ (IsPartlyPosted c.args.reader.now.left c.args.place c.args.self.now c.add_word.new.self)
    (adding_failed c.args.reader.now.left c.words.reader.left c.advance.new.self.left c.args.reader.now.noted c.words.reader.noted
    c.advance.new.self.word c.args.place c.args.self.now c.words.self c.add_word.new.self (c.advance.ensures.word c.words-test.true)
    c.in_err-add_word.ensures.err c.words.invariant.adding)

pub returns-clause-ok : goal.returns-clause-ok
returns-clause-ok c =
    (adding_all c.args.reader.now.left c.words.reader.left c.args.reader.now.noted c.words.reader.noted c.args.place c.args.self.now
    c.words.self (c.advance.ensures.end c.words-test.false) c.words.invariant.adding).0

pub returns-clause-noted : goal.returns-clause-noted
returns-clause-noted c = λ free t.
    ap (λ noted. has_text noted t) c.advance.ensures.noted
    ∙ (adding_all c.args.reader.now.left c.words.reader.left c.args.reader.now.noted c.words.reader.noted c.args.place c.args.self.now
    c.words.self (c.advance.ensures.end c.words-test.false) c.words.invariant.adding).1 free t
