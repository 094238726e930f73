use Rattle.std.proofs.Common.{◌∷◌, [], ◌∙◌, ap, refl}
use Rattle.std.proofs.lemmas.Result.{on_ok_weaker}
use Rattle.std.specs.Str.{bytes_eq}
use Rattle.row_index.specs.Places.{posted}
use Rattle.row_index.specs.Posts.{IsPartlyPosted}
use Rattle.row_index.proofs.TextLaws.{at_err}
use Rattle.row_index.proofs.WordPosts.{noted_new, noted_old}
use Rattle.row_index.proofs.postings.Postings.add_word.Goals as goal

pub returns-in_err-new-clause-err : goal.returns-in_err-new-clause-err
returns-in_err-new-clause-err c = at_err _ (IsPartlyPosted (c.args.reader.now.word ∷ []) c.args.place c.args.self.now c.add.new.self)
    (0, c.in_err-new.ensures.err)

pub returns-then-new-clause-ok : goal.returns-then-new-clause-ok
returns-then-new-clause-ok c = on_ok_weaker c.note.result (λ _. c.in_ok-new.ensures.ok
    ∙ ap (λ key. posted bytes_eq key c.args.place c.args.self.now) c.word.ensures) c.note.ensures.noted

pub returns-then-new-clause-noted : goal.returns-then-new-clause-noted
returns-then-new-clause-noted c = on_ok_weaker c.note.result (λ more. noted_new c.args.place c.args.reader.now.word c.word.result.now
    c.args.self.now c.args.reader.now.noted c.note.new.self.noted c.in_ok-new.new c.word.ensures c.in_ok-new.ensures.new
    c.if-new.true more) c.note.ensures.noted

pub returns-then-new-clause-err : goal.returns-then-new-clause-err
returns-then-new-clause-err c = at_err c.note.result
    (IsPartlyPosted (c.args.reader.now.word ∷ []) c.args.place c.args.self.now c.add.new.self)
    (1, c.in_ok-new.ensures.ok ∙ ap (λ key. posted bytes_eq key c.args.place c.args.self.now) c.word.ensures)

pub returns-clause-ok : goal.returns-clause-ok
returns-clause-ok c = c.in_ok-new.ensures.ok ∙ ap (λ key. posted bytes_eq key c.args.place c.args.self.now) c.word.ensures

pub returns-clause-noted : goal.returns-clause-noted
returns-clause-noted c = noted_old c.args.place c.args.reader.now.word c.word.result.now
    c.args.self.now c.args.reader.now.noted c.args.reader.now.noted c.in_ok-new.new c.word.ensures c.in_ok-new.ensures.new
    c.if-new.false refl
