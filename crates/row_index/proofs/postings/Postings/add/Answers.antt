use Rattle.std.proofs.Common.{rules, ap, refl, ◌∙◌}
use Rattle.std.specs.Prelude.{not}
use Rattle.std.proofs.lemmas.Result.{IfOk-weaker, on_ok_weaker, on_err_weaker}
use Rattle.std.specs.Str.{bytes_eq}
use Rattle.row_index.proofs.Entries.{put_back, put_as_was, none_there, under_some, under_nothing}
use Rattle.row_index.specs.Places.{ends_with}
use Rattle.row_index.proofs.postings.Postings.add.Goals as goal

pub begin-requires : goal.begin-requires
begin-requires c = none_there bytes_eq (λ k. k)
    c.args.key.now c.self.inside.places.entries c.get_mut.follows.lender-at-none.entries (search rules) (search rules)

pub returns-in-Some-clause-ok : goal.returns-in-Some-clause-ok
returns-in-Some-clause-ok c =
    on_ok_weaker c.put_place.result (λ e. put_back bytes_eq (λ k. k) c.args.key.now c.args.place c.self.inside.places.entries _ _
    c.in-Some.places.now c.put_place.new.places c.self.view_is (search rules) (c.get_mut.follows.holds c.put_place.new.places).0 e)
    c.put_place.ensures.ok

pub returns-in-Some-clause-err : goal.returns-in-Some-clause-err
returns-in-Some-clause-err c =
    on_err_weaker c.put_place.result (λ e. put_as_was bytes_eq (λ k. k) c.args.key.now c.self.inside.places.entries _ _ c.in-Some.places.now
    c.put_place.new.places c.self.view_is (search rules) (c.get_mut.follows.holds c.put_place.new.places).0 e) c.put_place.ensures.err

pub returns-in-Some-clause-new : goal.returns-in-Some-clause-new
returns-in-Some-clause-new c =
    IfOk-weaker c.put_place.result _ _ (λ new e. e ∙ ap (λ xs. not (ends_with c.args.place xs))
    (under_some bytes_eq (λ k. k) c.args.key.now c.self.inside.places.entries _ c.in-Some.places.now _ c.self.view_is (search rules) refl))
    c.put_place.ensures.new

pub returns-in_ok-begin-in-None-clause-new : goal.returns-in_ok-begin-in-None-clause-new
returns-in_ok-begin-in-None-clause-new c = ap (λ xs. not (ends_with c.args.place xs))
    (under_nothing bytes_eq (λ k. k) c.args.key.now c.self.inside.places.entries _ c.self.view_is (search rules))
