use Rattle.std.proofs.Common.{rules, ◌≡◌, ◌∙◌, true, sym, ap}
use Rattle.access_plan.specs.declared.access.Access.TheVariants.{ByNumber, ByText, Whole}
use Rattle.tql_core.specs.declared.atom.NumField.TheVariants.{DocOf, Value}
use Rattle.access_plan.specs.Views.{access_at}
use Rattle.probe_eval.specs.Shortest.{count_each}
use Rattle.probe_eval.specs.Work.{listed_texts, is_list, access_length}
use Rattle.probe_eval.proofs.ShortestLaws.{counted_each, none_counted}
use Rattle.probe_eval.proofs.lists.other_length.Goals as goal

pub returns-in-ByNumber-DocOf-default : goal.returns-in-ByNumber-DocOf-default
returns-in-ByNumber-DocOf-default c =
    let n : c.count_notes.result ≡ access_length c.args.index.now c.args.env.now (ByNumber DocOf c.in-ByNumber-DocOf-default.e) =
    search rules in
    let a : access_at c.args.access ≡ ByNumber DocOf c.in-ByNumber-DocOf-default.e = search rules in
    n ∙ sym (ap (access_length c.args.index.now c.args.env.now) a)

pub returns-in-ByNumber-Value-default : goal.returns-in-ByNumber-Value-default
returns-in-ByNumber-Value-default c =
    let n : c.count_valued.result ≡ access_length c.args.index.now c.args.env.now (ByNumber Value c.in-ByNumber-Value-default.e) =
    search rules in
    let a : access_at c.args.access ≡ ByNumber Value c.in-ByNumber-Value-default.e = search rules in
    n ∙ sym (ap (access_length c.args.index.now c.args.env.now) a)

pub returns-in-ByText : goal.returns-in-ByText
returns-in-ByText c =
    let n : c.count_text.result ≡ access_length c.args.index.now c.args.env.now (ByText c.in-ByText.field c.in-ByText.e.now) =
    search rules in
    n ∙ sym (ap (λ a. access_length c.args.index.now c.args.env.now (access_at a)) c.in-ByText.is)

pub returns-in-ByEach : goal.returns-in-ByEach
returns-in-ByEach c =
    let texts = listed_texts c.in-ByEach.var c.in-ByEach.list c.args.env.now in
    let n : c.count_each.result ≡ count_each c.in-ByEach.field c.args.index.now texts = search rules in
    n ∙ counted_each c.in-ByEach.field c.args.index.now texts
    ∙ sym (ap (λ a. access_length c.args.index.now c.args.env.now (access_at a)) c.in-ByEach.is)

pub returns-in-Whole : goal.returns-in-Whole
returns-in-Whole c =
    let n : c.count_rows.result ≡ access_length c.args.index.now c.args.env.now (Whole c.in-Whole.table) = search rules in
    n ∙ sym (ap (λ a. access_length c.args.index.now c.args.env.now (access_at a)) c.in-Whole.is)

pub returns-in_default : goal.returns-in_default
returns-in_default c =
    let l : is_list (access_at c.args.access) ≡ true = search rules in
    none_counted c.args.index.now (access_at c.args.access) c.args.env.now l c.requires
