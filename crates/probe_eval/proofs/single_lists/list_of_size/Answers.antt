use Rattle.std.proofs.Common.{rules, arith, ◌≡◌, ◌<◌, ◌^◌, refl, Some, pos}
use Rattle.row_index.specs.Numbers.{of_size}
use Rattle.probe_eval.proofs.SingleListLaws.{short_key, no_short_key}
use Rattle.probe_eval.proofs.single_lists.list_of_size.Goals as goal

pub returns-in-None-clause-none : goal.returns-in-None-clause-none
returns-in-None-clause-none c h = no_short_key c.args.num (c.short.ensures.none c.in-None.is)

pub returns-in-Some-clause-some : goal.returns-in-Some-clause-some
returns-in-Some-clause-some c =
    let k : c.args.num ≡ Some (pos c.in-Some.size) = search rules in
    let e : c.of_size.result ≡ of_size c.in-Some.size c.args.index.now.docs = search rules in
    let fits : c.in-Some.size < 2 ^ 32 = search rules in
    record {
      kind = refl;
      size = c.in-Some.size;
      is = k;
      key = short_key c.args.num c.in-Some.size k (omega (arith, fits));
      docs = e;
    }
