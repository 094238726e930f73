use Rattle.std.proofs.Common.{rules, ◌≡◌, ◌∙◌, ◌<◌, ◌≤◌, Some, length}
use Rattle.std.specs.Prelude.{slice_get}
use Rattle.std.proofs.lemmas.Option.{slice_get_read}
use Rattle.access_plan.proofs.InnerLaws.{found_accesses, none_beyond}
use Rattle.access_plan.proofs.query_plan.Plan.inner_accesses.Goals as goal

pub returns-in-None : goal.returns-in-None
returns-in-None c =
    let over : length c.args.self.now.inners ≤ c.args.id.0 = search rules in
    none_beyond c.args.self.now.query.pool c.args.self.now.inners c.args.id.0 c.args.var c.args.table _ c.args.self.now.found over
    c.requires

pub returns-in-Some : goal.returns-in-Some
returns-in-Some c =
    let inners = c.args.self.now.inners in
    let within : c.args.id.0 < length inners = search rules in
    let read : slice_get inners c.args.id.0 ≡ Some c.in-Some.found.now = search (rules, slice_get_read) in
    c.as_slice-in-Some.ensures ∙ found_accesses c.args.self.now.query.pool inners c.args.id.0 c.in-Some.found.now c.args.var c.args.table _
    c.args.self.now.found read c.requires
