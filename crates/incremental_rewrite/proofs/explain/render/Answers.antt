use Rattle.std.proofs.Common.{◌∙◌, ap, map}
use Rattle.time_marks.specs.Views.{probe_in}
use Rattle.incremental_rewrite.specs.Lines.{probe_line}
use Rattle.incremental_rewrite.proofs.Lined.{lined}
use Rattle.incremental_rewrite.proofs.explain.render.Goals as goal

pub returns : goal.returns
returns c =
    let query = c.args.query.now in
    c.in_ok-lines.ensures ∙ ap (map (λ part. probe_line (probe_in query.pool part.probe))) c.as_slice.ensures ∙ lined query.pool query.parts
