use Rattle.std.proofs.Common.{◌∙◌, subst}
use Rattle.std.specs.Io.KnownBytes.{Appends}
use Rattle.tap_top.specs.Refusals.{stop_line}
use Rattle.tap_top.proofs.Refusals.{CutLine-whole}
use Rattle.tap_top.proofs.refusing.refuse.Goals as goal

pub returns-in-Ok-clause-line : goal.returns-in-Ok-clause-line
returns-in-Ok-clause-line g c = CutLine-whole 6 (stop_line c.args.fault) (g.K.Sink.out c.args.sink.now) (g.K.Sink.out c.put.new.self)
    (subst (λ xs. Appends (g.K.Sink.out c.args.sink.now) (g.K.Sink.out c.put.new.self) xs) (c.as_slice.ensures.value ∙ c.line.ensures)
    c.in-Ok.ensures.ok)
