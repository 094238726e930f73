use Rattle.std.proofs.Common.{◌∙◌, ap, subst, sym, length}
use Rattle.std.specs.Io.KnownBytes.{Appends}
use Rattle.std.proofs.Math.Seq.{take-length}
use Rattle.pop_box.specs.Served.{box_line}
use Rattle.pop_box.proofs.no_box.refuse_box.Goals as goal

pub returns-in-Ok-clause-line : goal.returns-in-Ok-clause-line
returns-in-Ok-clause-line g c = record {
  n = length box_line;
  written = subst (Appends (g.K.Sink.out c.args.sink.now) (g.K.Sink.out c.put.new.self)) (sym (take-length box_line)) c.in-Ok.ensures.ok;
  whole = λ _. take-length box_line;
}
