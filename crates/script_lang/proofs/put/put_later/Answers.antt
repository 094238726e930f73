use Rattle.std.proofs.Common.{rules, ◌≡◌, ◌++◌, refl, subst}
use Rattle.script_lang.specs.Waits.{Waits, all_wait, none_waits}
use Rattle.script_lang.proofs.put.put_later.Goals as goal

pub returns-in-Ok : goal.returns-in-Ok
returns-in-Ok g c =
    let e : c.try_extend_from_slice.new.self.items ≡ c.args.waiting.now.items ++ c.args.bytes.now = search rules in
    all_wait e refl refl

pub returns-in-Err : goal.returns-in-Err
returns-in-Err g c =
    let w : c.try_extend_from_slice.new.self.items ≡ c.args.waiting.now.items = search rules in
    subst (λ xs. Waits g.K.Sink c.args.start (xs ++ c.args.bytes.now)
    c.put_both.new.waiting.items c.args.sink.now c.put_both.new.sink c.put_both.result) w
    (none_waits c.put_both.ensures.none c.put_both.ensures.put)
