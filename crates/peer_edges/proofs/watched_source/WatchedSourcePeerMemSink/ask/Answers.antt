use Rattle.std.proofs.Common.{◌∙◌}
use Rattle.peer_edges.proofs.SeenLaws.{seen-once, seen-now}
use Rattle.peer_edges.proofs.watched_source.WatchedSourcePeerMemSink.ask.Goals as goal

pub returns-clause-asked : goal.returns-clause-asked
returns-clause-asked c = λ l o was.
    seen-once c.args.self.now.bytes c.args.self.now.seen.items c.push.new.self.items (record { at = c.args.self.now.at; out = c.in-Ok.out })
    c.args.sink.now.taken c.in-Ok-push.ensures.items (c.in-Ok.ensures ∙ c.written.ensures) l o was

pub returns-clause-told : goal.returns-clause-told
returns-clause-told c =
    seen-now c.args.self.now.bytes c.args.self.now.seen.items c.push.new.self.items (record { at = c.args.self.now.at; out = c.in-Ok.out })
    c.args.sink.now.taken c.in-Ok-push.ensures.items (c.in-Ok.ensures ∙ c.written.ensures)
