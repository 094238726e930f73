use Rattle.pop_session.proofs.Grows.{replies-grow}
use Rattle.pop_session.proofs.laws.replies_grow.Goals as goal

pub returns : goal.returns
returns c = replies-grow
