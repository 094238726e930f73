use Rattle.std.proofs.Common.{arith}
use Rattle.tap_engine.proofs.MboxLaws.{few-bytes}
use Rattle.tap_engine.proofs.engine.Engine.refuse_messages.Goals as goal

pub total-requires : goal.total-requires
total-requires c = omega (
  arith,
  few-bytes c.args.texts.now c.in_ok-refuse_long_message.ensures.short,
  c.in_ok-refuse_more.ensures.room,
  c.docs.ensures.count,
)
