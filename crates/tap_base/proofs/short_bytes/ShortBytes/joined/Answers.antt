use Rattle.tap_base.proofs.ShortLaws.{joined-bytes}
use Rattle.tap_base.proofs.short_bytes.ShortBytes.joined.Goals as goal

pub returns : goal.returns
returns c =
    joined-bytes c.args.front.now c.args.back.now c.copy_from_slice.new.self c.copy_from_slice-2.new.self _ _
    c.copy_from_slice.ensures.after c.copy_from_slice-2.ensures.after
