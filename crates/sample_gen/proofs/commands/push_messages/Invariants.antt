use Rattle.std.proofs.Common.{◌-◌, ◌≡◌, ◌≤◌, ◌++◌}
use Rattle.sample_gen.specs.Samples.{generator_after, commands_of_messages}
use Rattle.sample_gen.proofs.commands.push_messages.Given as goal

abbrev pub invariant-messages : goal.invariant-messages
invariant-messages l = record {
  within : l.done ≤ l.n;
  state : l.state ≡ generator_after l.done;
  commands : l.commands ≡ l.fn.commands ++ commands_of_messages l.done;
}

abbrev pub decreases-messages : goal.decreases-messages
decreases-messages l = l.n - l.done
