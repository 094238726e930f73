use Rattle.std.proofs.Common.{[], refl}
use Rattle.script_lang.specs.declared.command.Command.TheVariants.{Run}
use Rattle.tap_model.proofs.SoundLaws.{sound-for, sound-asked}
use Rattle.tap_model.proofs.laws.a_sound_point_is_sound_for_each_command.Goals as goal

pub returns : goal.returns
returns c = λ tables session. (
  λ sound command. sound-for command tables session sound,
  λ each. sound-asked (Run []) tables session refl (each (Run [])),
)
