use Rattle.tap_model.proofs.SoundLaws.{sound-start, step-sound, step-sound-for}
use Rattle.tap_model.proofs.laws.every_step_is_sound.Goals as goal

pub returns : goal.returns
returns c = record {
  first = sound-start;
  next = step-sound;
  each = λ tables session command reply tables' session' step sound other for-other.
      step-sound-for tables session command reply tables' session' other step sound for-other;
}
