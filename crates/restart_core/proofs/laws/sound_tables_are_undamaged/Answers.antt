use Rattle.restart_core.proofs.DamageLaws as laws
use Rattle.restart_core.proofs.laws.sound_tables_are_undamaged.Goals as goal

pub returns : goal.returns
returns c = record { formed = laws.formed; readable = laws.readable; undamaged = laws.undamaged }
