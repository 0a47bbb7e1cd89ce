use Rattle.pef_model.proofs.SoundParts.{each_sound_part}
use Rattle.pef_model.proofs.fresh_laws.each_sound_part.Goals as goal

pub returns : goal.returns
returns c = each_sound_part
