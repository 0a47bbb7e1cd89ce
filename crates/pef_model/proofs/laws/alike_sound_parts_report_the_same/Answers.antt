use Rattle.pef_model.proofs.SoundReports.{alike_sound_parts_report_the_same}
use Rattle.pef_model.proofs.laws.alike_sound_parts_report_the_same.Goals as goal

pub returns : goal.returns
returns c = alike_sound_parts_report_the_same
