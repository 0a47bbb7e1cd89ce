use Rattle.pef_model.proofs.SeenReports.{alike_report_the_same}
use Rattle.pef_model.proofs.laws.alike_report_the_same.Goals as goal

pub returns : goal.returns
returns c = alike_report_the_same
