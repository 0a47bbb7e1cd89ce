use Rattle.std.proofs.Common.{rules, refl, ◌∙◌}
use Rattle.pef_core.proofs.FrameRows.{copies_in, copies_out}
use Rattle.pef_core.proofs.at_frame.copy.Goals as goal

pub returns-in-Inward : goal.returns-in-Inward
returns-in-Inward c =
    copies_in c.args.cpu.now c.page_in_copy.new.cpu c.args.frame.now c.args.frame.now c.page_in_copy.result c.in-Inward.page c.args.cmd.now (c.requires.working ∙ search rules) c.requires.ready.aims c.requires.ready.hand c.page_in_copy.ensures.answer c.page_in_copy.ensures.cpu refl c.page_in_copy.ensures.row

pub returns-in-Outward : goal.returns-in-Outward
returns-in-Outward c =
    copies_out c.args.cpu.now c.page_out_copy.new.cpu c.args.frame.now c.page_out_copy.new.frame c.page_out_copy.result c.in-Outward.page c.args.cmd.now (c.requires.working ∙ search rules) c.requires.ready.aims c.requires.ready.hand c.page_out_copy.ensures.answer c.page_out_copy.ensures.cpu c.page_out_copy.ensures.frame c.page_out_copy.ensures.row
