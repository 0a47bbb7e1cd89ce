use Rattle.pef_pages.proofs.Frames.{frames-set}
use Rattle.pef_pages.proofs.laws.frames_move_singly.Goals as goal

-- the frames are counted page by page, and one page changes
pub returns : goal.returns
returns g c = frames-set
